use Rattle.std.proofs.Common.{refl, ap, ◌∙◌, get_or}
use Rattle.pure_citations.proofs.IndexLaws.{lasts-more, befores-more}
use Rattle.pure_citations.proofs.index.add.Goals as goal

pub returns-clause-lasts : goal.returns-clause-lasts
returns-clause-lasts c =
    lasts-more c.args.codes.now c.args.index.now.last.items c.put_at.new.list.items c.args.place (get_or c.args.codes.now c.args.place 0) c.requires.within refl c.requires.lasts c.in_ok-put_at.ensures.here c.in_ok-put_at.ensures.others

pub returns-clause-befores : goal.returns-clause-befores
returns-clause-befores c =
    rw c.in_ok-push.ensures.items
    (befores-more c.args.codes.now c.args.index.now.before.items c.args.index.now.last.items c.args.place (get_or c.args.codes.now c.args.place 0) c.at-last.result c.requires.within refl c.requires.long c.requires.befores c.requires.lasts
    (c.at-last.ensures ∙ ap (λ xs. get_or xs (get_or c.args.codes.now c.args.place 0) 0) c.as_slice.ensures.value))
