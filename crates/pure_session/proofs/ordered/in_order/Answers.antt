use Rattle.std.proofs.Common.{map, ap, ◌∙◌}
use Rattle.pure_session.proofs.OrderedLemmas.{same-texts}
use Rattle.pure_session.proofs.ordered.in_order.Goals as goal

pub returns-clause-same : goal.returns-clause-same
returns-clause-same c =
    same-texts c.in_ok-all.all (map (λ text. text.now) c.put_in_order.new.texts.items) (map (λ text. text.now) c.in_ok-texts.texts.items) c.args.list.now
    (c.in_ok-all.ensures ∙ ap (map (λ text. text.now)) c.as_slice.ensures.value) c.in_ok-texts.ensures c.put_in_order.ensures.same
