use Rattle.std.proofs.Common.{◌≡◌, ◌∙◌, ap, sym, Some, get_or}
use Rattle.std.specs.Prelude.{slice_get}
use Rattle.pure_text.proofs.ListLaws.{any_read}
use Rattle.pure_tunify.specs.GraphCode.{root_at}
use Rattle.pure_tunify.proofs.GraphClassLaws.{number_read}
use Rattle.pure_tunify.proofs.AskLaws.{when_true}
use Rattle.pure_tunify.proofs.ranks.has_unranked.Goals as goal

pub returns-then-is_unranked : goal.returns-then-is_unranked
returns-then-is_unranked c =
    any_read (λ kid. slice_get c.args.ranks.now (root_at c.args.roots.now kid) ≡ Some 0) c.args.kids.now c.loop-kid.kid-index (get_or c.args.kids.now c.loop-kid.kid-index 0) c.loop-kid-test.true (number_read c.args.kids.now c.loop-kid.kid-index c.loop-kid-test.true)
    (ap (slice_get c.args.ranks.now) (sym c.number_at-root.ensures) ∙ when_true _ _ c.is_unranked.result c.is_unranked.ensures c.if-is_unranked.true)
