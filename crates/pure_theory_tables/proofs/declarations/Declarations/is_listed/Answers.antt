use Rattle.pure_text.proofs.AnswerLaws.{yes_as, test_fails}
use Rattle.pure_theory_tables.proofs.GetLaws.{get_in, absent_turn}
use Rattle.pure_theory_tables.proofs.declarations.Declarations.is_listed.Goals as goal

pub returns-then-is_at : goal.returns-then-is_at
returns-then-is_at c = yes_as _ (get_in _ c.loop-place.place _ (c.is_at.ensures.0 c.if-is_at.true))

pub loop-place-preserved : goal.loop-place-preserved
loop-place-preserved c = absent_turn _ c.loop-place.place _ c.loop-place.invariant (test_fails _ c.is_at.result c.is_at.ensures c.if-is_at.false)
