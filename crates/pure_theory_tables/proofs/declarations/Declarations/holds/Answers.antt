use Rattle.pure_theory_tables.proofs.GetLaws.{get_in}
use Rattle.pure_theory_tables.proofs.declarations.Declarations.holds.Goals as goal

pub returns-then-is_at : goal.returns-then-is_at
returns-then-is_at c = (λ t. get_in _ c.args.place _ (c.is_at.ensures.0 t), λ m. c.if-is_at.true)
