use Rattle.std.proofs.Common.{refl}
use Rattle.pure_text.proofs.AnswerLaws.{yes_as, no_as}
use Rattle.pure_theory_tables.proofs.declarations.Declarations.declares_fact.Goals as goal

pub returns-in-None : goal.returns-in-None
returns-in-None c = no_as _ (λ p. c.in-None.ensures p.0 p.1)

pub returns-in-Some : goal.returns-in-Some
returns-in-Some c = yes_as _ (c.in-Some.field-0.now, (c.in-Some.ensures c.in-Some.field-0.now).1 refl)
