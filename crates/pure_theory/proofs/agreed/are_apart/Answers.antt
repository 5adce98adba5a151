use Rattle.pure_text.proofs.AnswerLaws.{test_fails, no_as}
use Rattle.pure_theory.proofs.AgreedLaws.{each_told, each_new}
use Rattle.pure_theory.proofs.agreed.are_apart.Goals as goal

pub returns-then-not-is_new_over : goal.returns-then-not-is_new_over
returns-then-not-is_new_over c = no_as _ (λ p. test_fails _ c.is_new_over.result c.is_new_over.ensures c.if-not-is_new_over.true ((each_new c.args.theory c.args.theories.now).1 p.1))

pub returns : goal.returns
returns c = (
  λ t. ((each_told c.args.theories.now).0 (c.are_told_apart.ensures.0 t), (each_new c.args.theory c.args.theories.now).0 (c.is_new_over.ensures.0 c.if-not-is_new_over.false)),
  λ p. c.are_told_apart.ensures.1 ((each_told c.args.theories.now).1 p.0),
)
