use Rattle.pure_text.proofs.AnswerLaws.{no_as}
use Rattle.pure_theory_tables.proofs.NumberedLaws.{class_not_numbered, class_numbered}
use Rattle.pure_theory_tables.proofs.declarations.Declarations.declares_class.Goals as goal

pub returns-in-None : goal.returns-in-None
returns-in-None c = no_as _ (class_not_numbered c.self.inside.numbered c.args.self.now c.args.name (rw c.self.view_is at c.self.invariant.by_number) (rw c.name.view_is at c.in-None.ensures))

pub returns-then-is_class : goal.returns-then-is_class
returns-then-is_class c = (
  λ t. class_numbered c.self.inside.numbered c.args.self.now c.args.name c.name.inside.0 c.in-Some.entry.now (rw c.self.view_is at c.self.invariant.by_number) c.in-Some.ensures (c.is_class.ensures.0 t),
  λ m. c.if-is_class.true,
)
