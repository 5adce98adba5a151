use Rattle.pure_text.proofs.AnswerLaws.{yes_as, test_fails}
use Rattle.pure_theory_tables.specs.View.{decl_of}
use Rattle.pure_theory_tables.proofs.AgreementLaws.{class_here, class_absent}
use Rattle.pure_theory_tables.proofs.declarations.Declarations.is_class_listed.Goals as goal

pub returns-then-is_class : goal.returns-then-is_class
returns-then-is_class c = yes_as _ (class_here c.args.self.now c.loop-place.place (decl_of c.in-Some.entry.now) c.args.name c.in-Some.ensures (c.is_class.ensures.0 c.if-is_class.true))

pub loop-place-preserved : goal.loop-place-preserved
loop-place-preserved c = class_absent c.args.self.now c.loop-place.place (decl_of c.in-Some.entry.now) c.args.name c.in-Some.ensures c.loop-place.invariant (test_fails _ c.is_class.result c.is_class.ensures c.if-is_class.false)
