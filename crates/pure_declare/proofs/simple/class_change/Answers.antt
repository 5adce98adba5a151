use Rattle.pure_text.proofs.AnswerLaws.{test_fails}
use Rattle.pure_lookup.specs.Meaning.{classes}
use Rattle.pure_declare.specs.Commands.{IsTaken}
use Rattle.pure_declare.proofs.SimpleLaws.{class-duplicate, class-next}
use Rattle.pure_declare.proofs.simple.class_change.Goals as goal

pub returns-then-is_class_taken : goal.returns-then-is_class_taken
returns-then-is_class_taken c = class-duplicate c.args.place.now c.args.name c.args.above.now (c.is_class_taken.ensures.0 c.if-is_class_taken.true)

pub new_class-requires : goal.new_class-requires
new_class-requires c = test_fails (IsTaken c.args.place.now classes c.args.name) c.is_class_taken.result c.is_class_taken.ensures c.if-is_class_taken.false

pub returns : goal.returns
returns c = class-next c.args.place.now c.args.name c.args.above.now c.new_class.result (test_fails (IsTaken c.args.place.now classes c.args.name) c.is_class_taken.result c.is_class_taken.ensures c.if-is_class_taken.false) c.new_class.ensures
