use Rattle.pure_text.proofs.ListLaws.{any_read}
use Rattle.pure_definitions.specs.Types.Occurs.{OccursInTyp}
use Rattle.pure_tunify.proofs.reached.occurs_in_any.Goals as goal

pub returns-then-variable_occurs : goal.returns-then-variable_occurs
returns-then-variable_occurs c = any_read (OccursInTyp c.args.variable.now) c.args.typs.now c.loop-typ.typ-index c.typ-item.result c.loop-typ-test.true c.typ-item.is (c.variable_occurs.ensures.0 c.if-variable_occurs.true)
