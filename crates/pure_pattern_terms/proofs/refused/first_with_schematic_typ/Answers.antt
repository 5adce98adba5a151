use Rattle.std.proofs.Common.{take_all}
use Rattle.pure_text.proofs.AnswerLaws.{test_fails}
use Rattle.pure_theorem.proofs.FirstLaws.{first-at, lacking-turn}
use Rattle.pure_pattern_laws.specs.Patterns.{HasSchematicTyp}
use Rattle.pure_pattern_terms.proofs.refused.first_with_schematic_typ.Goals as goal

pub returns-then-has_schematic_side : goal.returns-then-has_schematic_side
returns-then-has_schematic_side c =
    first-at HasSchematicTyp c.args.pairs.now c.loop-place.place c.index-pairs-place.result c.cut_place.result c.loop-place-test.true c.index-pairs-place.is c.loop-place.invariant (c.has_schematic_side.ensures.0 c.if-has_schematic_side.true)
    c.cut_place.ensures

pub loop-place-preserved : goal.loop-place-preserved
loop-place-preserved c =
    lacking-turn HasSchematicTyp c.args.pairs.now c.loop-place.place c.index-pairs-place.result c.loop-place-test.true c.index-pairs-place.is c.loop-place.invariant
    (test_fails (HasSchematicTyp c.index-pairs-place.result) c.has_schematic_side.result c.has_schematic_side.ensures c.if-has_schematic_side.false)

pub returns : goal.returns
returns c = rw (take_all c.loop-place.place c.args.pairs.now c.loop-place-test.false) at c.loop-place.invariant
