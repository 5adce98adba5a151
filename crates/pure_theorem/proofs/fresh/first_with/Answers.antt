use Rattle.std.proofs.Common.{take_all}
use Rattle.pure_text.proofs.AnswerLaws.{test_fails}
use Rattle.pure_definitions.specs.Terms.Bounds.{Occurs}
use Rattle.pure_theorem.proofs.FirstLaws.{first-at, lacking-turn}
use Rattle.pure_theorem.proofs.fresh.first_with.Goals as goal

pub returns-then-occurs : goal.returns-then-occurs
returns-then-occurs c =
    first-at (Occurs c.args.variable.now) c.args.terms.now c.loop-place.place c.index-terms-place.result c.cut_place.result c.loop-place-test.true c.index-terms-place.is c.loop-place.invariant (c.occurs.ensures.0 c.if-occurs.true) c.cut_place.ensures

pub loop-place-preserved : goal.loop-place-preserved
loop-place-preserved c =
    lacking-turn (Occurs c.args.variable.now) c.args.terms.now c.loop-place.place c.index-terms-place.result c.loop-place-test.true c.index-terms-place.is c.loop-place.invariant
    (test_fails (Occurs c.args.variable.now c.index-terms-place.result) c.occurs.result c.occurs.ensures c.if-occurs.false)

pub returns : goal.returns
returns c = rw (take_all c.loop-place.place c.args.terms.now c.loop-place-test.false) at c.loop-place.invariant
