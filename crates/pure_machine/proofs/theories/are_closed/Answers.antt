use Rattle.std.proofs.Common.{◌++◌, ◌∷◌, [], refl}
use Rattle.pure_machine.proofs.ReadyLaws.{closed_values-turn, closed_values-none}
use Rattle.pure_machine.proofs.theories.are_closed.Goals as goal

pub returns-in-None : goal.returns-in-None
returns-in-None g c = closed_values-none c.args.theories.now c.args.numbers.now c.loop-number.number-index _ c.loop-number-test.true refl c.in-None.ensures

pub loop-number-preserved : goal.loop-number-preserved
loop-number-preserved g c = (c.loop-number.invariant.0 ++ c.in-Some.field-0.now.value ∷ [], closed_values-turn c.args.theories.now c.args.numbers.now c.loop-number.number-index _ c.loop-number.invariant.0 c.in-Some.field-0.now.value c.loop-number-test.true refl c.loop-number.invariant.1 c.in-Some.ensures)
