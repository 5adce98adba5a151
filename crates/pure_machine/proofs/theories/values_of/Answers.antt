use Rattle.std.proofs.Common.{refl}
use Rattle.pure_machine.proofs.ReadyLaws.{closed_values-none, values-turn}
use Rattle.pure_machine.proofs.theories.values_of.Goals as goal

pub unreachable-requires : goal.unreachable-requires
unreachable-requires g c = c.requires (closed_values-none c.args.theories.now c.args.numbers.now c.loop-number.number-index _ c.loop-number-test.true refl c.in-None.ensures)

pub loop-number-preserved : goal.loop-number-preserved
loop-number-preserved g c = values-turn (λ p. p.value) c.args.theories.now c.args.numbers.now c.loop-number.number-index _ c.loop-number.values.items c.push.new.self.items c.in_ok-value-in-Some.value _ c.loop-number-test.true refl c.loop-number.invariant c.in-Some.ensures c.in_ok-value-in-Some.ensures c.in_ok-push-in-Some.ensures.items
