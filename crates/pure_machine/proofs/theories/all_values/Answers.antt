use Rattle.pure_machine.proofs.ValueLaws.{values-more}
use Rattle.pure_machine.proofs.theories.all_values.Goals as goal

pub loop-theory-preserved : goal.loop-theory-preserved
loop-theory-preserved g c = values-more c.args.theories.now c.loop-theory.theory-index _ c.loop-theory-test.true _ _ c.loop-theory.invariant c.in_ok-put_value.ensures c.theory-item.is
