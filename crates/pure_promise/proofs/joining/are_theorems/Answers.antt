use Rattle.pure_text.proofs.LoopLaws.{each_turn}
use Rattle.pure_promise.specs.Joining.{IsTheorem}
use Rattle.pure_promise.proofs.joining.are_theorems.Goals as goal

pub loop-entry-preserved : goal.loop-entry-preserved
loop-entry-preserved c = each_turn IsTheorem c.args.entries.now c.loop-entry.entry-index c.entry-item.result c.loop-entry-test.true c.entry-item.is c.loop-entry.invariant c.is_theorem.ensures
