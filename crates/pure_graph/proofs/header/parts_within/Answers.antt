use Rattle.std.proofs.Common.{arith, refl}
use Rattle.pure_graph.proofs.HeaderLemmas.{count-turn}
use Rattle.pure_graph.proofs.header.parts_within.Goals as goal

pub loop-command-init : goal.loop-command-init
loop-command-init c = record { so_far = refl; within = omega arith }

pub loop-command-preserved : goal.loop-command-preserved
loop-command-preserved c = record {
  so_far = count-turn c.args.commands.now c.command-item.result c.loop-command.command-index c.loop-command.count c.command_parts-parts.result c.loop-command-test.true c.command-item.is c.loop-command.invariant.so_far c.command_parts-parts.ensures;
  within = omega (arith, c.if-parts-most.false, c.loop-command.invariant.within);
}
