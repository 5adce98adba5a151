use Rattle.std.proofs.Common.{refl, arith}
use Rattle.pure_graph.proofs.HeaderLemmas.{count-turn, count-end}
use Rattle.pure_theory_run.proofs.ItemLaws.{count-within}
use Rattle.pure_theory_run.proofs.parts.part_count.Goals as goal

pub loop-command-init : goal.loop-command-init
loop-command-init c = refl

pub loop-command-preserved : goal.loop-command-preserved
loop-command-preserved c =
    count-turn c.args.commands.now c.command-item.result c.loop-command.command-index c.loop-command.count c.command_parts-count.result c.loop-command-test.true c.command-item.is c.loop-command.invariant c.command_parts-count.ensures

pub overflow_add-count : goal.overflow_add-count
overflow_add-count c =
    omega (
      arith,
      count-within c.args.commands.now c.command-item.result c.loop-command.command-index c.loop-command.count c.command_parts-count.result c.loop-command-test.true c.command-item.is c.loop-command.invariant c.command_parts-count.ensures,
      c.requires,
    )

pub returns : goal.returns
returns c = count-end c.args.commands.now c.loop-command.command-index c.loop-command.count c.loop-command-test.false c.loop-command.invariant
