use Rattle.std.proofs.Common.{◌+◌, ◌∙◌, ap}
use Rattle.pure_tunify.proofs.UnifyLaws.{come_next, come_passed_at}
use Rattle.pure_tunify.proofs.unifier.solve_all.Goals as goal

pub returns-in-Ok-Large : goal.returns-in-Ok-Large
returns-in-Ok-Large c = come_passed_at c.args.order.now c.args.settings.now.index c.args.settings.now.next c.args.pairs.now c.loop-pair.pair-index c.loop-pair.settings c.pair-item.result c.loop-pair.invariant.come c.loop-pair-test.true c.pair-item.is
    c.solve.new.settings c.loop-pair.index c.loop-pair.invariant.number (rw c.in-Ok-Large.field-0-is at c.in-Ok-Large.ensures)

pub loop-pair-preserved : goal.loop-pair-preserved
loop-pair-preserved c = record {
  come = come_next c.args.order.now c.args.settings.now.index c.args.settings.now.next c.args.pairs.now c.loop-pair.pair-index c.loop-pair.settings c.pair-item.result c.loop-pair.invariant.come c.loop-pair-test.true c.pair-item.is
      c.solve.new.settings (rw c.in-Ok-Further.field-0-is at c.in-Ok-Further.ensures);
  number = c.in-Some.ensures.1 ∙ ap (λ n. n + 1) c.loop-pair.invariant.number;
}
