use Rattle.pure_tunify.specs.Settings.{AreWithinLimits}
use Rattle.pure_tunify.proofs.WorkLaws.{when_true}
use Rattle.pure_tunify.proofs.UnifyLaws.{come_settled}
use Rattle.pure_tunify.proofs.unifier.settle_at_once.Goals as goal

pub returns-else-not-within-2-clause-ok : goal.returns-else-not-within-2-clause-ok
returns-else-not-within-2-clause-ok c =
    let within : AreWithinLimits c.solve_all.new.settings.sets c.solve_all.new.settings.next = when_true _ _ c.in_ok-within-in-Whole.within c.in_ok-within-in-Whole.ensures c.if-not-within-2.false in
    come_settled c.args.order.now c.args.index c.args.from c.args.pairs.now c.start-settings.result c.solve_all.new.settings c.start-settings.ensures c.in-Whole.ensures within c.binds.ensures.tidy.triangular
