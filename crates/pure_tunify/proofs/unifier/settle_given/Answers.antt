use Rattle.std.proofs.Common.{Bool, length, subst}
use Rattle.std.specs.Bool.{OnTrue}
use Rattle.pure_tunify.specs.Passes.{HasCome}
use Rattle.pure_tunify.specs.Settings.{AreWithinLimits}
use Rattle.pure_tunify.proofs.WorkLaws.{when_true}
use Rattle.pure_tunify.proofs.UnifyLaws.{come_settled}
use Rattle.pure_tunify.proofs.unifier.settle_given.Goals as goal

pub returns : goal.returns
returns c =
    let within : AreWithinLimits c.solve_each.new.settings.sets c.solve_each.new.settings.next = when_true _ _ c.in_ok-within.within c.in_ok-within.ensures c.if-not-within.false in
    let come = subst (λ (done : Bool). OnTrue done (HasCome c.args.order.now c.start-settings.result.index c.start-settings.result.next c.args.pairs.items (length c.args.pairs.items) c.solve_each.new.settings)) c.if-not-done.false c.in_ok-done.ensures in
    come_settled c.args.order.now c.args.index c.args.from c.args.pairs.items c.start-settings.result c.solve_each.new.settings c.start-settings.ensures come within c.binds.ensures.tidy.triangular
