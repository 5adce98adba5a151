use Rattle.std.proofs.Common.{subst, Bool, arith}
use Rattle.std.specs.Bool.{OnTrue}
use Rattle.pure_tunify.specs.Passes.{HasCome}
use Rattle.pure_tunify.proofs.UnifyLaws.{judged_decided}
use Rattle.pure_tunify.proofs.unifier.decide_at.Goals as goal

pub returns : goal.returns
returns c =
    let come = subst (λ (done : Bool). OnTrue done (HasCome c.args.order.now c.start-settings.result.index c.start-settings.result.next c.args.pairs.now c.args.at c.solve_front.new.settings)) c.if-not-done.false c.in_ok-done.ensures in
    let inside = c.if-pairs-place.false in
    judged_decided c.args.order.now c.args.index c.args.from c.args.pairs.now c.start-settings.result c.solve_front.new.settings c.start-settings.ensures c.args.at c.index-pairs-place.result (omega arith) c.index-pairs-place.is come c.judge.result c.judge.ensures
