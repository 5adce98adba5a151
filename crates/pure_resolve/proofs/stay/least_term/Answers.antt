use Rattle.std.proofs.Common.{◌≤◌, take, take_all, arith}
use Rattle.pure_text.proofs.LoopLaws.{each_turn}
use Rattle.pure_definitions.specs.Terms.Subst.{TermBind}
use Rattle.pure_resolve.proofs.StayLaws.{lower_terms}
use Rattle.pure_resolve.proofs.stay.least_term.Goals as goal

pub loop-bind-preserved : goal.loop-bind-preserved
loop-bind-preserved c =
    each_turn (λ (b : TermBind). c.min-least.result ≤ b.index) c.args.binds.now c.loop-bind.bind-index c.bind-item.result c.loop-bind-test.true c.bind-item.is
    (lower_terms (take c.loop-bind.bind-index c.args.binds.now) c.loop-bind.least c.min-least.result (omega arith) c.loop-bind.invariant) (rw (← c.bind.view_is) (omega arith))

pub returns : goal.returns
returns c = rw (take_all c.loop-bind.bind-index c.args.binds.now c.loop-bind-test.false) at c.loop-bind.invariant
