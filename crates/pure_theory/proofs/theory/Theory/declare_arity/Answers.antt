use Rattle.pure_theory.proofs.GrowthLaws.{arity_stage}
use Rattle.pure_theory.proofs.RefusalLaws.{new_arity}
use Rattle.pure_theory.proofs.theory.Theory.declare_arity.Goals as goal

pub with-requires : goal.with-requires
with-requires c =
    let known = rw c.in_ok-given.ensures.equal at c.in_ok-order.ensures.new in
    rw (← c.self.view_is, c.in_ok-declared.ensures, c.in_ok-domains.ensures)
    (arity_stage _ c.self.invariant.sound c.order.result.now _ (rw (← c.self.view_is) at c.order.ensures) c.in_ok-order.ensures.coregular (record { con = c.args.con; domains = c.args.doms.now; class = c.args.class })
    (rw (← c.self.view_is) at c.in_ok-check_count.ensures.ok) known.0 known.1 c.in_ok-given.ensures.ascend (rw c.in_ok-given.ensures.equal at c.in_ok-order.ensures.ok))

pub returns-clause-new : goal.returns-clause-new
returns-clause-new c =
    let known = rw c.in_ok-given.ensures.equal at c.in_ok-order.ensures.new in
    new_arity c.args.self.now.declarations c.order.result.now (record { con = c.args.con; domains = c.args.doms.now; class = c.args.class }) c.order.ensures c.in_ok-check_count.ensures.ok known.0 known.1
