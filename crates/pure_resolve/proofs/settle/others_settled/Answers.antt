use Rattle.std.proofs.Common.{arith}
use Rattle.std.specs.Vec.Iter.{into_iter_items}
use Rattle.pure_definitions.specs.Reduction.Eta.{IsLongForm}
use Rattle.pure_logic.specs.Laws.Maps.{instantiated}
use Rattle.pure_resolve.proofs.SettleLaws.{others_none, next_with, others_turn, others_end, others_fault}
use Rattle.pure_resolve.proofs.settle.others_settled.Goals as goal

pub loop-other-init : goal.loop-other-init
loop-other-init g c = others_none (λ A. IsLongForm A A) (instantiated c.args.typs.now c.args.terms.now) c.args.front.items c.args.others.items (into_iter_items c.into_iter-other-iterator.result) c.into_iter-other-iterator.ensures.into_iter_gives.0 c.requires

pub kept_or_settled-requires-clause-long : goal.kept_or_settled-requires-clause-long
kept_or_settled-requires-clause-long g c = next_with (λ A. IsLongForm A A) (instantiated c.args.typs.now c.args.terms.now) c.args.front.items c.args.others.items (into_iter_items c.loop-other.other-iterator) (into_iter_items c.next.new.self) c.loop-other.made.items c.in-Some.other c.in-Some.ensures.steps.0 c.loop-other.invariant

pub loop-other-preserved : goal.loop-other-preserved
loop-other-preserved g c =
    others_turn (λ A. IsLongForm A A) (instantiated c.args.typs.now c.args.terms.now) c.args.front.items c.args.others.items (into_iter_items c.loop-other.other-iterator) (into_iter_items c.next.new.self) c.loop-other.made.items c.put.new.list.items c.in-Some.other c.in-Ok.long
    c.in-Some.ensures.steps.0 c.in_ok-put-in-Ok.ensures c.in-Ok.ensures c.loop-other.invariant

pub returns-in-Err-clause-fault : goal.returns-in-Err-clause-fault
returns-in-Err-clause-fault g c =
    others_fault (λ A. IsLongForm A A) (instantiated c.args.typs.now c.args.terms.now) c.args.front.items c.args.others.items (into_iter_items c.loop-other.other-iterator) (into_iter_items c.next.new.self) c.loop-other.made.items c.in-Some.other c.in-Err.fault
    c.in-Some.ensures.steps.0 c.in-Err.ensures c.loop-other.invariant

pub returns-clause-long : goal.returns-clause-long
returns-clause-long g c =
    others_end (λ A. IsLongForm A A) (instantiated c.args.typs.now c.args.terms.now) c.args.front.items c.args.others.items (into_iter_items c.loop-other.other-iterator) c.loop-other.made.items (omega (arith, c.loop-other.other-iterator.rest.ok.0, c.in-None.ensures.steps.0)) c.loop-other.invariant
