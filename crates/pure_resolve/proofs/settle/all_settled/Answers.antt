use Rattle.std.proofs.Common.{List, [], sym, subst, arith}
use Rattle.std.specs.Vec.Iter.{into_iter_items}
use Rattle.pure_definitions.specs.Terms.Term.{Term}
use Rattle.pure_logic.specs.Laws.Maps.{instantiated}
use Rattle.pure_theorem.specs.Shapes.{IsTyped}
use Rattle.pure_goal_steps.specs.Follows.{no_more}
use Rattle.pure_resolve.proofs.SettleLaws.{ComesOn, others_none, next_with, others_turn, others_end, others_fault}
use Rattle.pure_resolve.proofs.settle.all_settled.Goals as goal

pub loop-subgoal-init : goal.loop-subgoal-init
loop-subgoal-init g c =
    let f = instantiated c.args.typs.now c.args.terms.now in
    let left = into_iter_items c.into_iter-subgoal-iterator.result in
    subst (λ (done : List Term). ComesOn IsTyped f [] c.args.subgoals.items left done) (sym c.new-made.ensures.items)
    (others_none IsTyped f [] c.args.subgoals.items left c.into_iter-subgoal-iterator.ensures.into_iter_gives.0 c.requires)

pub settled-requires-clause-typed : goal.settled-requires-clause-typed
settled-requires-clause-typed g c = next_with IsTyped (instantiated c.args.typs.now c.args.terms.now) [] c.args.subgoals.items (into_iter_items c.loop-subgoal.subgoal-iterator) (into_iter_items c.next.new.self) c.loop-subgoal.made.items c.in-Some.subgoal c.in-Some.ensures.steps.0 c.loop-subgoal.invariant

pub loop-subgoal-preserved : goal.loop-subgoal-preserved
loop-subgoal-preserved g c =
    others_turn IsTyped (instantiated c.args.typs.now c.args.terms.now) [] c.args.subgoals.items (into_iter_items c.loop-subgoal.subgoal-iterator) (into_iter_items c.next.new.self) c.loop-subgoal.made.items c.put.new.list.items c.in-Some.subgoal c.in-Ok.long
    c.in-Some.ensures.steps.0 c.in_ok-put-in-Ok.ensures c.in-Ok.ensures c.loop-subgoal.invariant

pub returns-in-Err-clause-fault : goal.returns-in-Err-clause-fault
returns-in-Err-clause-fault g c =
    others_fault IsTyped (instantiated c.args.typs.now c.args.terms.now) [] c.args.subgoals.items (into_iter_items c.loop-subgoal.subgoal-iterator) (into_iter_items c.next.new.self) c.loop-subgoal.made.items c.in-Some.subgoal c.in-Err.fault
    c.in-Some.ensures.steps.0 c.in-Err.ensures c.loop-subgoal.invariant [] no_more

pub returns-clause-long : goal.returns-clause-long
returns-clause-long g c =
    others_end IsTyped (instantiated c.args.typs.now c.args.terms.now) [] c.args.subgoals.items (into_iter_items c.loop-subgoal.subgoal-iterator) c.loop-subgoal.made.items (omega (arith, c.loop-subgoal.subgoal-iterator.rest.ok.0, c.in-None.ensures.steps.0)) c.loop-subgoal.invariant [] no_more
