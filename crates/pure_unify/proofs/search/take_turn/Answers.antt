use Rattle.std.proofs.Common.{List, ◌++◌, sym, subst, arith}
use Rattle.std.specs.Prelude.{Err}
use Rattle.pure_unify_definitions.specs.Node as nodes
use Rattle.pure_unify_definitions.specs.Search.{Searches}
use Rattle.pure_unify.specs.declared.search.Frame.{Frame}
use Rattle.pure_unify.specs.Unified.{IsToldAs}
use Rattle.pure_unify.specs.Frames.{HoldNodes}
use Rattle.pure_unify.proofs.FrameLaws.{hold_last, hold_none, step_nodes}
use Rattle.pure_unify.proofs.search.take_turn.Goals as goal

pub returns-in-Some-clause-answer : goal.returns-in-Some-clause-answer
returns-in-Some-clause-answer c ns hold =
    let last = hold_last c.pop.new.self.items c.in-Some.frame ns (subst (λ (fs : List Frame). HoldNodes fs ns) c.in-Some.ensures.items hold) in
    step_nodes c.args.order.now c.args.maxidx c.args.search.now.visited c.args.search.now.cut (last.mine ++ last.later) ns c.explore.new.search c.explore.result last.are (c.explore.ensures.answer last.mine last.later last.own last.others)

pub returns-in-None-clause-answer : goal.returns-in-None-clause-answer
returns-in-None-clause-answer c ns hold =
    let none = hold_none c.args.search.now.frames.items ns (omega (arith, c.in-None.ensures.cases.0, c.args.search.now.frames.ok.0)) hold in
    subst (λ (xs : List nodes.Node). IsToldAs (Searches c.args.order.now c.args.maxidx c.args.search.now.visited c.args.search.now.cut xs) (Err c.over.result)) (sym none)
    (c.over.ensures c.args.order.now c.args.maxidx c.args.search.now.visited)
