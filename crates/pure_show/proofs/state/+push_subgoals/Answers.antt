use Rattle.pure_resolve.proofs.ChainLaws.{no-premise}
use Rattle.pure_show.proofs.LineLaws.{subgoals-behind, subgoals-none}
use Rattle.pure_show.proofs.state.+push_subgoals.Goals as goal

pub returns-in-None : goal.returns-in-None
returns-in-None t c As C e = subgoals-none c.args.names.now c.args.number c.args.text.now.items As (no-premise c.args.t.now As C c.in-None.ensures e)

pub returns-in_ok-next-in-Some : goal.returns-in_ok-next-in-Some
returns-in_ok-next-in-Some t c =
    subgoals-behind c.args.names.now c.args.number _ c.args.t.now c.in-Some.premise.now c.in-Some.rest.now c.in-Some.ensures c.in_ok-next-in-Some.ensures
    c.args.text.now.items _ _ c.in_ok-push_subgoal-in-Some.ensures c.push_subgoals.result c.push_subgoals.ensures
