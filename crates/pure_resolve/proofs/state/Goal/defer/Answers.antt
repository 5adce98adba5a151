use Rattle.std.proofs.Common.{ap, ◌∙◌}
use Rattle.pure_resolve.proofs.CallLaws.{goal_left_typed, defer_none, defer_moved, defer_derivable}
use Rattle.pure_resolve.specs.declared.state.Goal.{Goal}
use Rattle.pure_resolve.proofs.state.Goal.defer.Goals as goal

pub returns-in_default-clause-answer : goal.returns-in_default-clause-answer
returns-in_default-clause-answer g c =
    let h = c.requires in
    defer_none c.args.self.now.thm h (c.in_default.ensures.premise h.state.subgoals h.state.statement (ap (λ (x : Goal). x.thm.prop) c.self.view_is ∙ h.is.prop))

pub with_proposition-requires : goal.with_proposition-requires
with_proposition-requires g c = goal_left_typed c.args.self.now.thm c.requires

pub returns-clause-answer : goal.returns-clause-answer
returns-clause-answer g c =
    let h = c.requires in
    let first = c.in-Some.ensures.premise h.state.subgoals h.state.statement (ap (λ (x : Goal). x.thm.prop) c.self.view_is ∙ h.is.prop) in
    defer_moved c.args.self.now.thm h c.in-Some.first.now.value c.in-Some.rest.now.value first c.in_ok-prop.prop c.in_ok-prop.ensures c.with_proposition.result c.with_proposition.ensures

pub returns-clause-derivable : goal.returns-clause-derivable
returns-clause-derivable g c = λ q h. defer_derivable (g.B.Base.content c.args._thy.now) c.args.self.now.thm c.with_proposition.result (returns-clause-answer g c) q h
