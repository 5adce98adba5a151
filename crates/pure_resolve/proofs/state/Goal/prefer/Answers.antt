use Rattle.std.proofs.Common.{◌-◌, inl, inr, ap, ◌∙◌}
use Rattle.pure_resolve.proofs.ChainLaws.{cut_at}
use Rattle.pure_resolve.proofs.CallLaws.{goal_left_typed, too_few, enough, prefer_moved, prefer_derivable}
use Rattle.pure_resolve.proofs.StepLaws.{prefer_none}
use Rattle.pure_resolve.specs.declared.state.Goal.{Goal}
use Rattle.pure_resolve.proofs.state.Goal.prefer.Goals as goal

pub returns-then-n-eq0-clause-answer : goal.returns-then-n-eq0-clause-answer
returns-then-n-eq0-clause-answer g c = prefer_none c.args.self.now.thm c.requires c.args.n (inl c.if-n-eq0.true)

pub returns-then-not-has_premises-clause-answer : goal.returns-then-not-has_premises-clause-answer
returns-then-not-has_premises-clause-answer g c =
    let h = c.requires in
    let told = c.has_premises.ensures h.state.subgoals h.state.statement (ap (λ (x : Goal). x.thm.prop) c.self.view_is ∙ h.is.prop) in
    prefer_none c.args.self.now.thm h c.args.n (inr (too_few h.state.subgoals c.args.n c.has_premises.result told c.if-not-has_premises.true))

pub with_proposition-requires : goal.with_proposition-requires
with_proposition-requires g c = goal_left_typed c.args.self.now.thm c.requires

pub returns-clause-answer : goal.returns-clause-answer
returns-clause-answer g c =
    let h = c.requires in
    let same = ap (λ (x : Goal). x.thm.prop) c.self.view_is in
    let told = c.has_premises.ensures h.state.subgoals h.state.statement (same ∙ h.is.prop) in
    let cut = cut_at h.state.subgoals (c.args.n - 1) (enough h.state.subgoals c.args.n c.has_premises.result told c.if-not-has_premises.false c.if-n-eq0.false) in
    prefer_moved c.args.self.now.thm h _ same c.args.n cut c.if-n-eq0.false c.in_ok-prop.prop c.in_ok-prop.ensures c.with_proposition.result c.with_proposition.ensures

pub returns-clause-derivable : goal.returns-clause-derivable
returns-clause-derivable g c = λ q h. prefer_derivable (g.B.Base.content c.args._thy.now) c.args.self.now.thm c.args.n c.with_proposition.result (returns-clause-answer g c) q h
