use Rattle.std.proofs.Common.{ap, sym, ◌∙◌}
use Rattle.pure_logic.specs.Derivable.{Theorem}
use Rattle.pure_unify.specs.Unified.{seen}
use Rattle.pure_goal_steps.specs.Follows.{with_unifier}
use Rattle.pure_resolve.proofs.FollowLaws.{first_is_implication, behind_first}
use Rattle.pure_resolve.proofs.RestLaws.{before_others, long_front}
use Rattle.pure_resolve.proofs.follow.with_unifier.Goals as goal

pub unreachable-requires : goal.unreachable-requires
unreachable-requires g c = first_is_implication c.args.goal.now c.requires.goal c.goal.inside.prop (ap (λ (t : Theorem). t.prop) c.goal.view_is) c.in_default.ensures

pub before_rest-requires-clause-front : goal.before_rest-requires-clause-front
before_rest-requires-clause-front g c =
    let h = c.requires.goal in
    let e = ap (λ (t : Theorem). t.prop) (sym c.goal.view_is) ∙ c.in-Some.ensures in
    long_front c.args.goal.now h c.args.unifier.typs c.args.unifier.terms c.in-Some-count_set.count c.in-Some.field-0-0.now c.in-Some.rest.now e (c.in-Some-count_set.ensures h.others h.state.statement (behind_first c.args.goal.now h c.in-Some.field-0-0.now c.in-Some.rest.now e))

pub returns-in-Some-count_set : goal.returns-in-Some-count_set
returns-in-Some-count_set g c = λ s first others a is stand p.
    let h = c.requires.goal in
    let e = ap (λ (t : Theorem). t.prop) (sym c.goal.view_is) ∙ c.in-Some.ensures in
    c.before_rest.ensures (with_unifier s others a (seen c.args.unifier))
    (before_others c.args.goal.now h c.args.unifier c.args.premises.items c.in-Some-count_set.count c.in-Some.field-0-0.now c.in-Some.rest.now e (c.in-Some-count_set.ensures h.others h.state.statement (behind_first c.args.goal.now h c.in-Some.field-0-0.now c.in-Some.rest.now e)) s first others a is stand p)
