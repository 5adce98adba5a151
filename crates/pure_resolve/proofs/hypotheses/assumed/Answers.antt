use Rattle.std.proofs.Common.{List, map, ap, sym, subst, ◌∙◌}
use Rattle.pure_definitions.specs.Declarations.Decl.{algebra_of}
use Rattle.pure_logic.specs.Derivable.{Theorem}
use Rattle.pure_goal_steps.specs.Reading.{IsRead}
use Rattle.pure_goal_steps.specs.Follows.{FollowsByFirst}
use Rattle.pure_goal_steps.specs.Steps.{assumption_attempt}
use Rattle.pure_goal_rules.specs.Shown.{shown}
use Rattle.pure_goal_rules.specs.declared.item.Item.{Item}
use Rattle.pure_resolve.specs.Uses.{places_from}
use Rattle.pure_resolve.proofs.UseLaws.{first_of_goal, assumed_may, assumed_answer, rests_along}
use Rattle.pure_resolve.proofs.hypotheses.assumed.Goals as goal

pub tried_from-requires-clause-first : goal.tried_from-requires-clause-first
tried_from-requires-clause-first g c = first_of_goal (g.B.Base.content c.args.thy.now) c.args.goal.now c.requires.may c.args.first.now c.requires.first

pub tried_from-requires-clause-may : goal.tried_from-requires-clause-may
tried_from-requires-clause-may g c = λ p e.
    assumed_may (g.B.Base.content c.args.thy.now) c.args.goal.now c.requires.may c.args.first.now c.requires.first (shown c.as_slice-items.result.now) c.in_ok-parts.parts.conclusion.now
    (subst (λ (items : List Item). IsRead c.args.first.now (shown items) c.in_ok-parts.parts.conclusion.now) (sym c.as_slice-items.ensures.value) c.in_ok-parts.ensures) p e

pub returns : goal.returns
returns g c =
    assumed_answer (algebra_of (g.B.Base.content c.args.thy.now).declarations) c.args.goal.now c.requires.may.is c.args.first.now c.requires.first c.as_slice-items.result.now c.in_ok-parts.parts.conclusion.now
    (subst (λ (items : List Item). IsRead c.args.first.now (shown items) c.in_ok-parts.parts.conclusion.now) (sym c.as_slice-items.ensures.value) c.in_ok-parts.ensures) c.in_ok-maxidx.maxidx c.in_ok-maxidx.ensures c.tried_from.result
    (λ s first others is stand.
    rests_along (FollowsByFirst (algebra_of (g.B.Base.content c.args.thy.now).declarations) c.in_ok-maxidx.maxidx s others (map (assumption_attempt c.in_ok-parts.parts.conclusion.now) (places_from c.as_slice-items.result.now 0))) c.as_slice-rests.result.now c.args.goal.now.rests
    (c.as_slice-rests.ensures.value ∙ ap (λ (t : Theorem). t.rests) c.goal.view_is) c.tried_from.result (c.tried_from.ensures s first others is stand))
