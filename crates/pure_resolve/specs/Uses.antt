-- What calls on goals ask of the goal and of the fact; and the ways to use a hypothesis.
use Rattle.std.specs.Prelude.{◌≡◌, ℕ, List, [], ◌∷◌, map, take, drop, Result}
use Rattle.pure_definitions.specs.Names.{Label}
use Rattle.pure_definitions.specs.Types.Order.{Algebra}
use Rattle.pure_definitions.specs.Terms.Term.{Term}
use Rattle.pure_definitions.specs.Reduction.Beta.{IsBetaNormal}
use Rattle.pure_logic.specs.Connectives.{imp}
use Rattle.pure_logic.specs.Content.{Content}
use Rattle.pure_logic.specs.Derivable.{Theorem, IsDerivable}
use Rattle.pure_theorem.specs.Facts.{IsTheoryContent}
use Rattle.pure_goal_steps.specs.Reading.{Place, places, around, IsRuleOf, rule_maxidx}
use Rattle.pure_goal_steps.specs.Follows.{Attempt, FollowsByFirst}
use Rattle.pure_goal_steps.specs.declared.fault.StepFault.{StepFault}
use Rattle.pure_goal_steps.specs.Steps.{rule_attempt, elimination_attempt, destruction_attempt, assumption_attempt}
use Rattle.pure_goal_rules.specs.declared.item.Item.{Item}
use Rattle.pure_goal_rules.specs.declared.read.Parts.{Parts}
use Rattle.pure_goal_rules.specs.Shown.{shown}
use Rattle.pure_goal_rules.specs.Attempts.{seen_attempt}
use Rattle.pure_resolve.specs.Goals.{IsGoalTheorem, IsOutcomeFrom}
use Rattle.pure_resolve.specs.Settled.{MayAttempt}
use Rattle.pure_resolve.specs.declared.state.Goal.{Goal}
use Rattle.pure_resolve.specs.declared.resolve.Resolver.{Resolver}
use Rattle.pure_resolve.specs.declared.resolve.Trying.{Trying}
use Rattle.pure_resolve.specs.declared.trial.Use.{Use}
use Rattle.pure_resolve.specs.declared.trial.Use.TheVariants.{Assume, Eliminate, Destruct}

-- A step may be made on the goal: it is one that steps may start from, and is derivable in the theory.
pub record MayStep (Q : Content) (goal : Theorem) : Type 0 where
  pub content : IsTheoryContent Q
  pub is : IsGoalTheorem goal
  pub derivable : IsDerivable Q goal

-- The fact may be used in a step on the goal: it is derivable in the theory, has no hypotheses and no pairs, and is beta-normal.
pub record MayUse (Q : Content) (goal fact : Theorem) : Type 0 where
  pub step : MayStep Q goal
  pub no_hyps : fact.hyps ≡ []
  pub no_pairs : fact.pairs ≡ []
  pub normal : IsBetaNormal fact.prop
  pub derivable : IsDerivable Q fact

-- The fact is used on the goal as this rule, and this is the greatest index of both.
pub record IsResolver (goal fact : Theorem) (r : Resolver) : Type 0 where
  pub rule : IsRuleOf goal fact r.rule.premises.items r.rule.conclusion
  pub maxidx : r.maxidx ≡ rule_maxidx goal fact

-- the attempt to use the hypothesis at a place
abbrev pub attempted : Use → (C : Term) → Place → Attempt
attempted Assume C p = assumption_attempt C p
attempted (Eliminate r) C p = elimination_attempt C r.first.now r.others.now r.conclusion.now p
attempted (Destruct r) C p = destruction_attempt C r.first.now r.others.now r.conclusion.now p

-- The term is the goal's first subgoal.
abbrev pub IsFirstSubgoal : (goal : Theorem) → Term → Type 0
IsFirstSubgoal goal A = (B : Term) × (goal.prop ≡ imp A B)

-- What is tried on a subgoal that is read so: the attempt with the rule, and the greatest index.
pub record IsRuleAttempt (parts : Parts) (r : Resolver) (t : Trying) : Type 0 where
  pub attempt : seen_attempt t.attempt ≡ rule_attempt (shown parts.prefix.items) parts.conclusion.now r.rule.premises.items r.rule.conclusion
  pub maxidx : t.maxidx ≡ r.maxidx

-- The same with the rule that the fact is.
pub record IsFactAttempt (goal fact : Theorem) (parts : Parts) (t : Trying) : Type 0 where
  pub premises : List Term
  pub conclusion : Term
  pub rule : IsRuleOf goal fact premises conclusion
  pub attempt : seen_attempt t.attempt ≡ rule_attempt (shown parts.prefix.items) parts.conclusion.now premises conclusion
  pub maxidx : t.maxidx ≡ rule_maxidx goal fact

-- the places of the hypotheses from an item on
abbrev pub places_from : List Item → ℕ → List Place
places_from items from = places (shown (take from items)) (shown (drop from items))

-- the attempts to use the hypotheses from an item on
abbrev pub attempts_from : Use → (C : Term) → List Item → ℕ → List Attempt
attempts_from used C items from = map (attempted used C) (places_from items from)

-- Whatever premises the rule has, its use on the hypothesis at each place may be attempted.
abbrev pub MayAttemptEach : (goal : Theorem) → Parts → Resolver → (attempt : (C P : Term) → List Term → (B : Term) → Place → Attempt) → Type 0
MayAttemptEach goal parts r attempt = (P : Term) → (As : List Term) → r.rule.premises.items ≡ P ∷ As → (p : Place) → shown parts.prefix.items ≡ around p → MayAttempt goal (attempt parts.conclusion.now P As r.rule.conclusion p)

-- Whatever premises the rule has: what follows from its use on the first hypothesis that serves.
abbrev pub IsFirstServed : Algebra → (goal : Theorem) → Parts → Resolver → (attempt : (C P : Term) → List Term → (B : Term) → Place → Attempt) → (rests : List Label) → Result Goal StepFault → Type 0
IsFirstServed A goal parts r attempt rests result = (P : Term) → (As : List Term) → r.rule.premises.items ≡ P ∷ As
    → IsOutcomeFrom goal (λ s others. FollowsByFirst A r.maxidx s others (map (attempt parts.conclusion.now P As r.rule.conclusion) (places_from parts.prefix.items 0))) rests result
