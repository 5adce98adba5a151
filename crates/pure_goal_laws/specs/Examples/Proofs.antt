-- Worked examples: whole proofs by goal steps over Pure's own content.
use Rattle.std.specs.Prelude.{◌≡◌, List, [], ◌∷◌, ◌++◌}
use Rattle.pure_definitions.specs.Types.Typ.{arrow, prop}
use Rattle.pure_definitions.specs.Terms.Term.{Term, Var, Bound, Abs, App}
use Rattle.pure_term_laws.specs.LawsMaps.{sent}
use Rattle.pure_logic.specs.Connectives.{all, imp, eq, protect, chain}
use Rattle.pure_logic.specs.PureContent.{pure_content}
use Rattle.pure_logic.specs.Derivable.{Theorem, IsDerivable, IsDerivableAlone}
use Rattle.pure_goal_laws.specs.Prefix.{Item, Parameter, Hypothesis, behind, hypotheses}
use Rattle.pure_goal_laws.specs.Lifting.{lifted_behind}
use Rattle.pure_goal_laws.specs.GoalStep.{IsGoalStep, IsJustified, AreMatched, IsFactFor, IsRuleFor, lifted_premises, IsEliminated, destructed_premises}
use Rattle.pure_goal_laws.specs.Examples.Definitions.{a, b, any_a, any_b, any_f, any_g}

-- the goal with these subgoals for the proposition, without hypotheses and pairs, and resting on no promises
abbrev pub goal_for : (proposition : Term) → (subgoals : List Term) → Theorem
goal_for C subgoals = record { hyps = []; pairs = []; prop = chain subgoals (protect C); rests = [] }

-- The step from the first subgoal and the others to the premises and the others, by a map of terms, is a goal step; the new subgoals are given, as normal forms.
abbrev pub IsStepFor : (C : Term) → (subgoal : Term) → (others premises subgoals : List Term) → (terms : Term → Term) → Type 0
IsStepFor C subgoal others premises subgoals terms = IsGoalStep pure_content (goal_for C (subgoal ∷ others)) (goal_for C subgoals) subgoal others (protect C) premises (λ T. T) terms

-- `a ==> a`
abbrev pub itself : Term
itself = imp a a

-- `a ==> a` by assumption: the first goal `(a ==> a) ==> # (a ==> a)`, the step to the goal `# (a ==> a)` without subgoals, which is justified since the hypothesis is matched with the conclusion, and what it proves.
pub record AssumptionProof : Type 0 where
  pub start : IsDerivable pure_content (goal_for itself (itself ∷ []))
  pub matched : AreMatched pure_content (goal_for itself []) (λ T. T) (λ t. t) (Hypothesis a ∷ []) a a
  pub justified : IsJustified pure_content (goal_for itself []) itself [] (λ T. T) (λ t. t)
  pub assumption : IsStepFor itself itself [] [] [] (λ t. t)
  pub last : IsDerivable pure_content (goal_for itself [])
  pub proved : IsDerivableAlone pure_content itself

-- the fact `!!x y. x == y ==> y == x`
abbrev pub symmetry : Theorem
symmetry = record { hyps = []; pairs = []; prop = all prop (all prop (imp (eq prop (Bound 1) (Bound 0)) (eq prop (Bound 0) (Bound 1)))); rests = [] }

-- the prefix of `!!x. a == x ==> x == a`, this whole, and `!!x. a == x ==> a == x`
abbrev pub equal_to_a : List Item
equal_to_a = Parameter prop ∷ Hypothesis (eq prop a (Bound 0)) ∷ []

abbrev pub turned : Term
turned = behind equal_to_a (eq prop (Bound 0) a)

abbrev pub unturned : Term
unturned = behind equal_to_a (eq prop a (Bound 0))

-- the goal that the rule leaves
abbrev pub after_rule : Theorem
after_rule = goal_for turned (unturned ∷ [])

-- the map that puts `%x. a` for `?F`, and `%x. x` for `?G`
abbrev pub at_a_x : Term → Term
at_a_x = sent any_f (Abs prop a) (sent any_g (Abs prop (Bound 0)) (λ t. t))

-- `!!x. a == x ==> x == a` by the fact, as the rule from `?A == ?B` to `?B == ?A`. Lifted over x its conclusion is `?G x == ?F x`, which is matched with `x == a`, and its premise is `?F x == ?G x`. So the subgoal becomes `!!x. a == x ==> a == x`,
-- but for redexes, and this is proved by assumption.
pub record RuleProof : Type 0 where
  pub fact : IsDerivable pure_content symmetry
  pub start : IsDerivable pure_content (goal_for turned (turned ∷ []))
  pub is_rule : IsRuleFor pure_content after_rule symmetry 1 (eq prop any_a any_b ∷ []) (eq prop any_b any_a)
  pub matched : AreMatched pure_content after_rule (λ T. T) at_a_x equal_to_a (lifted_behind equal_to_a (eq prop any_b any_a)) (eq prop (Bound 0) a)
  pub premises : lifted_premises (λ T. T) at_a_x equal_to_a (eq prop any_a any_b ∷ []) ≡ behind equal_to_a (eq prop (App (Abs prop a) (Bound 0)) (App (Abs prop (Bound 0)) (Bound 0))) ∷ []
  pub justified : IsJustified pure_content after_rule turned (lifted_premises (λ T. T) at_a_x equal_to_a (eq prop any_a any_b ∷ [])) (λ T. T) at_a_x
  pub rule : IsStepFor turned turned [] (lifted_premises (λ T. T) at_a_x equal_to_a (eq prop any_a any_b ∷ [])) (unturned ∷ []) at_a_x
  pub next : IsDerivable pure_content after_rule
  pub matched_hypothesis : AreMatched pure_content (goal_for turned []) (λ T. T) (λ t. t) equal_to_a (eq prop a (Bound 0)) (eq prop a (Bound 0))
  pub assumption : IsStepFor turned unturned [] [] [] (λ t. t)
  pub proved : IsDerivableAlone pure_content turned

-- the fact `(?A ==> ?B) ==> ?A ==> ?B`, with variables of the index 0, which are raised by 1 when it is used
abbrev pub detachment : Theorem
detachment = record { hyps = []; pairs = []; prop = imp (imp (Var 10 0 prop) (Var 11 0 prop)) (imp (Var 10 0 prop) (Var 11 0 prop)); rests = [] }

-- the prefix of `!!x. (x ==> b) ==> (!!y. x ==> b)`: what stands before the hypothesis `x ==> b`, and what stands after it
abbrev pub outer : List Item
outer = Parameter prop ∷ []

abbrev pub inner : List Item
inner = Parameter prop ∷ Hypothesis (Bound 1) ∷ []

abbrev pub nested : List Item
nested = outer ++ Hypothesis (imp (Bound 0) b) ∷ inner

-- the whole, and `!!x y. x ==> x`
abbrev pub detached_within : Term
detached_within = behind nested b

abbrev pub itself_within : Term
itself_within = behind (outer ++ inner) (Bound 1)

-- the goal that the elimination leaves
abbrev pub after_elimination : Theorem
after_elimination = goal_for detached_within (itself_within ∷ [])

-- the map that puts `%x y. x` and `%x y. b` for the schematic variables of the fact, lifted over x and y
abbrev pub at_x_b : Term → Term
at_x_b = sent (Var 10 1 (arrow prop (arrow prop prop))) (Abs prop (Abs prop (Bound 1))) (sent (Var 11 1 (arrow prop (arrow prop prop))) (Abs prop (Abs prop b)) (λ t. t))

-- `!!x. (x ==> b) ==> (!!y. x ==> b)` by elimination with this fact, whose first premise is matched with the hypothesis `x ==> b`: y is bound after it, so behind the prefix its x is the bound variable 1. The subgoal becomes `!!x y. x ==> x`, but for redexes,
-- and this is proved by assumption.
pub record EliminationProof : Type 0 where
  pub fact : IsDerivable pure_content detachment
  pub is_rule : IsRuleFor pure_content after_elimination detachment 1 (imp any_a any_b ∷ any_a ∷ []) any_b
  pub lifted : hypotheses nested ≡ imp (Bound 1) b ∷ Bound 1 ∷ []
  pub eliminated : IsEliminated pure_content after_elimination (λ T. T) at_x_b outer (imp (Bound 0) b) inner (imp any_a any_b)
  pub matched : AreMatched pure_content after_elimination (λ T. T) at_x_b nested (lifted_behind nested any_b) b
  pub premises : lifted_premises (λ T. T) at_x_b (outer ++ inner) (any_a ∷ []) ≡ behind (outer ++ inner) (App (App (Abs prop (Abs prop (Bound 1))) (Bound 1)) (Bound 0)) ∷ []
  pub justified : IsJustified pure_content after_elimination detached_within (lifted_premises (λ T. T) at_x_b (outer ++ inner) (any_a ∷ [])) (λ T. T) at_x_b
  pub elimination : IsStepFor detached_within detached_within [] (lifted_premises (λ T. T) at_x_b (outer ++ inner) (any_a ∷ [])) (itself_within ∷ []) at_x_b
  pub next : IsDerivable pure_content after_elimination
  pub proved : IsDerivableAlone pure_content detached_within

-- `(a ==> b) ==> a ==> b`, and `a ==> b ==> b`
abbrev pub detached : Term
detached = imp (imp a b) (imp a b)

abbrev pub another : Term
another = imp a (imp b b)

-- the goal that the destruction leaves
abbrev pub after_destruction : Theorem
after_destruction = goal_for detached (itself ∷ another ∷ [])

-- the map that puts a and b for the schematic variables
abbrev pub at_a_b : Term → Term
at_a_b = sent any_a a (sent any_b b (λ t. t))

-- `(a ==> b) ==> a ==> b` by destruction with the same fact becomes `a ==> a` and `a ==> b ==> b`. The first of them is deferred, and preferred again, and both are proved by assumption.
pub record DestructionProof : Type 0 where
  pub is_rule : IsRuleFor pure_content after_destruction detachment 1 (imp any_a any_b ∷ any_a ∷ []) any_b
  pub eliminated : IsEliminated pure_content after_destruction (λ T. T) at_a_b [] (imp a b) (Hypothesis a ∷ []) (imp any_a any_b)
  pub premises : destructed_premises (λ T. T) at_a_b (Hypothesis a ∷ []) b (any_a ∷ []) any_b ≡ itself ∷ another ∷ []
  pub justified : IsJustified pure_content after_destruction detached (destructed_premises (λ T. T) at_a_b (Hypothesis a ∷ []) b (any_a ∷ []) any_b) (λ T. T) at_a_b
  pub destruction : IsStepFor detached detached [] (destructed_premises (λ T. T) at_a_b (Hypothesis a ∷ []) b (any_a ∷ []) any_b) (itself ∷ another ∷ []) at_a_b
  pub next : IsDerivable pure_content after_destruction
  pub deferred : IsDerivable pure_content (goal_for detached (another ∷ itself ∷ []))
  pub preferred : IsDerivable pure_content after_destruction
  pub one : IsDerivable pure_content (goal_for detached (another ∷ []))
  pub proved : IsDerivableAlone pure_content detached

-- `(%x. x) (a ==> a)`
abbrev pub redex : Term
redex = App (Abs prop (Bound 0)) itself

-- the fact `(%x. x) (a ==> a) == (a ==> a)`
abbrev pub redex_equation : Theorem
redex_equation = record { hyps = []; pairs = []; prop = eq prop redex itself; rests = [] }

-- The first goal's subgoal is converted by the fact to `a ==> a`, or exchanged for it as its contractum, and is proved by assumption.
pub record ConversionProof : Type 0 where
  pub fact : IsDerivable pure_content redex_equation
  pub is_fact : IsFactFor (goal_for redex (itself ∷ [])) redex_equation
  pub justified : IsJustified pure_content (goal_for redex (itself ∷ [])) redex (itself ∷ []) (λ T. T) (λ t. t)
  pub converted : IsDerivable pure_content (goal_for redex (itself ∷ []))
  pub exchanged : IsDerivable pure_content (goal_for redex (itself ∷ []))
  pub proved : IsDerivableAlone pure_content redex
