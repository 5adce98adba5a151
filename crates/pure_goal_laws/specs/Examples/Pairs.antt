-- Worked examples: theorems without the pairs that they don't need, and steps that leave pairs.
use Rattle.std.specs.Prelude.{◌≡◌, [], ◌∷◌}
use Rattle.pure_definitions.specs.Types.Typ.{prop}
use Rattle.pure_definitions.specs.Terms.Term.{Term, Var, Abs, App}
use Rattle.pure_term_laws.specs.LawsMaps.{sent}
use Rattle.pure_logic.specs.Connectives.{imp, protect, chain}
use Rattle.pure_logic.specs.PureContent.{pure_content}
use Rattle.pure_logic.specs.Derivable.{Theorem, IsDerivable, IsDerivableAlone}
use Rattle.pure_logic.specs.Examples.Fulfilments.{by_command, promising}
use Rattle.pure_goal_laws.specs.Prefix.{Hypothesis}
use Rattle.pure_goal_laws.specs.Lifting.{lifted_behind}
use Rattle.pure_goal_laws.specs.GoalStep.{IsGoalStep, IsJustified, AreMatched, IsRuleFor, lifted_premises, IsEliminated}
use Rattle.pure_goal_laws.specs.Laws.States.{IsSmashed}
use Rattle.pure_goal_laws.specs.Examples.Definitions.{a, b, any_b, any_f}
use Rattle.pure_goal_laws.specs.Examples.Proofs.{goal_for, itself, detachment}

-- a theorem with a pair whose sides are the same
abbrev pub with_trivial_pair : Theorem
with_trivial_pair = record { hyps = []; pairs = record { left = a; right = a } ∷ []; prop = itself; rests = [] }

pub record DroppedExample : Type 0 where
  pub derivable : IsDerivable pure_content with_trivial_pair
  pub dropped : IsDerivable pure_content (record with_trivial_pair { pairs = [] })

-- From `?F a`, under the pair of `?F a` and `?F b`: `?F b`.
abbrev pub with_flexible_pair : Theorem
with_flexible_pair = record { hyps = App any_f a ∷ []; pairs = record { left = App any_f a; right = App any_f b } ∷ []; prop = App any_f b; rests = [] }

-- from `?B`: `?B`
abbrev pub without_pair : Theorem
without_pair = record { hyps = any_b ∷ []; pairs = []; prop = any_b; rests = [] }

-- The pair is smashed by the constant function `%x. ?B` for `?F`.
pub record SmashedExample : Type 0 where
  pub derivable : IsDerivable pure_content with_flexible_pair
  pub is_smashed : IsSmashed pure_content with_flexible_pair without_pair (λ T. T) (sent any_f (Abs prop any_b) (λ t. t))
  pub smashed : IsDerivable pure_content without_pair

-- `?F a ==> ?F b`
abbrev pub flexible : Term
flexible = imp (App any_f a) (App any_f b)

-- what is left open of its first goal by assumption: the pair of `?F a` and `?F b`
abbrev pub left_open : Theorem
left_open = record (goal_for flexible []) { pairs = record { left = App any_f a; right = App any_f b } ∷ [] }

-- It is proved by assumption under that pair; and with the pair smashed it is `?B ==> ?B`.
pub record FlexibleProof : Type 0 where
  pub matched : AreMatched pure_content left_open (λ T. T) (λ t. t) (Hypothesis (App any_f a) ∷ []) (App any_f a) (App any_f b)
  pub justified : IsJustified pure_content left_open flexible [] (λ T. T) (λ t. t)
  pub assumption : IsGoalStep pure_content (goal_for flexible (flexible ∷ [])) left_open flexible [] (protect flexible) [] (λ T. T) (λ t. t)
  pub last : IsDerivable pure_content left_open
  pub proved : IsDerivable pure_content (record left_open { prop = flexible })
  pub smashed : IsDerivableAlone pure_content (imp any_b any_b)

-- `(a ==> b) ==> a`
abbrev pub claimed : Term
claimed = imp (imp a b) a

-- `((a ==> b) ==> ?B) ==> (?B ==> a) ==> # ((a ==> b) ==> a)`, a goal with two subgoals, under the pair of `?F ?B` and `?F a`, resting on a promise
abbrev pub goal_under_pair : Theorem
goal_under_pair = record { hyps = []; pairs = record { left = App any_f any_b; right = App any_f a } ∷ []; prop = chain (imp (imp a b) any_b ∷ imp any_b a ∷ []) (protect claimed); rests = by_command 1 ∷ [] }

-- the fact `(?A ==> ?B) ==> ?A ==> ?B`, which rests on another promise; and its variables, raised by 2, apart from those of the goal
abbrev pub promised_detachment : Theorem
promised_detachment = record detachment { rests = by_command 2 ∷ [] }

abbrev pub raised_a : Term
raised_a = Var 10 2 prop

abbrev pub raised_b : Term
raised_b = Var 11 2 prop

-- the map that puts a and b for them, and b for the variable `?B` of the goal
abbrev pub all_at_a_b : Term → Term
all_at_a_b = sent raised_a a (sent raised_b b (sent any_b b (λ t. t)))

-- `a ==> (b ==> a) ==> # ((a ==> b) ==> a)`, under the pair of `?F b` and `?F a`, resting on both promises
abbrev pub next_under_pair : Theorem
next_under_pair = record { hyps = []; pairs = record { left = App any_f b; right = App any_f a } ∷ []; prop = chain (a ∷ imp b a ∷ []) (protect claimed); rests = by_command 2 ∷ by_command 1 ∷ [] }

-- By elimination with the fact, whose first premise is matched with the hypothesis `a ==> b`, and its conclusion with `?B`, the first subgoal becomes a. The other one and the pair are moved, and the promises of the goal and of the fact come together.
pub record MovedExample : Type 0 where
  pub start : IsDerivable promising goal_under_pair
  pub fact : IsDerivable promising promised_detachment
  pub is_rule : IsRuleFor promising next_under_pair promised_detachment 2 (imp raised_a raised_b ∷ raised_a ∷ []) raised_b
  pub eliminated : IsEliminated promising next_under_pair (λ T. T) all_at_a_b [] (imp a b) [] (imp raised_a raised_b)
  pub matched : AreMatched promising next_under_pair (λ T. T) all_at_a_b (Hypothesis (imp a b) ∷ []) (lifted_behind (Hypothesis (imp a b) ∷ []) raised_b) any_b
  pub premises : lifted_premises (λ T. T) all_at_a_b [] (raised_a ∷ []) ≡ a ∷ []
  pub justified : IsJustified promising next_under_pair (imp (imp a b) any_b) (lifted_premises (λ T. T) all_at_a_b [] (raised_a ∷ [])) (λ T. T) all_at_a_b
  pub elimination : IsGoalStep promising goal_under_pair next_under_pair (imp (imp a b) any_b) (imp any_b a ∷ []) (protect claimed) (lifted_premises (λ T. T) all_at_a_b [] (raised_a ∷ [])) (λ T. T) all_at_a_b
  pub next : IsDerivable promising next_under_pair
