-- The steps of proofs on goal states (Isabelle/Isar Implementation manual, sections 2.4 and 4.2): what each gives, or for which fault it is refused.
use Rattle.std.specs.Prelude.{◌≡◌, ◌⊎◌, ℕ, ◌+◌, ◌<◌, List, [], ◌∷◌, ◌++◌, map, length, Result, Ok, Err}
use Rattle.pure_definitions.specs.Types.Typ.{prop}
use Rattle.pure_definitions.specs.Types.Order.{Algebra}
use Rattle.pure_definitions.specs.Terms.Term.{Term}
use Rattle.pure_logic.specs.Connectives.{eq, protect}
use Rattle.pure_logic.specs.Derivable.{Theorem}
use Rattle.pure_goal_laws.specs.Prefix.{Item, Hypothesis, behind}
use Rattle.pure_goal_laws.specs.Lifting.{lifted_behind}
use Rattle.pure_goal_laws.specs.GoalStep.{closed_pair}
use Rattle.pure_pairs.specs.Smash.{Smashes}
use Rattle.pure_theorem.specs.Within.{AreWithin}
use Rattle.pure_goal_steps.specs.State.{State, theorem_of, greatest_index}
use Rattle.pure_goal_steps.specs.Reading.{IsRead, Place, places, around, without, standing, IsRuleOf, rule_maxidx}
use Rattle.pure_goal_steps.specs.Follows.{Outcome, Becomes, Attempt, FollowsBy, FollowsByFirst}
use Rattle.pure_goal_steps.specs.declared.fault.StepFault.{StepFault}
use Rattle.pure_goal_steps.specs.declared.fault.StepFault.TheVariants as fault

-- The first subgoal is read as this prefix and this conclusion, and these are the others.
pub record IsFirst (s : State) (prefix : List Item) (C : Term) (others : List Term) : Type 0 where
  pub subgoal : Term
  pub stand : s.subgoals ≡ subgoal ∷ others
  pub read : IsRead subgoal prefix C

-- the state as a theorem, of which only indexes are asked
abbrev pub indexed : State → Theorem
indexed s = theorem_of s []

-- the premises of a rule, lifted over a prefix and behind it
abbrev pub premises_behind : List Item → List Term → List Term
premises_behind ps As = map (λ A. behind ps (lifted_behind ps A)) As

-- By a rule from the premises As to B: its conclusion, lifted over the prefix, is matched with that of the subgoal, and its premises, lifted and behind the prefix, are the new subgoals.
abbrev pub rule_attempt : (prefix : List Item) → (C : Term) → (As : List Term) → (B : Term) → Attempt
rule_attempt ps C As B = record { matched = closed_pair ps (lifted_behind ps B) C ∷ []; premises = premises_behind ps As }

-- By a rule from the premises P and As to B that eliminates the hypothesis: its conclusion is matched as well, then its first premise with the hypothesis; the other premises stand behind the prefix without the hypothesis.
abbrev pub elimination_attempt : (C P : Term) → (As : List Term) → (B : Term) → Place → Attempt
elimination_attempt C P As B p =
    let ps = around p in
    record {
      matched = closed_pair ps (lifted_behind ps B) C ∷ closed_pair ps (lifted_behind ps P) (standing p) ∷ [];
      premises = premises_behind (without p) As;
    }

-- By such a rule that destructs the hypothesis: its first premise alone is matched; a last new subgoal has the old one's prefix without the hypothesis, then the rule's conclusion as a hypothesis, and the old conclusion.
abbrev pub destruction_attempt : (C P : Term) → (As : List Term) → (B : Term) → Place → Attempt
destruction_attempt C P As B p =
    let ps = around p in
    let rest = without p in
    record {
      matched = closed_pair ps (lifted_behind ps P) (standing p) ∷ [];
      premises = premises_behind rest As ++ behind (rest ++ Hypothesis (lifted_behind rest B) ∷ []) C ∷ [];
    }

-- By assumption: the hypothesis is matched with the conclusion, and the subgoal goes.
abbrev pub assumption_attempt : (C : Term) → Place → Attempt
assumption_attempt C p = record { matched = closed_pair (around p) (standing p) C ∷ []; premises = [] }

-- A goal begins: its statement is its one subgoal.
abbrev pub BeginsAs : (C : Term) → Outcome → Type 0
BeginsAs C outcome = Becomes (record { statement = C; subgoals = C ∷ []; pairs = [] }) outcome

-- Resolution with a fact.
pub data RuleStep (A : Algebra) (s : State) (fact : Theorem) : Outcome → Type 0 where
  no_subgoal : s.subgoals ≡ [] → RuleStep A s fact (Err fault.NoSubgoal)
  tried : {ps : List Item} {C : Term} {others As : List Term} {B : Term} {outcome : Outcome} → IsFirst s ps C others → IsRuleOf (indexed s) fact As B
      → FollowsBy A (rule_maxidx (indexed s) fact) s others (rule_attempt ps C As B) outcome → RuleStep A s fact outcome

-- Resolution with a fact whose first premise eliminates a hypothesis, the first that serves.
pub data EliminationStep (A : Algebra) (s : State) (fact : Theorem) : Outcome → Type 0 where
  no_subgoal : s.subgoals ≡ [] → EliminationStep A s fact (Err fault.NoSubgoal)
  no_premise : {ps : List Item} {C : Term} {others : List Term} {B : Term} → IsFirst s ps C others → IsRuleOf (indexed s) fact [] B → EliminationStep A s fact (Err fault.NoPremise)
  tried : {ps : List Item} {C : Term} {others : List Term} {P : Term} {As : List Term} {B : Term} {outcome : Outcome} → IsFirst s ps C others → IsRuleOf (indexed s) fact (P ∷ As) B
      → FollowsByFirst A (rule_maxidx (indexed s) fact) s others (map (elimination_attempt C P As B) (places [] ps)) outcome → EliminationStep A s fact outcome

-- The same with a fact that destructs the hypothesis.
pub data DestructionStep (A : Algebra) (s : State) (fact : Theorem) : Outcome → Type 0 where
  no_subgoal : s.subgoals ≡ [] → DestructionStep A s fact (Err fault.NoSubgoal)
  no_premise : {ps : List Item} {C : Term} {others : List Term} {B : Term} → IsFirst s ps C others → IsRuleOf (indexed s) fact [] B → DestructionStep A s fact (Err fault.NoPremise)
  tried : {ps : List Item} {C : Term} {others : List Term} {P : Term} {As : List Term} {B : Term} {outcome : Outcome} → IsFirst s ps C others → IsRuleOf (indexed s) fact (P ∷ As) B
      → FollowsByFirst A (rule_maxidx (indexed s) fact) s others (map (destruction_attempt C P As B) (places [] ps)) outcome → DestructionStep A s fact outcome

-- By assumption, of the first hypothesis that serves.
pub data AssumptionStep (A : Algebra) (s : State) : Outcome → Type 0 where
  no_subgoal : s.subgoals ≡ [] → AssumptionStep A s (Err fault.NoSubgoal)
  tried : {ps : List Item} {C : Term} {others : List Term} {outcome : Outcome} → IsFirst s ps C others
      → FollowsByFirst A (greatest_index (indexed s)) s others (map (assumption_attempt C) (places [] ps)) outcome → AssumptionStep A s outcome

-- Subgoal n, counted from 1, comes first, and the others keep their order.
pub data PreferStep (s : State) (n : ℕ) : Outcome → Type 0 where
  no_subgoal : (n ≡ 0) ⊎ (length s.subgoals < n) → PreferStep s n (Err fault.NoSubgoal)
  preferred : (before : List Term) (A : Term) (after : List Term) {outcome : Outcome} → s.subgoals ≡ before ++ A ∷ after → n ≡ length before + 1
      → Becomes (record s { subgoals = A ∷ (before ++ after) }) outcome → PreferStep s n outcome

-- The first subgoal comes last.
pub data DeferStep (s : State) : Outcome → Type 0 where
  no_subgoal : s.subgoals ≡ [] → DeferStep s (Err fault.NoSubgoal)
  deferred : (A : Term) (others : List Term) {outcome : Outcome} → s.subgoals ≡ A ∷ others → Becomes (record s { subgoals = others ++ A ∷ [] }) outcome → DeferStep s outcome

-- The first subgoal is the left side of the equation, whose right side is put for it.
pub record ConversionStep (s : State) (equation : Theorem) (outcome : Outcome) : Type 0 where
  pub left : Term
  pub right : Term
  pub others : List Term
  pub stand : s.subgoals ≡ left ∷ others
  pub equates : equation.prop ≡ eq prop left right
  pub becomes : Becomes (record s { subgoals = right ∷ others }) outcome

-- A goal without subgoals ends: its pairs are smashed, and its statement, opened, is proved.
pub data EndsAs (s : State) : Result Theorem StepFault → Type 0 where
  subgoals_left : {A : Term} {others : List Term} → s.subgoals ≡ A ∷ others → EndsAs s (Err fault.SubgoalsLeft)
  large : {smashed : Theorem} → s.subgoals ≡ [] → Smashes (theorem_of s []) smashed → ¬ AreWithin smashed → EndsAs s (Err fault.Big)
  proved : {smashed : Theorem} {C : Term} → s.subgoals ≡ [] → Smashes (theorem_of s []) smashed → AreWithin smashed → smashed.prop ≡ protect C → EndsAs s (Ok (record smashed { prop = C }))
