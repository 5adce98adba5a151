-- Subgoals as they are read, and rules (Isabelle/Isar Implementation manual, section 2.4).
use Rattle.std.specs.Prelude.{◌≡◌, ◌≢◌, ℕ, ◌+◌, List, [], ◌∷◌, ◌++◌, length}
use Rattle.pure_definitions.specs.Types.Typ.{Typ}
use Rattle.pure_definitions.specs.Terms.Term.{Term, Var}
use Rattle.pure_definitions.specs.Terms.Bounds.{lift_term, subst_bound}
use Rattle.pure_definitions.specs.Terms.Subst.{term_instance}
use Rattle.pure_definitions.specs.Reduction.Eta.{IsLongForm}
use Rattle.pure_logic.specs.Connectives.{all, imp}
use Rattle.pure_logic.specs.Derivable.{Theorem}
use Rattle.pure_logic.specs.Laws.Maps.{raised_typs, raised_terms}
use Rattle.pure_theorem.specs.Shapes.{IsNoImplication}
use Rattle.pure_goal_laws.specs.Prefix.{Item, Parameter, Hypothesis, behind, parameters}
use Rattle.pure_goal_steps.specs.State.{greatest_index}

-- The term may be a conclusion: it is neither a quantification nor an implication.
pub record IsConclusion (C : Term) : Type 0 where
  pub no_quantification : (T : Typ) (B : Term) → C ≢ all T B
  pub no_implication : IsNoImplication C

-- The subgoal is read as a prefix of parameters and hypotheses, in any order, and a conclusion, before which nothing is left to be read.
pub record IsRead (A : Term) (prefix : List Item) (C : Term) : Type 0 where
  pub stands : A ≡ behind prefix C
  pub ends : IsConclusion C

-- a hypothesis in a prefix, with the items before it and those after it
pub record Place : Type 0 where
  pub before : List Item
  pub hypothesis : Term
  pub after : List Item

-- the places of the hypotheses, in order, of a prefix of which the items before those that are given have been passed
abbrev pub places : (before : List Item) → List Item → List Place
places before [] = []
places before (Parameter T ∷ after) = places (before ++ Parameter T ∷ []) after
places before (Hypothesis H ∷ after) = record { before = before; hypothesis = H; after = after } ∷ places (before ++ Hypothesis H ∷ []) after

-- the whole prefix in which the hypothesis stands, and the prefix without it
abbrev pub around : Place → List Item
around p = p.before ++ Hypothesis p.hypothesis ∷ p.after

abbrev pub without : Place → List Item
without p = p.before ++ p.after

-- the hypothesis as it stands behind the whole prefix: lifted over the parameters that come after it
abbrev pub standing : Place → Term
standing p = lift_term (length (parameters p.after)) 0 p.hypothesis

-- The front of a rule is stripped as a subgoal is read: for each quantified variable a fresh schematic variable of the index is put, the first with this name and each further one with the next, and each hypothesis becomes a premise. So the rule has these premises, in order, and this conclusion.
pub data Strips (index : ℕ) : (name : ℕ) → (rule : Term) → (premises : List Term) → (conclusion : Term) → Type 0 where
  bare : {name : ℕ} {C : Term} → IsConclusion C → Strips index name C [] C
  quantified : {name : ℕ} {T : Typ} {B : Term} {As : List Term} {C : Term} → Strips index (name + 1) (subst_bound B (Var name index T)) As C → Strips index name (all T B) As C
  supposed : {name : ℕ} {A B : Term} {As : List Term} {C : Term} → Strips index name B As C → Strips index name (imp A B) (A ∷ As) C

-- The fact is used on the goal as the rule from these premises to this conclusion: it is brought to long form; its indexes are raised above the goal's; and its front is stripped, with an index above all of these.
pub record IsRuleOf (goal fact : Theorem) (premises : List Term) (conclusion : Term) : Type 0 where
  pub form : Term
  pub long : IsLongForm fact.prop form
  pub strips : let by = greatest_index goal + 1 in Strips (greatest_index goal + greatest_index fact + 2) 0 (term_instance (raised_typs by) (raised_terms by) form) premises conclusion

-- the greatest index of the goal and of the rule
abbrev pub rule_maxidx : (goal fact : Theorem) → ℕ
rule_maxidx goal fact = greatest_index goal + greatest_index fact + 2
