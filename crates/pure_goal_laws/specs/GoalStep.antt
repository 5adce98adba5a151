-- Goal steps: a goal is a theorem `A1 ==> .. ==> An ==> G` with the subgoals Ai; a step puts others for its first subgoal, at an instance of the whole (Isabelle/Isar Implementation manual, sections 2.4 and 4.1).
use Rattle.std.specs.Prelude.{◌≡◌, ℕ, List, [], ◌∷◌, ◌++◌, map, length}
use Rattle.pure_text.specs.Lists.{IsIn, Each, EachTwo}
use Rattle.pure_definitions.specs.Names.{Label}
use Rattle.pure_definitions.specs.Types.Typ.{Typ, prop}
use Rattle.pure_definitions.specs.Terms.Term.{Term}
use Rattle.pure_definitions.specs.Terms.Bounds.{lift_term}
use Rattle.pure_definitions.specs.Terms.Subst.{term_instance}
use Rattle.pure_logic.specs.Connectives.{chain}
use Rattle.pure_logic.specs.Content.{Content}
use Rattle.pure_logic.specs.Concludes.{AreRespecting}
use Rattle.pure_logic.specs.Derivable.{Pair, Theorem}
use Rattle.pure_logic.specs.Proves.{Proves}
use Rattle.pure_logic.specs.Laws.Substitution.{pair_instance}
use Rattle.pure_logic.specs.Laws.Maps.{raised_typs, raised_terms}
use Rattle.pure_equation_laws.specs.Equated.{AreEquated, IsPairEquated}
use Rattle.pure_equation_laws.specs.Laws.Proved.{IsPairProved, IsCertifiedPair}
use Rattle.pure_goal_laws.specs.Prefix.{Item, Hypothesis, behind, parameters, below_parameters}
use Rattle.pure_goal_laws.specs.Lifting.{IsStripped, lifted_behind}

-- The step from one goal to another: of the first subgoal A and the others, premises stand in place of A, under the maps. The pairs may be replaced by those of the new goal, modulo which they are equated under the maps;
-- each subgoal of the new goal is equated with a premise, or with one of the others under the maps, as its normal form is; and the new goal rests on what the old one rests on, or on more.
pub record IsGoalStep (Q : Content) (goal new : Theorem) (A : Term) (others : List Term) (G : Term) (premises : List Term) (typs : Typ → Typ) (terms : Term → Term) : Type 0 where
  pub goal_hyps : goal.hyps ≡ []
  pub goal_prop : goal.prop ≡ chain (A ∷ others) G
  pub respecting : AreRespecting Q typs terms
  pub pairs : Each (IsPairEquated Q.declarations new.pairs) (map (pair_instance typs terms) goal.pairs)
  pub new_pairs : Each (IsCertifiedPair Q) new.pairs
  pub subgoals : List Term
  pub are_subgoals : EachTwo (λ B S. AreEquated Q.declarations new.pairs [] prop B S) (premises ++ map (term_instance typs terms) others) subgoals
  pub new_hyps : new.hyps ≡ []
  pub new_prop : new.prop ≡ chain subgoals (term_instance typs terms G)
  pub rests : (l : Label) → IsIn l goal.rests → IsIn l new.rests

-- The premises justify the subgoal: from whatever the equations of the new goal's pairs are proved, the subgoal's instance is proved under the premises, resting on what the new goal rests on.
abbrev pub IsJustified : (Q : Content) → (new : Theorem) → (subgoal : Term) → (premises : List Term) → (typs : Typ → Typ) → (terms : Term → Term) → Type 0
IsJustified Q new A premises typs terms =
    (hyps : List Term) → Each (IsPairProved Q hyps new.rests) new.pairs → Proves Q hyps new.rests (chain premises (term_instance typs terms A))

-- the pair of two terms that stand behind a prefix, each below abstractions over the parameters
abbrev pub closed_pair : List Item → (t u : Term) → Pair
closed_pair ps t u = record { left = below_parameters ps t; right = below_parameters ps u }

-- The terms are matched behind the prefix, as unification makes them: the sides of their pair are equated under the maps, modulo the new goal's pairs.
abbrev pub AreMatched : (Q : Content) → (new : Theorem) → (typs : Typ → Typ) → (terms : Term → Term) → List Item → (t u : Term) → Type 0
AreMatched Q new typs terms ps t u = IsPairEquated Q.declarations new.pairs (pair_instance typs terms (closed_pair ps t u))

-- The fact may be used in a step to the new goal: it has no hypotheses and no pairs, and the new goal rests on what it rests on.
pub record IsFactFor (new fact : Theorem) : Type 0 where
  pub no_hyps : fact.hyps ≡ []
  pub no_pairs : fact.pairs ≡ []
  pub rests : (l : Label) → IsIn l fact.rests → IsIn l new.rests

-- It is used as the rule from the premises to the conclusion: any proposition that is equated with its own, as its long form is, with the indexes raised by a number, and stripped of its front as far as one likes, with any variables.
pub record IsRuleFor (Q : Content) (new fact : Theorem) (by : ℕ) (premises : List Term) (conclusion : Term) : Type 0 where
  pub used : IsFactFor new fact
  pub form : Term
  pub is_form : AreEquated Q.declarations [] [] prop fact.prop form
  pub stripped : IsStripped (term_instance (raised_typs by) (raised_terms by) form) premises conclusion

-- the instances of a rule's premises, which are lifted over a prefix and stand behind it
abbrev pub lifted_premises : (typs : Typ → Typ) → (terms : Term → Term) → List Item → List Term → List Term
lifted_premises typs terms ps As = map (term_instance typs terms) (map (λ A. behind ps (lifted_behind ps A)) As)

-- The hypothesis H, which stands in a prefix between the items before it and those after it, is eliminated by the first premise P of a rule: P, lifted over the prefix, is matched with H as it stands behind the prefix.
abbrev pub IsEliminated : (Q : Content) → (new : Theorem) → (typs : Typ → Typ) → (terms : Term → Term) → (before : List Item) → (H : Term) → (after : List Item) → (P : Term) → Type 0
IsEliminated Q new typs terms before H after P =
    let ps = before ++ Hypothesis H ∷ after in
    AreMatched Q new typs terms ps (lifted_behind ps P) (lift_term (length (parameters after)) 0 H)

-- the lifted premises of a rule but for the first, and the instance of the conclusion C behind the prefix, which has the rule's conclusion B, lifted, as its last hypothesis
abbrev pub destructed_premises : (typs : Typ → Typ) → (terms : Term → Term) → List Item → (C : Term) → List Term → (B : Term) → List Term
destructed_premises typs terms ps C As B = lifted_premises typs terms ps As ++ term_instance typs terms (behind (ps ++ Hypothesis (lifted_behind ps B) ∷ []) C) ∷ []
