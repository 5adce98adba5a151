-- What a step on a derivable goal hands to the unifier is typed, and so are its new subgoals.
use Rattle.std.proofs.Common.{◌≡◌, ◌+◌, List, [], ◌∷◌, ◌++◌, ap, sym, subst, ◌∙◌}
use Rattle.pure_text.specs.Lists.{Each}
use Rattle.pure_text.proofs.ListLaws.{each-append, each_imply}
use Rattle.pure_definitions.specs.Types.Typ.{prop}
use Rattle.pure_definitions.specs.Terms.Term.{Term}
use Rattle.pure_definitions.specs.Reduction.Eta.{IsLongForm}
use Rattle.pure_logic.specs.Connectives.{protect, chain}
use Rattle.pure_logic.specs.Content.{Content, IsProposition}
use Rattle.pure_logic.specs.Derivable.{Pair, Theorem}
use Rattle.pure_logic.specs.Proves.{Proves}
use Rattle.pure_logic.proofs.PropositionLaws.{derivable_is_proposition}
use Rattle.pure_logic.proofs.ProvesLaws.{proved_is_proposition}
use Rattle.pure_theorem.specs.Shapes.{IsTyped}
use Rattle.pure_equation_laws.proofs.ReductionLaws.{long_form_is_equated}
use Rattle.pure_unify_nodes.specs.SideAnswer.{AreSidesTyped}
use Rattle.pure_goal_laws.specs.Prefix.{Item, Hypothesis, behind, below_parameters}
use Rattle.pure_goal_laws.specs.Lifting.{lifted_behind}
use Rattle.pure_goal_laws.specs.GoalStep.{IsRuleFor, closed_pair}
use Rattle.pure_goal_laws.proofs.PrefixLaws.{behind-append, implication_behind, hypothesis_is_proved}
use Rattle.pure_goal_laws.proofs.StateLaws.{subgoals_are_propositions}
use Rattle.pure_goal_laws.proofs.FactLaws.{rule-proved}
use Rattle.pure_goal_laws.proofs.EliminationLaws.{hypothesis-there}
use Rattle.pure_goal_steps.specs.State.{IsLeftPair, greatest_index}
use Rattle.pure_goal_steps.specs.Reading.{Place, around, without, standing, IsRuleOf}
use Rattle.pure_goal_steps.specs.Steps.{premises_behind, rule_attempt, elimination_attempt, destruction_attempt, assumption_attempt}
use Rattle.pure_goal_step_laws.proofs.ClosedLaws.{closed_typed, lifted_propositions, without_hypothesis}
use Rattle.pure_goal_step_laws.proofs.UnifiedLaws.{is-stripped}
use Rattle.pure_resolve.specs.Settled.{HasFirst, MayAttempt}
use Rattle.pure_resolve.specs.Uses.{MayStep, MayUse}

proposition-typed : (Q : Content) (A : Term) → IsProposition Q A → IsTyped A
proposition-typed Q A h = (prop, h.typed)

all-typed : (Q : Content) (As : List Term) → Each (IsProposition Q) As → Each IsTyped As
all-typed Q As h = each_imply (IsProposition Q) IsTyped As (λ A p. proposition-typed Q A p) h

closed-typed : (Q : Content) (ps : List Item) (X : Term) → IsProposition Q (behind ps X) → IsTyped (below_parameters ps X)
closed-typed Q ps X h = let typed = closed_typed Q ps X h in (typed.0, typed.1.typed)

own-pairs : (ps : List Pair) → Each IsLeftPair ps → Each AreSidesTyped ps
own-pairs ps h = each_imply IsLeftPair AreSidesTyped ps (λ p l. ((l.typ, l.left_typed), (l.typ, l.right_typed))) h

-- The goal's first subgoal stands before others that are typed.
pub first-of : (Q : Content) (goal : Theorem) (m : MayStep Q goal) (first : Term) (others : List Term) → m.is.state.subgoals ≡ first ∷ others → Each (IsProposition Q) (first ∷ others)
first-of Q goal m first others stand =
    subgoals_are_propositions Q m.content.content m.content.above_pure goal (first ∷ others) (protect m.is.state.statement) (m.is.is.prop ∙ ap (λ (As : List Term). chain As (protect m.is.state.statement)) stand) m.derivable

pub has_first : (Q : Content) (goal : Theorem) (m : MayStep Q goal) (first : Term) (others : List Term) → m.is.state.subgoals ≡ first ∷ others → HasFirst goal
has_first Q goal m first others stand = record {
  state = m.is.state;
  is = m.is.is;
  first = first;
  others = others;
  stand = stand;
  long = (subst (λ (As : List Term). Each (λ A. IsLongForm A A) As) stand m.is.goal.long_subgoals).1;
}

pairs-typed : (Q : Content) (goal : Theorem) (m : MayStep Q goal) (matched : List Pair) → Each AreSidesTyped matched → Each AreSidesTyped (matched ++ goal.pairs)
pairs-typed Q goal m matched h =
    each-append AreSidesTyped matched goal.pairs h (subst (λ (ps : List Pair). Each AreSidesTyped ps) (sym m.is.is.same_pairs) (own-pairs m.is.state.pairs m.is.goal.left_pairs))

module _ (Q : Content) (goal : Theorem) (m : MayStep Q goal) (C : Term) where
  hypothesis-proposition : (p : Place) → IsProposition Q (behind (around p) C) → IsProposition Q (behind (around p) (standing p))
  hypothesis-proposition p h =
      proved_is_proposition Q m.content.content m.content.above_pure [] [] (behind (around p) (standing p))
      (hypothesis_is_proved Q m.content.content m.content.above_pure [] [] (around p) (standing p) C h (hypothesis-there p.before p.hypothesis p.after))

  pub assumption_typed : (p : Place) → IsProposition Q (behind (around p) C) → MayAttempt goal (assumption_attempt C p)
  assumption_typed p h = record {
    pairs = pairs-typed Q goal m (closed_pair (around p) (standing p) C ∷ []) ((closed-typed Q (around p) (standing p) (hypothesis-proposition p h), closed-typed Q (around p) C h), tt);
    premises = tt;
  }

module _ (Q : Content) (goal fact : Theorem) (m : MayUse Q goal fact) (s : Theorem) (As : List Term) (B : Term) (r : IsRuleOf s fact As B) where
  proved : Proves Q [] fact.rests (chain As B)
  proved =
      let is = derivable_is_proposition Q m.step.content.content m.step.content.above_pure fact m.derivable in
      let rule : IsRuleFor Q fact fact (greatest_index s + 1) As B = record {
        used = record { no_hyps = m.no_hyps; no_pairs = m.no_pairs; rests = λ l i. i };
        form = r.form;
        is_form = long_form_is_equated Q m.step.content.above_pure [] prop fact.prop r.form (record { parts = is.certified.parts; typed = is.typed }) r.long;
        stripped = is-stripped r.strips;
      } in
      rule-proved Q m.step.content.content m.step.content.above_pure fact fact (greatest_index s + 1) As B rule m.derivable

  pub rule_typed : (ps : List Item) (C : Term) → IsProposition Q (behind ps C) → MayAttempt goal (rule_attempt ps C As B)
  rule_typed ps C h =
      let lifted = lifted_propositions Q m.step.content.content m.step.content.above_pure fact.rests ps C As B h proved in
      record {
        pairs = pairs-typed Q goal m.step (closed_pair ps (lifted_behind ps B) C ∷ []) ((closed-typed Q ps (lifted_behind ps B) lifted.conclusion, closed-typed Q ps C h), tt);
        premises = all-typed Q (premises_behind ps As) lifted.premises;
      }

module _ (Q : Content) (goal fact : Theorem) (m : MayUse Q goal fact) (s : Theorem) (P : Term) (As : List Term) (B : Term) (r : IsRuleOf s fact (P ∷ As) B) (C : Term) (p : Place) (h : IsProposition Q (behind (around p) C)) where
  without-proposition : IsProposition Q (behind (without p) C)
  without-proposition = without_hypothesis Q m.step.content.content m.step.content.above_pure p.before p.hypothesis p.after C h

  first-matched : AreSidesTyped (closed_pair (around p) (lifted_behind (around p) P) (standing p))
  first-matched =
      let lifted = lifted_propositions Q m.step.content.content m.step.content.above_pure fact.rests (around p) C (P ∷ As) B h (proved Q goal fact m s (P ∷ As) B r) in
      (closed-typed Q (around p) (lifted_behind (around p) P) lifted.premises.0, closed-typed Q (around p) (standing p) (hypothesis-proposition Q goal m.step C p h))

  conclusion-matched : AreSidesTyped (closed_pair (around p) (lifted_behind (around p) B) C)
  conclusion-matched =
      let lifted = lifted_propositions Q m.step.content.content m.step.content.above_pure fact.rests (around p) C (P ∷ As) B h (proved Q goal fact m s (P ∷ As) B r) in
      (closed-typed Q (around p) (lifted_behind (around p) B) lifted.conclusion, closed-typed Q (around p) C h)

  pub elimination_typed : MayAttempt goal (elimination_attempt C P As B p)
  elimination_typed =
      let lifted = lifted_propositions Q m.step.content.content m.step.content.above_pure fact.rests (without p) C (P ∷ As) B without-proposition (proved Q goal fact m s (P ∷ As) B r) in
      record {
        pairs = pairs-typed Q goal m.step (closed_pair (around p) (lifted_behind (around p) B) C ∷ closed_pair (around p) (lifted_behind (around p) P) (standing p) ∷ []) (conclusion-matched, (first-matched, tt));
        premises = all-typed Q (premises_behind (without p) As) lifted.premises.1;
      }

  pub destruction_typed : MayAttempt goal (destruction_attempt C P As B p)
  destruction_typed =
      let lifted = lifted_propositions Q m.step.content.content m.step.content.above_pure fact.rests (without p) C (P ∷ As) B without-proposition (proved Q goal fact m s (P ∷ As) B r) in
      let last : Term = behind (without p ++ Hypothesis (lifted_behind (without p) B) ∷ []) C in
      let is : IsProposition Q last = subst (IsProposition Q) (sym (behind-append (without p) (Hypothesis (lifted_behind (without p) B) ∷ []) C))
      (implication_behind Q m.step.content.above_pure (without p) (lifted_behind (without p) B) C lifted.conclusion without-proposition) in
      record {
        pairs = pairs-typed Q goal m.step (closed_pair (around p) (lifted_behind (around p) P) (standing p) ∷ []) (first-matched, tt);
        premises = all-typed Q (premises_behind (without p) As ++ last ∷ []) (each-append (IsProposition Q) (premises_behind (without p) As) (last ∷ []) lifted.premises.1 (is, tt));
      }
