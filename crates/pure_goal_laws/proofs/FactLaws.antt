-- Steps from derivable goals by derivable facts.
use Rattle.std.proofs.Common.{◌≡◌, ℕ, List, [], ◌∷◌, ◌++◌}
use Rattle.pure_text.specs.Lists.{IsIn}
use Rattle.pure_definitions.specs.Names.{Label}
use Rattle.pure_definitions.specs.Types.Typ.{Typ, prop}
use Rattle.pure_definitions.specs.Terms.Term.{Term}
use Rattle.pure_definitions.specs.Terms.Subst.{term_instance}
use Rattle.pure_logic.specs.Connectives.{eq, chain}
use Rattle.pure_logic.specs.Content.{Content, IsContent, IsBelow, IsProposition}
use Rattle.pure_logic.specs.PureContent.{pure_content}
use Rattle.pure_logic.specs.Derivable.{Pair, Theorem, IsDerivable}
use Rattle.pure_logic.specs.Proves.{Proves}
use Rattle.pure_logic.proofs.ProvesLaws.{derivable_is_proves, weaker}
use Rattle.pure_logic.specs.Laws.Maps.{raised_typs, raised_terms}
use Rattle.pure_logic.proofs.TheoremMapLaws.{raised_is_derivable}
use Rattle.pure_equation_laws.specs.Equated.{AreEquated}
use Rattle.pure_equation_laws.proofs.EquatedLaws.{equated_proposition_is_proved}
use Rattle.pure_goal_laws.specs.Prefix.{Item, Hypothesis, behind, hypotheses}
use Rattle.pure_goal_laws.specs.Lifting.{lifted_behind}
use Rattle.pure_goal_laws.specs.GoalStep.{IsGoalStep, AreMatched, IsFactFor, IsRuleFor, lifted_premises, destructed_premises, IsEliminated}
use Rattle.pure_goal_laws.proofs.StrippingLaws.{stripped_rule}
use Rattle.pure_goal_laws.proofs.StepLaws.{step_is_derivable}
use Rattle.pure_goal_laws.proofs.JustificationLaws.{by_rule, by_assumption, by_equation}
use Rattle.pure_goal_laws.proofs.EliminationLaws.{by_elimination, by_destruction}
use Rattle.pure_goal_laws.proofs.StateLaws.{subgoals_are_propositions, exchange}

module _ (Q : Content) (q : IsContent Q) (above : IsBelow pure_content Q) where
  proved-alone : (hyps : List Term) (pairs : List Pair) (A : Term) (rests : List Label) → hyps ≡ [] → pairs ≡ [] → IsDerivable Q (record { hyps = hyps; pairs = pairs; prop = A; rests = rests }) → Proves Q [] rests A
  proved-alone hyps pairs A rests no_hyps no_pairs h = (derivable_is_proves Q [] rests A).0 (rw (no_hyps, no_pairs) at h)

  -- The proposition of a derivable fact is proved, on the promises of the new goal.
  pub fact-proved : (new fact : Theorem) → IsFactFor new fact → IsDerivable Q fact → Proves Q [] new.rests fact.prop
  fact-proved new fact is h =
      weaker Q [] [] fact.rests new.rests fact.prop (λ A m. m) is.rests (proved-alone fact.hyps fact.pairs fact.prop fact.rests is.no_hyps is.no_pairs h)

  raised-proved : (by : ℕ) (rests : List Label) (A : Term) → Proves Q [] rests A → Proves Q [] rests (term_instance (raised_typs by) (raised_terms by) A)
  raised-proved by rests A p =
      let raised = raised_is_derivable Q q by (record { hyps = []; pairs = []; prop = A; rests = rests }) ((derivable_is_proves Q [] rests A).1 p) in
      (derivable_is_proves Q [] rests (term_instance (raised_typs by) (raised_terms by) A)).0 raised

  -- The rule of a derivable fact is proved.
  pub rule-proved : (new fact : Theorem) (by : ℕ) (As : List Term) (B : Term) → IsRuleFor Q new fact by As B → IsDerivable Q fact → Proves Q [] new.rests (chain As B)
  rule-proved new fact by As B is h =
      let form = equated_proposition_is_proved Q q above [] new.rests [] tt fact.prop is.form is.is_form (fact-proved new fact is.used h) in
      stripped_rule Q q above [] new.rests (term_instance (raised_typs by) (raised_terms by) is.form) As B is.stripped (raised-proved by new.rests is.form form)

  pub conversion_step : (goal fact : Theorem) (A B S : Term) (others : List Term) (G : Term) (rests : List Label) → goal.hyps ≡ [] → goal.prop ≡ chain (A ∷ others) G → ((l : Label) → IsIn l goal.rests → IsIn l rests)
      → AreEquated Q.declarations goal.pairs [] prop B S → IsFactFor (record goal { prop = chain (S ∷ others) G; rests = rests }) fact → fact.prop ≡ eq prop A B → IsDerivable Q goal → IsDerivable Q fact
      → IsDerivable Q (record goal { prop = chain (S ∷ others) G; rests = rests })
  conversion_step goal fact A B S others G rests no_hyps e among equated is equation h k =
      let new : Theorem = record goal { prop = chain (S ∷ others) G; rests = rests } in
      step_is_derivable Q q above goal new A others G (B ∷ []) (λ T. T) (λ t. t) (exchange Q q above goal A B S others G rests no_hyps e among equated h) (by_equation Q q above new A B (rw equation at (fact-proved new fact is k))) h

module _ (Q : Content) (q : IsContent Q) (above : IsBelow pure_content Q) (goal new : Theorem) (others : List Term) (G : Term) (typs : Typ → Typ) (terms : Term → Term) where
  first-proposition : (A : Term) (premises : List Term) → IsGoalStep Q goal new A others G premises typs terms → IsDerivable Q goal → IsProposition Q A
  first-proposition A premises step h = (subgoals_are_propositions Q q above goal (A ∷ others) G step.goal_prop h).0

  pub assumption_step : (ps : List Item) (H C : Term) → IsGoalStep Q goal new (behind ps C) others G [] typs terms → IsIn H (hypotheses ps) → AreMatched Q new typs terms ps H C → IsDerivable Q goal → IsDerivable Q new
  assumption_step ps H C step is m h =
      step_is_derivable Q q above goal new (behind ps C) others G [] typs terms step (by_assumption Q q above new typs terms step.respecting ps C (first-proposition (behind ps C) [] step h) H is m) h

  pub rule_step : (ps : List Item) (C : Term) (fact : Theorem) (by : ℕ) (As : List Term) (B : Term) → IsGoalStep Q goal new (behind ps C) others G (lifted_premises typs terms ps As) typs terms
      → IsRuleFor Q new fact by As B → AreMatched Q new typs terms ps (lifted_behind ps B) C → IsDerivable Q goal → IsDerivable Q fact → IsDerivable Q new
  rule_step ps C fact by As B step is m h k =
      let premises = lifted_premises typs terms ps As in
      step_is_derivable Q q above goal new (behind ps C) others G premises typs terms step
      (by_rule Q q above new typs terms step.respecting ps C (first-proposition (behind ps C) premises step h) As B (rule-proved Q q above new fact by As B is k) m) h

  module _ (before : List Item) (H : Term) (after : List Item) (C : Term) (fact : Theorem) (by : ℕ) (P : Term) (As : List Term) (B : Term) where
    pub elimination_step : IsGoalStep Q goal new (behind (before ++ Hypothesis H ∷ after) C) others G (lifted_premises typs terms (before ++ after) As) typs terms
        → IsRuleFor Q new fact by (P ∷ As) B → IsEliminated Q new typs terms before H after P → AreMatched Q new typs terms (before ++ Hypothesis H ∷ after) (lifted_behind (before ++ Hypothesis H ∷ after) B) C → IsDerivable Q goal
        → IsDerivable Q fact → IsDerivable Q new
    elimination_step step is e m h k =
        let subgoal = behind (before ++ Hypothesis H ∷ after) C in
        let premises = lifted_premises typs terms (before ++ after) As in
        step_is_derivable Q q above goal new subgoal others G premises typs terms step
        (by_elimination Q q above new typs terms step.respecting before H after C (first-proposition subgoal premises step h) P As B (rule-proved Q q above new fact by (P ∷ As) B is k) e m) h

    pub destruction_step : IsGoalStep Q goal new (behind (before ++ Hypothesis H ∷ after) C) others G (destructed_premises typs terms (before ++ after) C As B) typs terms
        → IsRuleFor Q new fact by (P ∷ As) B → IsEliminated Q new typs terms before H after P → IsDerivable Q goal → IsDerivable Q fact → IsDerivable Q new
    destruction_step step is e h k =
        let subgoal = behind (before ++ Hypothesis H ∷ after) C in
        let premises = destructed_premises typs terms (before ++ after) C As B in
        step_is_derivable Q q above goal new subgoal others G premises typs terms step
        (by_destruction Q q above new typs terms step.respecting before H after C (first-proposition subgoal premises step h) P As B (rule-proved Q q above new fact by (P ∷ As) B is k) e) h
