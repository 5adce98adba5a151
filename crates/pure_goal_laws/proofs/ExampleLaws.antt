-- Worked examples: proofs by goal steps.
use Rattle.std.proofs.Common.{◌≡◌, ℕ, List, [], ◌∷◌, ◌++◌, map, inl, refl, ap, sym}
use Rattle.pure_text.specs.Lists.{IsIn, Each, EachTwo}
use Rattle.pure_definitions.specs.Types.Typ.{Typ, arrow, prop}
use Rattle.pure_definitions.specs.Terms.Term.{Term, Free, Bound, Abs, App}
use Rattle.pure_definitions.specs.Declarations.Certified.{IsCertifiedTyp, HasCertifiedParts}
use Rattle.pure_definitions.specs.Terms.Subst.{term_instance}
use Rattle.pure_term_laws.specs.LawsMaps.{sent}
use Rattle.pure_term_laws.proofs.SubstLaws.{term_instance-identity}
use Rattle.pure_logic.specs.Connectives.{all, imp, eq, protect, chain}
use Rattle.pure_logic.specs.Content.{IsProposition}
use Rattle.pure_logic.specs.PureContent.{pure_content}
use Rattle.pure_logic.specs.Derivable.{Pair, IsDerivable, IsDerivableAlone}
use Rattle.pure_logic.specs.Concludes.{AreRespecting}
use Rattle.pure_logic.specs.Proves.{Proves}
use Rattle.pure_logic.proofs.ConnectiveLaws.{certified_of, pure-below_itself, prop-certified, imp-parts, eq-parts, all-parts}
use Rattle.pure_logic.proofs.EqualityLaws.{symmetric_equality}
use Rattle.pure_logic.proofs.MapLaws.{identity_respects, sent-respects}
use Rattle.pure_logic.proofs.ContentLaws.{pure_is_content}
use Rattle.pure_logic.proofs.PropositionLaws.{eq-proposition, all-proposition, derivable_is_proposition}
use Rattle.pure_logic.proofs.ProvesLaws.{derivable_is_proves, assumed, implication_is_proved, quantification_is_proved}
use Rattle.pure_equation_laws.specs.Equated.{IsTypedUnder, AreEquated, same, beta, abstraction, application}
use Rattle.pure_goal_laws.specs.Prefix.{Item, Hypothesis, behind, below_parameters, hypotheses}
use Rattle.pure_goal_laws.specs.Lifting.{bare, quantified, supposed, lifted_behind}
use Rattle.pure_goal_laws.specs.GoalStep.{AreMatched, IsRuleFor, lifted_premises}
use Rattle.pure_goal_laws.specs.Examples.Definitions.{a, b, any_a, any_b, any_f, any_g}
use Rattle.pure_goal_laws.specs.Examples.Proofs.{goal_for, IsStepFor, itself, AssumptionProof, symmetry, equal_to_a, turned, unturned, after_rule, at_a_x, RuleProof}
use Rattle.pure_goal_laws.proofs.PrefixLaws.{implication_behind}
use Rattle.pure_goal_laws.proofs.JustificationLaws.{by_rule, by_assumption}
use Rattle.pure_goal_laws.proofs.FactLaws.{rule-proved, assumption_step, rule_step}
use Rattle.pure_goal_laws.proofs.StateLaws.{subgoals-unchanged, start_is_derivable, end_is_derivable}

-- certified parts over Pure's content
pub prop_typ : IsCertifiedTyp pure_content.declarations prop
prop_typ = prop-certified pure_content pure-below_itself

pub imp-certified : (A B : Term) → HasCertifiedParts pure_content.declarations A → HasCertifiedParts pure_content.declarations B → HasCertifiedParts pure_content.declarations (imp A B)
imp-certified A B h k = imp-parts pure_content pure-below_itself A B h k

pub imp-proposition : (A B : Term) → IsProposition pure_content A → IsProposition pure_content B → IsProposition pure_content (imp A B)
imp-proposition A B h k = implication_behind pure_content pure-below_itself [] A B h k

pub a-proposition : IsProposition pure_content a
a-proposition = certified_of pure_content a prop prop_typ refl

pub b-proposition : IsProposition pure_content b
b-proposition = certified_of pure_content b prop prop_typ refl

pub itself-proposition : IsProposition pure_content itself
itself-proposition = imp-proposition a a a-proposition a-proposition

-- A term is equated with itself.
pub unchanged : (pairs : List Pair) (A : Term) → IsProposition pure_content A → AreEquated pure_content.declarations pairs [] prop A A
unchanged pairs A h = same (record { parts = h.certified.parts; typed = h.typed })

pub started : (C : Term) → IsProposition pure_content C → IsDerivable pure_content (goal_for C (C ∷ []))
started C h = start_is_derivable pure_content pure_is_content pure-below_itself C C (unchanged [] C h)

pub ended : (C : Term) → IsDerivable pure_content (goal_for C []) → IsDerivableAlone pure_content C
ended C h = end_is_derivable pure_content pure_is_content pure-below_itself (goal_for C []) C refl h

-- A step, by maps that leave the proposition as it is.
pub step_for : (C subgoal : Term) (others premises subgoals : List Term) (terms : Term → Term) → AreRespecting pure_content (λ T. T) terms → term_instance (λ T. T) terms C ≡ C
    → EachTwo (λ B S. AreEquated pure_content.declarations [] [] prop B S) (premises ++ map (term_instance (λ T. T) terms) others) subgoals → IsStepFor C subgoal others premises subgoals terms
step_for C subgoal others premises subgoals terms r still equated = record {
  goal_hyps = refl;
  goal_prop = refl;
  respecting = r;
  pairs = tt;
  new_pairs = tt;
  subgoals = subgoals;
  are_subgoals = equated;
  new_hyps = refl;
  new_prop = ap (λ D. chain subgoals (protect D)) (sym still);
  rests = λ l m. m;
}

-- A step that takes the first subgoal away.
pub assumption_for : (C subgoal : Term) (others : List Term) → Each (IsProposition pure_content) others → IsStepFor C subgoal others [] others (λ t. t)
assumption_for C subgoal others h =
    step_for C subgoal others [] others (λ t. t) (identity_respects pure_content) (term_instance-identity C) (subgoals-unchanged pure_content pure_is_content pure-below_itself [] others h)

-- By assumption with nothing to unify.
pub assumed_for : (C : Term) (ps : List Item) (D : Term) (others : List Term) → IsIn D (hypotheses ps) → Each (IsProposition pure_content) others → (T : Typ) → IsTypedUnder pure_content.declarations [] (below_parameters ps D) T
    → IsDerivable pure_content (goal_for C (behind ps D ∷ others)) → IsDerivable pure_content (goal_for C others)
assumed_for C ps D others m h T typed goal =
    assumption_step pure_content pure_is_content pure-below_itself (goal_for C (behind ps D ∷ others)) (goal_for C others) others (protect C) (λ T. T) (λ t. t) ps D D (assumption_for C (behind ps D) others h) m
    (T, rw (term_instance-identity (below_parameters ps D)) (same typed)) goal

pub itself_assumed : (C : Term) (others : List Term) → Each (IsProposition pure_content) others → IsDerivable pure_content (goal_for C (itself ∷ others)) → IsDerivable pure_content (goal_for C others)
itself_assumed C others h goal = assumed_for C (Hypothesis a ∷ []) a others (inl refl) h prop (record { parts = prop_typ; typed = refl }) goal

pub assumption_proof : AssumptionProof
assumption_proof =
    let last = itself_assumed itself [] tt (started itself itself-proposition) in
    let matched : AreMatched pure_content (goal_for itself []) (λ T. T) (λ t. t) (Hypothesis a ∷ []) a a = (prop, unchanged [] a a-proposition) in
    record {
      start = started itself itself-proposition;
      matched = matched;
      justified = by_assumption pure_content pure_is_content pure-below_itself (goal_for itself []) (λ T. T) (λ t. t) (identity_respects pure_content) (Hypothesis a ∷ []) a itself-proposition a (inl refl) matched;
      assumption = assumption_for itself itself [] tt;
      last = last;
      proved = ended itself last;
    }

-- Connectives of equated terms are equated, under binders of these types.
module _ (bs : List Typ) where
  pub imp-equated : (A B C D : Term) → AreEquated pure_content.declarations [] bs prop A B → AreEquated pure_content.declarations [] bs prop C D → AreEquated pure_content.declarations [] bs prop (imp A C) (imp B D)
  imp-equated A B C D p r = application (application (same (record { parts = (imp-certified a a prop_typ prop_typ).0.0; typed = refl })) p) r

  eq-equated : (A B C D : Term) → AreEquated pure_content.declarations [] bs prop A B → AreEquated pure_content.declarations [] bs prop C D → AreEquated pure_content.declarations [] bs prop (eq prop A C) (eq prop B D)
  eq-equated A B C D p r = application (application (same (record { parts = (eq-parts pure_content pure-below_itself prop a a prop_typ prop_typ prop_typ).0.0; typed = refl })) p) r

  pub all-equated : (A B : Term) → AreEquated pure_content.declarations [] (prop ∷ bs) prop A B → AreEquated pure_content.declarations [] bs prop (all prop A) (all prop B)
  all-equated A B p = application (same (record { parts = (all-parts pure_content pure-below_itself prop a prop_typ prop_typ).0; typed = refl })) (abstraction prop_typ p)

symmetry-derivable : IsDerivable pure_content symmetry
symmetry-derivable =
    (derivable_is_proves pure_content [] [] symmetry.prop).1
    (quantification_is_proved pure_content [] [] prop (all prop (imp (eq prop (Bound 1) (Bound 0)) (eq prop (Bound 0) (Bound 1)))) prop_typ
    (λ m. quantification_is_proved pure_content [] [] prop (imp (eq prop (Free m prop) (Bound 0)) (eq prop (Bound 0) (Free m prop))) prop_typ (λ n. of_both m n)))
  where
    of_both : (m n : ℕ) → Proves pure_content [] [] (imp (eq prop (Free m prop) (Free n prop)) (eq prop (Free n prop) (Free m prop)))
    of_both m n =
        let equation = eq prop (Free m prop) (Free n prop) in
        let h = eq-proposition pure_content pure-below_itself prop (Free m prop) (Free n prop) (certified_of pure_content (Free m prop) prop prop_typ refl) (certified_of pure_content (Free n prop) prop prop_typ refl) in
        implication_is_proved pure_content [] [] equation (eq prop (Free n prop) (Free m prop)) h
        (symmetric_equality pure_content pure_is_content pure-below_itself (equation ∷ []) [] prop (Free m prop) (Free n prop) (assumed pure_content (equation ∷ []) [] equation h (inl refl)))

equality-parts : (t u : Term) → HasCertifiedParts pure_content.declarations t → HasCertifiedParts pure_content.declarations u → HasCertifiedParts pure_content.declarations (eq prop t u)
equality-parts t u h k = eq-parts pure_content pure-below_itself prop t u prop_typ h k

symmetry-used : IsRuleFor pure_content after_rule symmetry 1 (eq prop any_a any_b ∷ []) (eq prop any_b any_a)
symmetry-used = record {
  used = record { no_hyps = refl; no_pairs = refl; rests = λ l m. m };
  form = symmetry.prop;
  is_form = unchanged [] symmetry.prop (derivable_is_proposition pure_content pure_is_content pure-below_itself symmetry symmetry-derivable);
  stripped = quantified prop (all prop (imp (eq prop (Bound 1) (Bound 0)) (eq prop (Bound 0) (Bound 1)))) 10 1 (eq prop any_a any_b ∷ []) (eq prop any_b any_a)
      (quantified prop (imp (eq prop any_a (Bound 0)) (eq prop (Bound 0) any_a)) 11 1 (eq prop any_a any_b ∷ []) (eq prop any_b any_a) (supposed (eq prop any_a any_b) (eq prop any_b any_a) [] (eq prop any_b any_a) (bare (eq prop any_b any_a))));
}

turned-proposition : IsProposition pure_content turned
turned-proposition =
    all-proposition pure_content pure-below_itself prop (imp (eq prop a (Bound 0)) (eq prop (Bound 0) a)) prop_typ
    (imp-certified (eq prop a (Bound 0)) (eq prop (Bound 0) a) (equality-parts a (Bound 0) prop_typ tt) (equality-parts (Bound 0) a tt prop_typ))
    (prop, (prop, refl, (prop, (prop, refl, refl), refl)), (prop, (prop, refl, refl), refl))

at_a_x-respects : AreRespecting pure_content (λ T. T) at_a_x
at_a_x-respects =
    sent-respects pure_content (λ T. T) (sent any_g (Abs prop (Bound 0)) (λ t. t)) any_f (Abs prop a)
    (sent-respects pure_content (λ T. T) (λ t. t) any_g (Abs prop (Bound 0)) (identity_respects pure_content) (certified_of pure_content (Abs prop (Bound 0)) (arrow prop prop) (prop_typ, tt) (prop, refl, refl)))
    (certified_of pure_content (Abs prop a) (arrow prop prop) (prop_typ, prop_typ) (prop, refl, refl))

-- Under the binder `(%x. x) x` is equated with x, and `(%x. a) x` with a.
identity_at_bound : AreEquated pure_content.declarations [] (prop ∷ []) prop (App (Abs prop (Bound 0)) (Bound 0)) (Bound 0)
identity_at_bound = beta (record { parts = ((prop_typ, tt), tt); typed = (prop, (prop, refl, refl), refl) })

constant_at_bound : AreEquated pure_content.declarations [] (prop ∷ []) prop (App (Abs prop a) (Bound 0)) a
constant_at_bound = beta (record { parts = ((prop_typ, prop_typ), tt); typed = (prop, (prop, refl, refl), refl) })

-- the instance of the lifted premise without redexes
unturned-equated : AreEquated pure_content.declarations [] [] prop (behind equal_to_a (eq prop (App (Abs prop a) (Bound 0)) (App (Abs prop (Bound 0)) (Bound 0)))) unturned
unturned-equated =
    let hypothesis = same (record { parts = equality-parts a (Bound 0) prop_typ tt; typed = (prop, (prop, refl, refl), refl) }) in
    let sides = eq-equated (prop ∷ []) (App (Abs prop a) (Bound 0)) a (App (Abs prop (Bound 0)) (Bound 0)) (Bound 0) constant_at_bound identity_at_bound in
    all-equated [] (imp (eq prop a (Bound 0)) (eq prop (App (Abs prop a) (Bound 0)) (App (Abs prop (Bound 0)) (Bound 0)))) (imp (eq prop a (Bound 0)) (eq prop a (Bound 0)))
    (imp-equated (prop ∷ []) (eq prop a (Bound 0)) (eq prop a (Bound 0)) (eq prop (App (Abs prop a) (Bound 0)) (App (Abs prop (Bound 0)) (Bound 0))) (eq prop a (Bound 0)) hypothesis sides)

pub rule_proof : RuleProof
rule_proof =
    let start = started turned turned-proposition in
    let As = eq prop any_a any_b ∷ [] in
    let B = eq prop any_b any_a in
    let C = eq prop (Bound 0) a in
    let matched : AreMatched pure_content after_rule (λ T. T) at_a_x equal_to_a (lifted_behind equal_to_a B) C =
    (arrow prop prop, abstraction prop_typ (eq-equated (prop ∷ []) (App (Abs prop (Bound 0)) (Bound 0)) (Bound 0) (App (Abs prop a) (Bound 0)) a identity_at_bound constant_at_bound)) in
    let step = step_for turned turned [] (lifted_premises (λ T. T) at_a_x equal_to_a As) (unturned ∷ []) at_a_x at_a_x-respects refl (unturned-equated, tt) in
    let next = rule_step pure_content pure_is_content pure-below_itself (goal_for turned (turned ∷ [])) after_rule [] (protect turned) (λ T. T) at_a_x equal_to_a C symmetry 1 As B step symmetry-used matched start symmetry-derivable in
    let typed : IsTypedUnder pure_content.declarations [] (below_parameters equal_to_a (eq prop a (Bound 0))) (arrow prop prop) =
    record { parts = (prop_typ, equality-parts a (Bound 0) prop_typ tt); typed = (prop, (prop, (prop, refl, refl), refl), refl) } in
    record {
      fact = symmetry-derivable;
      start = start;
      is_rule = symmetry-used;
      matched = matched;
      premises = refl;
      justified = by_rule pure_content pure_is_content pure-below_itself after_rule (λ T. T) at_a_x at_a_x-respects equal_to_a C turned-proposition As B (rule-proved pure_content pure_is_content pure-below_itself after_rule symmetry 1 As B symmetry-used symmetry-derivable) matched;
      rule = step;
      next = next;
      matched_hypothesis = (arrow prop prop, same typed);
      assumption = assumption_for turned unturned [] tt;
      proved = ended turned (assumed_for turned equal_to_a (eq prop a (Bound 0)) [] (inl refl) tt (arrow prop prop) typed next);
    }
