-- Worked examples: pairs that are removed.
use Rattle.std.proofs.Common.{[], ◌∷◌, inl, inr, refl}
use Rattle.pure_definitions.specs.Types.Typ.{arrow, prop}
use Rattle.pure_definitions.specs.Terms.Term.{Term, Abs, App}
use Rattle.pure_term_laws.specs.LawsMaps.{sent}
use Rattle.pure_logic.specs.Connectives.{imp, eq, protect}
use Rattle.pure_logic.specs.Content.{IsCertifiedOf, IsProposition}
use Rattle.pure_logic.specs.PureContent.{pure_content}
use Rattle.pure_logic.specs.Derivable.{IsDerivable}
use Rattle.pure_logic.specs.Concludes.{AreRespecting}
use Rattle.pure_logic.proofs.ConnectiveLaws.{certified_of, pure-below_itself, arrow-certified}
use Rattle.pure_logic.proofs.ContentLaws.{pure_is_content}
use Rattle.pure_logic.proofs.EqualityLaws.{equal_is_proved}
use Rattle.pure_logic.proofs.MapLaws.{identity_respects, sent-respects}
use Rattle.pure_logic.proofs.PropositionLaws.{eq-proposition}
use Rattle.pure_logic.proofs.ProvesLaws.{derivable_is_proves, assumed, weaker, proved-derivable}
use Rattle.pure_equation_laws.specs.Equated.{AreEquated, IsPairEquated, same, back, through, beta, pair, application}
use Rattle.pure_goal_laws.specs.Laws.States.{IsSmashed}
use Rattle.pure_goal_laws.specs.Examples.Definitions.{a, b, any_b, any_f}
use Rattle.pure_goal_laws.specs.Examples.Proofs.{goal_for, itself}
use Rattle.pure_goal_laws.specs.Examples.Pairs.{with_trivial_pair, DroppedExample, with_flexible_pair, without_pair, SmashedExample, flexible, left_open, FlexibleProof}
use Rattle.pure_goal_laws.specs.Prefix.{Hypothesis}
use Rattle.pure_goal_laws.specs.GoalStep.{IsGoalStep, AreMatched}
use Rattle.pure_goal_laws.proofs.JustificationLaws.{by_assumption}
use Rattle.pure_goal_laws.proofs.FactLaws.{assumption_step}
use Rattle.pure_goal_laws.proofs.StateLaws.{end_is_derivable}
use Rattle.pure_goal_laws.proofs.PairLaws.{dropped_is_derivable, smashed_is_derivable}
use Rattle.pure_goal_laws.proofs.ExampleLaws.{prop_typ, imp-proposition, a-proposition, b-proposition, unchanged, started, assumption_proof}

pub dropped_example : DroppedExample
dropped_example =
    let proved = (derivable_is_proves pure_content [] [] itself).0 assumption_proof.proved in
    let equation = eq prop a a in
    let derivable : IsDerivable pure_content with_trivial_pair = proved-derivable pure_content pure_is_content pure-below_itself with_trivial_pair (record {
      equations = equation ∷ [];
      are_equations = ((prop, refl, refl), tt);
      propositions = (eq-proposition pure_content pure-below_itself prop a a a-proposition a-proposition, tt);
      proves = weaker pure_content [] (equation ∷ []) [] [] itself (λ B m. absurd m) (λ l m. m) proved;
    }) in
    record { derivable = derivable; dropped = dropped_is_derivable pure_content pure_is_content pure-below_itself with_trivial_pair [] tt (inr (prop, unchanged [] a a-proposition), tt) derivable }

function-certified : IsCertifiedOf pure_content any_f (arrow prop prop)
function-certified = certified_of pure_content any_f (arrow prop prop) (arrow-certified pure_content pure-below_itself prop prop prop_typ prop_typ) refl

pub applied-proposition : (A : Term) → IsProposition pure_content A → IsProposition pure_content (App any_f A)
applied-proposition A h = certified_of pure_content (App any_f A) prop (function-certified.certified.parts, h.certified.parts) (prop, refl, h.typed)

-- `%x. ?B`
constant-certified : IsCertifiedOf pure_content (Abs prop any_b) (arrow prop prop)
constant-certified = certified_of pure_content (Abs prop any_b) (arrow prop prop) (prop_typ, prop_typ) (prop, refl, refl)

constant-equated : (A : Term) → IsProposition pure_content A → AreEquated pure_content.declarations [] [] prop (App (Abs prop any_b) A) any_b
constant-equated A h = beta (record { parts = (constant-certified.certified.parts, h.certified.parts); typed = (prop, constant-certified.typed, h.typed) })

flexible-derivable : IsDerivable pure_content with_flexible_pair
flexible-derivable =
    let left = applied-proposition a a-proposition in
    let right = applied-proposition b b-proposition in
    let equation = eq prop (App any_f a) (App any_f b) in
    let proposition = eq-proposition pure_content pure-below_itself prop (App any_f a) (App any_f b) left right in
    let hyps = equation ∷ App any_f a ∷ [] in
    proved-derivable pure_content pure_is_content pure-below_itself with_flexible_pair (record {
      equations = equation ∷ [];
      are_equations = ((prop, (prop, refl, refl), refl), tt);
      propositions = (proposition, tt);
      proves = equal_is_proved pure_content pure_is_content pure-below_itself hyps [] (App any_f a) (App any_f b) (assumed pure_content hyps [] equation proposition (inl refl)) (assumed pure_content hyps [] (App any_f a) left (inr (inl refl)));
    })

-- `%x. ?B` in place of `?F`
abbrev constant_for_f : Term → Term
constant_for_f = sent any_f (Abs prop any_b) (λ t. t)

constant-respects : AreRespecting pure_content (λ T. T) constant_for_f
constant-respects = sent-respects pure_content (λ T. T) (λ t. t) any_f (Abs prop any_b) (identity_respects pure_content) constant-certified

sides-equated : IsPairEquated pure_content.declarations [] (record { left = App (Abs prop any_b) a; right = App (Abs prop any_b) b })
sides-equated = (prop, through (constant-equated a a-proposition) (back (constant-equated b b-proposition)))

pub smashed_example : SmashedExample
smashed_example =
    let is : IsSmashed pure_content with_flexible_pair without_pair (λ T. T) constant_for_f = record {
      respecting = constant-respects;
      pairs = (sides-equated, tt);
      no_pairs = refl;
      hyps = ((any_b, inl refl, constant-equated a a-proposition), tt);
      proposition = constant-equated b b-proposition;
      rests = refl;
    } in
    record { derivable = flexible-derivable; is_smashed = is; smashed = smashed_is_derivable pure_content pure_is_content pure-below_itself with_flexible_pair without_pair (λ T. T) constant_for_f is flexible-derivable }

flexible-proposition : IsProposition pure_content flexible
flexible-proposition = imp-proposition (App any_f a) (App any_f b) (applied-proposition a a-proposition) (applied-proposition b b-proposition)

-- modulo the pair that is left open its sides are equated
matched : AreEquated pure_content.declarations left_open.pairs [] prop (App any_f a) (App any_f b)
matched =
    let left = applied-proposition a a-proposition in
    let right = applied-proposition b b-proposition in
    pair (record { left = App any_f a; right = App any_f b }) (inl refl) (record { parts = left.certified.parts; typed = left.typed }) (record { parts = right.certified.parts; typed = right.typed })

flexible-smashed : IsSmashed pure_content (record left_open { prop = flexible }) (record { hyps = []; pairs = []; prop = imp any_b any_b; rests = [] }) (λ T. T) constant_for_f
flexible-smashed = record {
  respecting = constant-respects;
  pairs = (sides-equated, tt);
  no_pairs = refl;
  hyps = tt;
  proposition = application (application (same (record { parts = flexible-proposition.certified.parts.0.0; typed = refl })) (constant-equated a a-proposition)) (constant-equated b b-proposition);
  rests = refl;
}

pub flexible_proof : FlexibleProof
flexible_proof =
    let left = applied-proposition a a-proposition in
    let right = applied-proposition b b-proposition in
    let step : IsGoalStep pure_content (goal_for flexible (flexible ∷ [])) left_open flexible [] (protect flexible) [] (λ T. T) (λ t. t) = record {
      goal_hyps = refl;
      goal_prop = refl;
      respecting = identity_respects pure_content;
      pairs = tt;
      new_pairs = ((prop, left, right), tt);
      subgoals = [];
      are_subgoals = tt;
      new_hyps = refl;
      new_prop = refl;
      rests = λ l m. m;
    } in
    let ps = Hypothesis (App any_f a) ∷ [] in
    let is : AreMatched pure_content left_open (λ T. T) (λ t. t) ps (App any_f a) (App any_f b) = (prop, matched) in
    let last = assumption_step pure_content pure_is_content pure-below_itself (goal_for flexible (flexible ∷ [])) left_open [] (protect flexible) (λ T. T) (λ t. t) ps (App any_f a) (App any_f b) step (inl refl) is (started flexible flexible-proposition) in
    let proved = end_is_derivable pure_content pure_is_content pure-below_itself left_open flexible refl last in
    record {
      matched = is;
      justified = by_assumption pure_content pure_is_content pure-below_itself left_open (λ T. T) (λ t. t) (identity_respects pure_content) ps (App any_f b) flexible-proposition (App any_f a) (inl refl) is;
      assumption = step;
      last = last;
      proved = proved;
      smashed = smashed_is_derivable pure_content pure_is_content pure-below_itself (record left_open { prop = flexible }) (record { hyps = []; pairs = []; prop = imp any_b any_b; rests = [] }) (λ T. T) constant_for_f flexible-smashed proved;
    }
