-- Worked examples: elimination and destruction, and a conversion.
use Rattle.std.proofs.Common.{ℕ, [], ◌∷◌, ◌++◌, inl, inr, refl}
use Rattle.pure_definitions.specs.Types.Typ.{arrow, prop}
use Rattle.pure_definitions.specs.Terms.Term.{Term, Bound, Var, Abs, App}
use Rattle.pure_term_laws.specs.LawsMaps.{sent}
use Rattle.pure_logic.specs.Connectives.{all, imp, eq, protect}
use Rattle.pure_logic.specs.Content.{IsProposition}
use Rattle.pure_logic.specs.PureContent.{pure_content}
use Rattle.pure_logic.specs.Derivable.{Theorem, IsDerivable}
use Rattle.pure_logic.specs.Concludes.{AreRespecting}
use Rattle.pure_logic.proofs.ChainLaws.{chain_is_derivable}
use Rattle.pure_logic.proofs.ConnectiveLaws.{certified_of, pure-below_itself, all-parts}
use Rattle.pure_logic.proofs.ContentLaws.{pure_is_content}
use Rattle.pure_logic.proofs.EqualityLaws.{beta_equality}
use Rattle.pure_logic.proofs.MapLaws.{identity_respects, sent-respects}
use Rattle.pure_logic.proofs.PropositionLaws.{all-proposition}
use Rattle.pure_logic.proofs.ProvesLaws.{derivable_is_proves}
use Rattle.pure_equation_laws.specs.Equated.{AreEquated, same, through, beta, abstraction, application}
use Rattle.pure_goal_laws.specs.Prefix.{Hypothesis, behind}
use Rattle.pure_goal_laws.specs.Lifting.{bare, supposed, lifted_behind}
use Rattle.pure_goal_laws.specs.GoalStep.{AreMatched, IsFactFor, IsRuleFor, lifted_premises, IsEliminated, destructed_premises}
use Rattle.pure_goal_laws.specs.Examples.Definitions.{a, b, any_a, any_b}
use Rattle.pure_goal_laws.specs.Examples.Proofs.{goal_for, itself, detachment, outer, inner, nested, detached_within, itself_within, after_elimination, at_x_b, EliminationProof}
use Rattle.pure_goal_laws.specs.Examples.Proofs.{detached, another, after_destruction, at_a_b, DestructionProof, redex, redex_equation, ConversionProof}
use Rattle.pure_goal_laws.proofs.JustificationLaws.{by_equation}
use Rattle.pure_goal_laws.proofs.EliminationLaws.{by_elimination, by_destruction}
use Rattle.pure_goal_laws.proofs.FactLaws.{fact-proved, rule-proved, elimination_step, destruction_step, conversion_step}
use Rattle.pure_goal_laws.proofs.StateLaws.{exchanged_is_derivable, preferred_is_derivable, deferred_is_derivable}
use Rattle.pure_goal_laws.proofs.ExampleLaws.{prop_typ, imp-certified, imp-proposition, a-proposition, b-proposition, itself-proposition, unchanged, started, ended, step_for, assumed_for, itself_assumed, imp-equated, all-equated}

a_b-proposition : IsProposition pure_content (imp a b)
a_b-proposition = imp-proposition a b a-proposition b-proposition

detached-proposition : IsProposition pure_content detached
detached-proposition = imp-proposition (imp a b) (imp a b) a_b-proposition a_b-proposition

another-proposition : IsProposition pure_content another
another-proposition = imp-proposition a (imp b b) a-proposition (imp-proposition b b b-proposition b-proposition)

at_a_b-respects : AreRespecting pure_content (λ T. T) at_a_b
at_a_b-respects =
    sent-respects pure_content (λ T. T) (sent any_b b (λ t. t)) any_a a (sent-respects pure_content (λ T. T) (λ t. t) any_b b (identity_respects pure_content) b-proposition) a-proposition

implication-proposition : (i : ℕ) → IsProposition pure_content (imp (Var 10 i prop) (Var 11 i prop))
implication-proposition i = imp-proposition (Var 10 i prop) (Var 11 i prop) (certified_of pure_content (Var 10 i prop) prop prop_typ refl) (certified_of pure_content (Var 11 i prop) prop prop_typ refl)

detachment-derivable : IsDerivable pure_content detachment
detachment-derivable = chain_is_derivable pure_content (imp (Var 10 0 prop) (Var 11 0 prop) ∷ []) (imp (Var 10 0 prop) (Var 11 0 prop)) (implication-proposition 0, tt) (inl refl)

detachment-used : (new : Theorem) → IsRuleFor pure_content new detachment 1 (imp any_a any_b ∷ any_a ∷ []) any_b
detachment-used new = record {
  used = record { no_hyps = refl; no_pairs = refl; rests = λ l m. absurd m };
  form = detachment.prop;
  is_form = unchanged [] detachment.prop (imp-proposition (imp (Var 10 0 prop) (Var 11 0 prop)) (imp (Var 10 0 prop) (Var 11 0 prop)) (implication-proposition 0) (implication-proposition 0));
  stripped = supposed (imp any_a any_b) (imp any_a any_b) (any_a ∷ []) any_b (supposed any_a any_b [] any_b (bare any_b));
}

detached_within-proposition : IsProposition pure_content detached_within
detached_within-proposition =
    all-proposition pure_content pure-below_itself prop (imp (imp (Bound 0) b) (all prop (imp (Bound 1) b))) prop_typ
    (imp-certified (imp (Bound 0) b) (all prop (imp (Bound 1) b)) (imp-certified (Bound 0) b tt prop_typ) (all-parts pure_content pure-below_itself prop (imp (Bound 1) b) prop_typ (imp-certified (Bound 1) b tt prop_typ)))
    (prop, (prop, refl, (prop, (prop, refl, refl), refl)), (arrow prop prop, refl, (prop, (prop, (prop, refl, refl), refl), refl)))

-- `%x y. x`, and `%x y. b`
abbrev first : Term
first = Abs prop (Abs prop (Bound 1))

abbrev constant : Term
constant = Abs prop (Abs prop b)

at_x_b-respects : AreRespecting pure_content (λ T. T) at_x_b
at_x_b-respects =
    let two = arrow prop (arrow prop prop) in
    sent-respects pure_content (λ T. T) (sent (Var 11 1 two) constant (λ t. t)) (Var 10 1 two) first
    (sent-respects pure_content (λ T. T) (λ t. t) (Var 11 1 two) constant (identity_respects pure_content) (certified_of pure_content constant two (prop_typ, (prop_typ, prop_typ)) (arrow prop prop, (prop, refl, refl), refl)))
    (certified_of pure_content first two (prop_typ, (prop_typ, tt)) (arrow prop prop, (prop, refl, refl), refl))

-- Under binders of x and y `(%x y. x) x y` is equated with x, and `(%x y. b) x y` with b.
first_at_both : AreEquated pure_content.declarations [] (prop ∷ prop ∷ []) prop (App (App first (Bound 1)) (Bound 0)) (Bound 1)
first_at_both =
    through
    (application (beta (record { parts = ((prop_typ, (prop_typ, tt)), tt); typed = (prop, (arrow prop prop, (prop, refl, refl), refl), refl) })) (same (record { parts = tt; typed = refl })))
    (beta (record { parts = ((prop_typ, tt), tt); typed = (prop, (prop, refl, refl), refl) }))

constant_at_both : AreEquated pure_content.declarations [] (prop ∷ prop ∷ []) prop (App (App constant (Bound 1)) (Bound 0)) b
constant_at_both =
    through
    (application (beta (record { parts = ((prop_typ, (prop_typ, prop_typ)), tt); typed = (prop, (arrow prop prop, (prop, refl, refl), refl), refl) })) (same (record { parts = tt; typed = refl })))
    (beta (record { parts = ((prop_typ, prop_typ), tt); typed = (prop, (prop, refl, refl), refl) }))

-- the instance of the lifted premise without redexes
within-equated : AreEquated pure_content.declarations [] [] prop (behind (outer ++ inner) (App (App first (Bound 1)) (Bound 0))) itself_within
within-equated =
    let whole = imp (Bound 1) (App (App first (Bound 1)) (Bound 0)) in
    let result = imp (Bound 1) (Bound 1) in
    all-equated [] (all prop whole) (all prop result)
    (all-equated (prop ∷ []) whole result (imp-equated (prop ∷ prop ∷ []) (Bound 1) (Bound 1) (App (App first (Bound 1)) (Bound 0)) (Bound 1) (same (record { parts = tt; typed = refl })) first_at_both))

pub elimination_proof : EliminationProof
elimination_proof =
    let H = imp (Bound 0) b in
    let P = imp any_a any_b in
    let As = any_a ∷ [] in
    let two = arrow prop (arrow prop prop) in
    let eliminated : IsEliminated pure_content after_elimination (λ T. T) at_x_b outer H inner P =
    (two, abstraction prop_typ (abstraction prop_typ (imp-equated (prop ∷ prop ∷ []) (App (App first (Bound 1)) (Bound 0)) (Bound 1) (App (App constant (Bound 1)) (Bound 0)) b first_at_both constant_at_both))) in
    let matched : AreMatched pure_content after_elimination (λ T. T) at_x_b nested (lifted_behind nested any_b) b = (two, abstraction prop_typ (abstraction prop_typ constant_at_both)) in
    let step = step_for detached_within detached_within [] (lifted_premises (λ T. T) at_x_b (outer ++ inner) As) (itself_within ∷ []) at_x_b at_x_b-respects refl (within-equated, tt) in
    let rule = detachment-used after_elimination in
    let next = elimination_step pure_content pure_is_content pure-below_itself (goal_for detached_within (detached_within ∷ [])) after_elimination [] (protect detached_within) (λ T. T) at_x_b outer H inner b detachment 1 P As any_b step rule eliminated
    matched (started detached_within detached_within-proposition) detachment-derivable in
    let used = rule-proved pure_content pure_is_content pure-below_itself after_elimination detachment 1 (P ∷ As) any_b rule detachment-derivable in
    record {
      fact = detachment-derivable;
      is_rule = rule;
      lifted = refl;
      eliminated = eliminated;
      matched = matched;
      premises = refl;
      justified = by_elimination pure_content pure_is_content pure-below_itself after_elimination (λ T. T) at_x_b at_x_b-respects outer H inner b detached_within-proposition P As any_b used eliminated matched;
      elimination = step;
      next = next;
      proved = ended detached_within (assumed_for detached_within (outer ++ inner) (Bound 1) [] (inl refl) tt two (record { parts = (prop_typ, (prop_typ, tt)); typed = (arrow prop prop, (prop, refl, refl), refl) }) next);
    }

pub destruction_proof : DestructionProof
destruction_proof =
    let P = imp any_a any_b in
    let As = any_a ∷ [] in
    let rule = detachment-used after_destruction in
    let eliminated : IsEliminated pure_content after_destruction (λ T. T) at_a_b [] (imp a b) (Hypothesis a ∷ []) P = (prop, unchanged [] (imp a b) a_b-proposition) in
    let premises = destructed_premises (λ T. T) at_a_b (Hypothesis a ∷ []) b As any_b in
    let step = step_for detached detached [] premises (itself ∷ another ∷ []) at_a_b at_a_b-respects refl (unchanged [] itself itself-proposition, (unchanged [] another another-proposition, tt)) in
    let next = destruction_step pure_content pure_is_content pure-below_itself (goal_for detached (detached ∷ [])) after_destruction [] (protect detached) (λ T. T) at_a_b [] (imp a b) (Hypothesis a ∷ []) b detachment 1 P As any_b step rule eliminated
    (started detached detached-proposition) detachment-derivable in
    let used = rule-proved pure_content pure_is_content pure-below_itself after_destruction detachment 1 (P ∷ As) any_b rule detachment-derivable in
    let deferred = deferred_is_derivable pure_content pure_is_content pure-below_itself after_destruction itself (another ∷ []) (protect detached) refl next in
    let preferred = preferred_is_derivable pure_content pure_is_content pure-below_itself (goal_for detached (another ∷ itself ∷ [])) (another ∷ []) itself [] (protect detached) refl deferred in
    let one = itself_assumed detached (another ∷ []) (another-proposition, tt) preferred in
    let none_left = assumed_for detached (Hypothesis a ∷ Hypothesis b ∷ []) b [] (inr (inl refl)) tt prop (record { parts = prop_typ; typed = refl }) one in
    record {
      is_rule = rule;
      eliminated = eliminated;
      premises = refl;
      justified = by_destruction pure_content pure_is_content pure-below_itself after_destruction (λ T. T) at_a_b at_a_b-respects [] (imp a b) (Hypothesis a ∷ []) b detached-proposition P As any_b used eliminated;
      destruction = step;
      next = next;
      deferred = deferred;
      preferred = preferred;
      one = one;
      proved = ended detached none_left;
    }

pub conversion_proof : ConversionProof
conversion_proof =
    let whole : IsProposition pure_content redex = certified_of pure_content redex prop ((prop_typ, tt), itself-proposition.certified.parts) (prop, (prop, refl, refl), itself-proposition.typed) in
    let goal = goal_for redex (redex ∷ []) in
    let new = goal_for redex (itself ∷ []) in
    let start = started redex whole in
    let equation = (derivable_is_proves pure_content [] [] (eq prop redex itself)).1 (beta_equality pure_content pure_is_content pure-below_itself [] [] prop prop (Bound 0) itself whole) in
    let is : IsFactFor new redex_equation = record { no_hyps = refl; no_pairs = refl; rests = λ l m. m } in
    let converted = conversion_step pure_content pure_is_content pure-below_itself goal redex_equation redex itself itself [] (protect redex) [] refl refl (λ l m. m) (unchanged [] itself itself-proposition) is refl start equation in
    let exchanged = exchanged_is_derivable pure_content pure_is_content pure-below_itself goal redex itself [] (protect redex) refl refl (beta (record { parts = whole.certified.parts; typed = whole.typed })) start in
    record {
      fact = equation;
      is_fact = is;
      justified = by_equation pure_content pure_is_content pure-below_itself new redex itself (fact-proved pure_content pure_is_content pure-below_itself new redex_equation is equation);
      converted = converted;
      exchanged = exchanged;
      proved = ended redex (itself_assumed redex [] tt converted);
    }
