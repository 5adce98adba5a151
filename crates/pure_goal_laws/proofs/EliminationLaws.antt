-- Elimination and destruction: a rule whose first premise is a hypothesis of the subgoal.
use Rattle.std.proofs.Common.{◌≡◌, List, [], ◌∷◌, ◌++◌, map, length, inl, inr, refl, ap, subst}
use Rattle.std.proofs.lemmas.List.{map-append}
use Rattle.pure_text.specs.Lists.{IsIn, Each}
use Rattle.pure_text.proofs.ListLaws.{in-append_left}
use Rattle.pure_definitions.specs.Names.{Label}
use Rattle.pure_definitions.specs.Types.Typ.{Typ}
use Rattle.pure_definitions.specs.Terms.Term.{Term}
use Rattle.pure_definitions.specs.Terms.Bounds.{lift_term}
use Rattle.pure_definitions.specs.Terms.Subst.{term_instance}
use Rattle.pure_logic.specs.Connectives.{imp, chain}
use Rattle.pure_logic.specs.Content.{Content, IsContent, IsBelow, IsProposition}
use Rattle.pure_logic.specs.PureContent.{pure_content}
use Rattle.pure_logic.specs.Derivable.{Theorem}
use Rattle.pure_logic.specs.Concludes.{AreRespecting}
use Rattle.pure_logic.specs.Proves.{Proves}
use Rattle.pure_logic.proofs.ProvesLaws.{assumed, weaker, implication_is_proved, conclusion_is_proved, chain_is_proved, end_of_chain_is_proved, proved_is_proposition}
use Rattle.pure_logic.proofs.PropositionLaws.{conclusion-proposition}
use Rattle.pure_equation_laws.specs.Laws.Proved.{IsPairProved}
use Rattle.pure_goal_laws.specs.Prefix.{Item, Parameter, Hypothesis, behind, parameters, hypotheses}
use Rattle.pure_goal_laws.specs.Lifting.{lifted_under, lifted_behind}
use Rattle.pure_goal_laws.specs.GoalStep.{IsJustified, AreMatched, lifted_premises, IsEliminated}
use Rattle.pure_goal_laws.proofs.PrefixLaws.{behind-append, parameters-without, conclusion_behind, implication_behind, distributed, further_hypothesis, hypothesis_is_proved}
use Rattle.pure_goal_laws.proofs.LiftingLaws.{lifted_rule}
use Rattle.pure_goal_laws.proofs.StepLaws.{pairs-weaker}
use Rattle.pure_goal_laws.proofs.MatchLaws.{matched_behind, matched_back}
use Rattle.pure_goal_laws.proofs.JustificationLaws.{premises-propositions, chain-then, at_instance, chain_at_instance}

pub hypothesis-there : (before : List Item) (H : Term) (after : List Item) → IsIn (lift_term (length (parameters after)) 0 H) (hypotheses (before ++ Hypothesis H ∷ after))
hypothesis-there [] H after = inl refl
hypothesis-there (Parameter T ∷ ps) H after = hypothesis-there ps H after
hypothesis-there (Hypothesis A ∷ ps) H after = inr (hypothesis-there ps H after)

pub chain-append : (As Bs : List Term) (C : Term) → chain (As ++ Bs) C ≡ chain As (chain Bs C)
chain-append [] Bs C = refl
chain-append (A ∷ As) Bs C = ap (imp A) (chain-append As Bs C)

end-proposition : (Q : Content) → IsBelow pure_content Q → (As : List Term) (B : Term) → IsProposition Q (chain As B) → IsProposition Q B
end-proposition Q above [] B h = h
end-proposition Q above (A ∷ As) B h = end-proposition Q above As B (conclusion-proposition Q above A (chain As B) h)

module _ (Q : Content) (q : IsContent Q) (above : IsBelow pure_content Q) (rests : List Label) (before : List Item) (H : Term) (after : List Item) where
  abbrev whole : List Item
  whole = before ++ Hypothesis H ∷ after

  abbrev others : List Item
  others = before ++ after

  -- what stands behind the prefix, and behind the prefix without the hypothesis, lifted
  abbrev at_whole : Term → Term
  at_whole A = behind whole (lifted_behind others A)

  abbrev at_others : Term → Term
  at_others A = behind others (lifted_behind others A)

  without-hypothesis : (C : Term) → IsProposition Q (behind whole C) → IsProposition Q (behind others C)
  without-hypothesis C h = rw (behind-append before after C) (conclusion_behind Q before H (behind after C) (rw (behind-append before (Hypothesis H ∷ after) C) at h))

  with_hypothesis : (hyps : List Term) (C : Term) → IsProposition Q (behind whole C) → Proves Q hyps rests (behind others C) → Proves Q hyps rests (behind whole C)
  with_hypothesis hyps C h p =
      rw (behind-append before (Hypothesis H ∷ after) C)
      (further_hypothesis Q q above hyps rests before H (behind after C) (rw (behind-append before (Hypothesis H ∷ after) C) at h) (rw (behind-append before after C) at p))

  all-with_hypothesis : (hyps : List Term) (As : List Term) → ((A : Term) → IsIn A (map at_others As) → IsIn A hyps) → Each (IsProposition Q) (map at_others As) → Each (IsProposition Q) (map at_whole As) → Each (λ A. Proves Q hyps rests A) (map at_whole As)
  all-with_hypothesis hyps [] among h k = tt
  all-with_hypothesis hyps (A ∷ As) among h k =
      (with_hypothesis hyps (lifted_behind others A) k.0 (assumed Q hyps rests (at_others A) h.0 (among (at_others A) (inl refl))), all-with_hypothesis hyps As (λ B m. among B (inr m)) h.1 k.1)

  module _ (C : Term) (h : IsProposition Q (behind whole C)) (P : Term) (As : List Term) (B : Term) (p : Proves Q [] rests (chain (P ∷ As) B)) where
    rule_at_others : (hyps : List Term) → Proves Q hyps rests (chain (map at_others (P ∷ As)) (at_others B))
    rule_at_others hyps = lifted_rule Q q above hyps rests others C (P ∷ As) B (without-hypothesis C h) p

    rule_at_whole : (hyps : List Term) → Proves Q hyps rests (chain (map at_whole (P ∷ As)) (at_whole B))
    rule_at_whole hyps =
        subst (λ Ts. Proves Q hyps rests (chain (map (λ A. behind whole (lifted_under Ts 0 A)) (P ∷ As)) (behind whole (lifted_under Ts 0 B)))) (parameters-without before after H)
        (lifted_rule Q q above hyps rests whole C (P ∷ As) B h p)

    others-propositions : Each (IsProposition Q) (map at_others (P ∷ As))
    others-propositions = premises-propositions Q q above (map at_others (P ∷ As)) (at_others B) (proved_is_proposition Q q above [] rests (chain (map at_others (P ∷ As)) (at_others B)) (rule_at_others []))

    whole-propositions : Each (IsProposition Q) (map at_whole (P ∷ As))
    whole-propositions = premises-propositions Q q above (map at_whole (P ∷ As)) (at_whole B) (proved_is_proposition Q q above [] rests (chain (map at_whole (P ∷ As)) (at_whole B)) (rule_at_whole []))

    -- The rule, from its first premise behind the whole prefix and the others behind the prefix without the hypothesis.
    pub eliminated : Proves Q [] rests (chain (map at_others As) (imp (at_whole P) (at_whole B)))
    eliminated =
        let hyps = map at_others As ++ [] in
        let more = at_whole P ∷ hyps in
        chain_is_proved Q (map at_others As) [] rests (imp (at_whole P) (at_whole B)) others-propositions.1
        (implication_is_proved Q hyps rests (at_whole P) (at_whole B) whole-propositions.0
        (end_of_chain_is_proved Q (map at_whole (P ∷ As)) more rests (at_whole B) (rule_at_whole more) (
          assumed Q more rests (at_whole P) whole-propositions.0 (inl refl),
          all-with_hypothesis more As (λ A m. inr (in-append_left A (map at_others As) [] m)) others-propositions.1 whole-propositions.1,
        )))

    -- the subgoal behind the prefix without the hypothesis, with the rule's conclusion as its last hypothesis
    abbrev pub destructed : Term
    destructed = behind (others ++ Hypothesis (lifted_behind others B) ∷ []) C

    -- The rule, from its first premise behind the whole prefix, the others behind the prefix without the hypothesis, and the subgoal behind it with the rule's conclusion as its last hypothesis.
    pub replaced : Proves Q [] rests (chain (map at_others As ++ destructed ∷ []) (imp (at_whole P) (behind whole C)))
    replaced =
        rw (chain-append (map at_others As) (destructed ∷ []) (imp (at_whole P) (behind whole C)))
        (chain-then Q q above [] rests (map at_others As) (imp (at_whole P) (at_whole B)) (imp destructed (imp (at_whole P) (behind whole C))) (λ hyps among r. goes_on hyps r) eliminated)
      where
        goes_on : (hyps : List Term) → Proves Q hyps rests (imp (at_whole P) (at_whole B)) → Proves Q hyps rests (imp destructed (imp (at_whole P) (behind whole C)))
        goes_on hyps r =
            let conclusion = lifted_behind others B in
            let split = behind-append others (Hypothesis conclusion ∷ []) C in
            let at_others_too = end-proposition Q above (map at_others (P ∷ As)) (at_others B) (proved_is_proposition Q q above [] rests (chain (map at_others (P ∷ As)) (at_others B)) (rule_at_others [])) in
            let at_whole_too = end-proposition Q above (map at_whole (P ∷ As)) (at_whole B) (proved_is_proposition Q q above [] rests (chain (map at_whole (P ∷ As)) (at_whole B)) (rule_at_whole [])) in
            let new : IsProposition Q destructed = rw split (implication_behind Q above others conclusion C at_others_too (without-hypothesis C h)) in
            let more = at_whole P ∷ destructed ∷ hyps in
            let weakened = with_hypothesis more (imp conclusion C) (implication_behind Q above whole conclusion C at_whole_too h) (subst (λ A. Proves Q more rests A) split (assumed Q more rests destructed new (inr (inl refl)))) in
            let further = weaker Q hyps more rests rests (imp (at_whole P) (at_whole B)) (λ A m. inr (inr m)) (λ l m. m) r in
            let concluded = conclusion_is_proved Q more rests (at_whole P) (at_whole B) further (assumed Q more rests (at_whole P) whole-propositions.0 (inl refl)) in
            implication_is_proved Q hyps rests destructed (imp (at_whole P) (behind whole C)) new
            (implication_is_proved Q (destructed ∷ hyps) rests (at_whole P) (behind whole C) whole-propositions.0 (distributed Q q above more rests whole conclusion C weakened concluded))

-- The lifting over a prefix doesn't depend on its hypotheses.
lifted-without : (before : List Item) (H : Term) (after : List Item) (A : Term) → lifted_behind (before ++ Hypothesis H ∷ after) A ≡ lifted_behind (before ++ after) A
lifted-without before H after A = ap (λ Ts. lifted_under Ts 0 A) (parameters-without before after H)

module _ (Q : Content) (q : IsContent Q) (above : IsBelow pure_content Q) (new : Theorem) (typs : Typ → Typ) (terms : Term → Term) (r : AreRespecting Q typs terms) (before : List Item) (H : Term) (after : List Item) (C : Term) where
  -- The rule's first premise is proved behind the prefix, at the instance.
  premise_eliminated : IsProposition Q (behind (before ++ Hypothesis H ∷ after) C) → (P : Term) → IsEliminated Q new typs terms before H after P → (hyps : List Term) → Each (IsPairProved Q hyps new.rests) new.pairs
      → Proves Q hyps new.rests (term_instance typs terms (behind (before ++ Hypothesis H ∷ after) (lifted_behind (before ++ after) P)))
  premise_eliminated h P e hyps given =
      let ps = before ++ Hypothesis H ∷ after in
      let hypothesis = lift_term (length (parameters after)) 0 H in
      let there = hypothesis_is_proved Q q above [] new.rests ps hypothesis C h (hypothesis-there before H after) in
      rw (← lifted-without before H after P)
      (matched_back Q q above new typs terms hyps given ps (lifted_behind ps P) hypothesis e (at_instance Q q above new typs terms r hyps (behind ps hypothesis) there))

  pub by_elimination : IsProposition Q (behind (before ++ Hypothesis H ∷ after) C) → (P : Term) (As : List Term) (B : Term) → Proves Q [] new.rests (chain (P ∷ As) B)
      → IsEliminated Q new typs terms before H after P → AreMatched Q new typs terms (before ++ Hypothesis H ∷ after) (lifted_behind (before ++ Hypothesis H ∷ after) B) C
      → IsJustified Q new (behind (before ++ Hypothesis H ∷ after) C) (lifted_premises typs terms (before ++ after) As) typs terms
  by_elimination h P As B p e m hyps given =
      let f = term_instance typs terms in
      let ps = before ++ Hypothesis H ∷ after in
      let others = before ++ after in
      let premise = behind ps (lifted_behind others P) in
      let conclusion = behind ps (lifted_behind others B) in
      let rule = chain_at_instance Q q above new typs terms r hyps (map (λ A. behind others (lifted_behind others A)) As) (imp premise conclusion) (eliminated Q q above new.rests before H after C h P As B p) in
      chain-then Q q above hyps new.rests (lifted_premises typs terms others As) (imp (f premise) (f conclusion)) (f (behind ps C))
      (λ more among implication.
      let there = pairs-weaker Q hyps more new.rests new.pairs among given in
      let concluded = conclusion_is_proved Q more new.rests (f premise) (f conclusion) implication (premise_eliminated h P e more there) in
      matched_behind Q q above new typs terms more there ps (lifted_behind ps B) C m (rw (lifted-without before H after B) concluded)) rule

  pub by_destruction : IsProposition Q (behind (before ++ Hypothesis H ∷ after) C) → (P : Term) (As : List Term) (B : Term) → Proves Q [] new.rests (chain (P ∷ As) B)
      → IsEliminated Q new typs terms before H after P
      → IsJustified Q new (behind (before ++ Hypothesis H ∷ after) C)
      (lifted_premises typs terms (before ++ after) As ++ term_instance typs terms (behind ((before ++ after) ++ Hypothesis (lifted_behind (before ++ after) B) ∷ []) C) ∷ []) typs terms
  by_destruction h P As B p e hyps given =
      let f = term_instance typs terms in
      let ps = before ++ Hypothesis H ∷ after in
      let others = before ++ after in
      let premise = behind ps (lifted_behind others P) in
      let last = behind (others ++ Hypothesis (lifted_behind others B) ∷ []) C in
      let premises = map (λ A. behind others (lifted_behind others A)) As in
      let rule = chain_at_instance Q q above new typs terms r hyps (premises ++ last ∷ []) (imp premise (behind ps C)) (replaced Q q above new.rests before H after C h P As B p) in
      rw (← map-append f premises (last ∷ []))
      (chain-then Q q above hyps new.rests (map f (premises ++ last ∷ [])) (imp (f premise) (f (behind ps C))) (f (behind ps C))
      (λ more among implication.
      let there = pairs-weaker Q hyps more new.rests new.pairs among given in
      conclusion_is_proved Q more new.rests (f premise) (f (behind ps C)) implication (premise_eliminated h P e more there)) rule)
