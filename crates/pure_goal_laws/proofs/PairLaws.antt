-- Pairs that are not needed: trivial ones are dropped, and pairs are smashed.
use Rattle.std.proofs.Common.{◌⊎◌, List, [], ◌∷◌, ◌++◌, map, inl, inr}
use Rattle.pure_text.specs.Lists.{IsIn, Each}
use Rattle.pure_text.proofs.ListLaws.{each_of, each_at, each_imply, in-append_left}
use Rattle.pure_definitions.specs.Names.{Label}
use Rattle.pure_definitions.specs.Types.Typ.{Typ, prop}
use Rattle.pure_definitions.specs.Terms.Term.{Term}
use Rattle.pure_definitions.specs.Terms.Subst.{term_instance}
use Rattle.pure_logic.specs.Content.{Content, IsContent, IsBelow, IsProposition}
use Rattle.pure_logic.specs.PureContent.{pure_content}
use Rattle.pure_logic.specs.Concludes.{AreRespecting}
use Rattle.pure_logic.specs.Derivable.{Pair, Theorem, IsDerivable}
use Rattle.pure_logic.specs.Proves.{Proves}
use Rattle.pure_logic.specs.Laws.Substitution.{pair_instance, theorem_instance}
use Rattle.pure_logic.proofs.ConnectiveLaws.{certified_of}
use Rattle.pure_logic.proofs.ProvesLaws.{derivable_is_proves, assumed, weaker, chain_is_proved, end_of_chain_is_proved, proved-derivable}
use Rattle.pure_logic.proofs.SubstitutionLaws.{instance_is_derivable}
use Rattle.pure_equation_laws.specs.Equated.{AreEquated, IsPairEquated, back}
use Rattle.pure_equation_laws.specs.Laws.Proved.{IsCertifiedPair}
use Rattle.pure_equation_laws.proofs.SidesLaws.{equated_are_typed}
use Rattle.pure_equation_laws.proofs.EquatedLaws.{equated_proposition_is_proved}
use Rattle.pure_equation_laws.proofs.PairsLaws.{pairs_are_replaced}
use Rattle.pure_goal_laws.specs.Laws.States.{IsSmashed}
use Rattle.pure_goal_laws.proofs.StateLaws.{pairs_are_certified, pair-equated}

module _ (Q : Content) (q : IsContent Q) (above : IsBelow pure_content Q) where
  pub dropped_is_derivable : (th : Theorem) (others : List Pair) → Each (λ p. IsIn p th.pairs) others → Each (λ p. IsIn p others ⊎ IsPairEquated Q.declarations others p) th.pairs → IsDerivable Q th → IsDerivable Q (record th { pairs = others })
  dropped_is_derivable th others left_over either h =
      let certified = pairs_are_certified Q q above th h in
      let at : (p : Pair) → IsIn p th.pairs → IsCertifiedPair Q p = each_at (IsCertifiedPair Q) th.pairs certified in
      let equated = each_of (IsPairEquated Q.declarations others) th.pairs
      (λ p m. elim (each_at (λ r. IsIn r others ⊎ IsPairEquated Q.declarations others r) th.pairs either p m) [ inl n ↦ pair-equated Q q above others p n (at p m) | inr k ↦ k ]) in
      pairs_are_replaced Q q above th others (each_imply (λ p. IsIn p th.pairs) (IsCertifiedPair Q) others at left_over) equated h

  -- Under maps by which its pairs' sides are equated, the instance of a theorem is proved.
  smashed-instance : (th : Theorem) (typs : Typ → Typ) (terms : Term → Term) → AreRespecting Q typs terms → Each (IsPairEquated Q.declarations []) (map (pair_instance typs terms) th.pairs) → IsDerivable Q th
      → Proves Q (map (term_instance typs terms) th.hyps) th.rests (term_instance typs terms th.prop)
  smashed-instance th typs terms r equated h =
      let f = term_instance typs terms in
      (derivable_is_proves Q (map f th.hyps) th.rests (f th.prop)).0 (pairs_are_replaced Q q above (theorem_instance typs terms th) [] tt equated (instance_is_derivable Q q typs terms r th h))

  -- Equated hypotheses stand for others.
  others-assumed : (hyps : List Term) (rests : List Label) (As : List Term) → Each (λ A. (B : Term) × IsIn B hyps × AreEquated Q.declarations [] [] prop A B) As → Each (λ A. IsProposition Q A × Proves Q hyps rests A) As
  others-assumed hyps rests [] h = tt
  others-assumed hyps rests (A ∷ As) h =
      let sides = equated_are_typed Q.declarations [] [] prop A h.0.0 h.0.2 in
      let other = certified_of Q h.0.0 prop sides.1.parts sides.1.typed in
      ((certified_of Q A prop sides.0.parts sides.0.typed, equated_proposition_is_proved Q q above hyps rests [] tt h.0.0 A (back h.0.2) (assumed Q hyps rests h.0.0 other h.0.1)), others-assumed hyps rests As h.1)

  pub smashed_is_derivable : (th smashed : Theorem) (typs : Typ → Typ) (terms : Term → Term) → IsSmashed Q th smashed typs terms → IsDerivable Q th → IsDerivable Q smashed
  smashed_is_derivable th smashed typs terms is h =
      let f = term_instance typs terms in
      let hyps = smashed.hyps in
      let before = map f th.hyps in
      let given = others-assumed hyps th.rests before is.hyps in
      let instance = smashed-instance th typs terms is.respecting is.pairs h in
      let discharged = chain_is_proved Q before hyps th.rests (f th.prop) (each_imply (λ A. IsProposition Q A × Proves Q hyps th.rests A) (IsProposition Q) before (λ A k. k.0) given)
      (weaker Q before (before ++ hyps) th.rests th.rests (f th.prop) (λ A m. in-append_left A before hyps m) (λ l m. m) instance) in
      let proved = end_of_chain_is_proved Q before hyps th.rests (f th.prop) discharged (each_imply (λ A. IsProposition Q A × Proves Q hyps th.rests A) (λ A. Proves Q hyps th.rests A) before (λ A k. k.1) given) in
      proved-derivable Q q above smashed (record {
        equations = [];
        are_equations = rw is.no_pairs tt;
        propositions = tt;
        proves = rw is.rests (equated_proposition_is_proved Q q above hyps th.rests [] tt (f th.prop) smashed.prop is.proposition proved);
      })
