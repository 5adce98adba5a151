-- Goals at their beginning and their end; subgoals converted, and in another order.
use Rattle.std.proofs.Common.{◌≡◌, ◌↔◌, List, [], ◌∷◌, ◌++◌, map, inl, inr, refl, ap, sym}
use Rattle.pure_text.specs.Lists.{IsIn, Each, EachTwo}
use Rattle.pure_text.proofs.ListLaws.{each_of, each_at, in-append_left, in-append_right, in_split, moved, moved_back}
use Rattle.pure_definitions.specs.Names.{Label}
use Rattle.pure_definitions.specs.Types.Typ.{arrow, prop}
use Rattle.pure_definitions.specs.Terms.Term.{Term}
use Rattle.pure_definitions.specs.Terms.Subst.{term_instance}
use Rattle.pure_term_laws.proofs.SubstLaws.{term_instance-identity}
use Rattle.pure_logic.specs.Connectives.{protect_typ, eq, protect, chain}
use Rattle.pure_logic.specs.Content.{Content, IsContent, IsBelow, IsProposition}
use Rattle.pure_logic.specs.PureContent.{pure_content}
use Rattle.pure_logic.specs.Derivable.{Pair, Theorem, IsDerivable, IsDerivableAlone}
use Rattle.pure_logic.specs.Proves.{Proves, IsEquation}
use Rattle.pure_logic.specs.Laws.Substitution.{pair_instance}
use Rattle.pure_logic.proofs.ConnectiveLaws.{certified_of}
use Rattle.pure_logic.proofs.EqualityLaws.{reflexive_equality, left-certified, right-certified, mark_means_nothing}
use Rattle.pure_logic.proofs.InferenceLaws.{inferred_from_one}
use Rattle.pure_logic.proofs.MapLaws.{identity_respects}
use Rattle.pure_logic.proofs.ProvesLaws.{derivable_is_proves, assumed, weaker, implication_is_proved, chain_is_proved, end_of_chain_is_proved, proved_is_proposition, derivable-proved}
use Rattle.pure_logic.proofs.PropositionLaws.{derivable_is_proposition}
use Rattle.pure_equation_laws.specs.Equated.{AreEquated, IsPairEquated, same, pair}
use Rattle.pure_equation_laws.specs.Laws.Proved.{IsCertifiedPair}
use Rattle.pure_equation_laws.proofs.SidesLaws.{equated_are_typed}
use Rattle.pure_equation_laws.proofs.EquatedLaws.{equated_proposition_is_proved}
use Rattle.pure_goal_laws.specs.GoalStep.{IsGoalStep}
use Rattle.pure_goal_laws.proofs.StepLaws.{step_is_derivable}
use Rattle.pure_goal_laws.proofs.JustificationLaws.{premises-propositions, by_equation}

module _ (Q : Content) (q : IsContent Q) (above : IsBelow pure_content Q) where
  pub subgoals_are_propositions : (goal : Theorem) (As : List Term) (G : Term) → goal.prop ≡ chain As G → IsDerivable Q goal → Each (IsProposition Q) As
  subgoals_are_propositions goal As G e h = premises-propositions Q q above As G (rw e at (derivable_is_proposition Q q above goal h))

  pub start_is_derivable : (S C : Term) → AreEquated Q.declarations [] [] prop S C → IsDerivableAlone Q (chain (S ∷ []) (protect C))
  start_is_derivable S C h =
      let sides = equated_are_typed Q.declarations [] [] prop S C h in
      let subgoal = certified_of Q S prop sides.0.parts sides.0.typed in
      let conclusion = certified_of Q C prop sides.1.parts sides.1.typed in
      let proved = equated_proposition_is_proved Q q above (S ∷ []) [] [] tt S C h (assumed Q (S ∷ []) [] S subgoal (inl refl)) in
      (derivable_is_proves Q [] [] (chain (S ∷ []) (protect C))).1 (implication_is_proved Q [] [] S (protect C) subgoal ((mark_means_nothing Q q above (S ∷ []) [] C conclusion).1 proved))

  -- What the mark stands before is a proposition where the whole is.
  marked-proposition : (C : Term) → IsProposition Q (protect C) → IsProposition Q C
  marked-proposition C h =
      let connective : protect_typ ≡ arrow h.typed.0 prop = h.typed.1 in
      let once : h.typed.0 ≡ prop = cc in
      certified_of Q C prop h.certified.parts.1 (rw once at h.typed.2)

  pub end_is_derivable : (goal : Theorem) (C : Term) → goal.prop ≡ protect C → IsDerivable Q goal → IsDerivable Q (record goal { prop = C })
  end_is_derivable goal C e h =
      inferred_from_one Q q above goal goal.hyps C
      (λ further p.
      let whole : Proves Q (further ++ goal.hyps) goal.rests (protect C) = rw e at p in
      (mark_means_nothing Q q above (further ++ goal.hyps) goal.rests C (marked-proposition C (proved_is_proposition Q q above (further ++ goal.hyps) goal.rests (protect C) whole))).0 whole) h

  pub reordered_is_derivable : (goal : Theorem) (As Bs : List Term) (G : Term) → goal.prop ≡ chain As G → ((A : Term) → IsIn A As ↔ IsIn A Bs) → IsDerivable Q goal → IsDerivable Q (record goal { prop = chain Bs G })
  reordered_is_derivable goal As Bs G e both h =
      let propositions = subgoals_are_propositions goal As G e h in
      let there = each_of (IsProposition Q) Bs (λ B m. each_at (IsProposition Q) As propositions B ((both B).1 m)) in
      inferred_from_one Q q above goal goal.hyps (chain Bs G)
      (λ further p.
      let hyps = further ++ goal.hyps in
      let more = Bs ++ hyps in
      let whole : Proves Q hyps goal.rests (chain As G) = rw e at p in
      let proved = each_of (λ A. Proves Q more goal.rests A) As (λ A m. assumed Q more goal.rests A (each_at (IsProposition Q) As propositions A m) (in-append_left A Bs hyps ((both A).0 m))) in
      chain_is_proved Q Bs hyps goal.rests G there
      (end_of_chain_is_proved Q As more goal.rests G (weaker Q hyps more goal.rests goal.rests (chain As G) (λ A m. in-append_right A Bs hyps m) (λ l m. m) whole) proved)) h

  pub preferred_is_derivable : (goal : Theorem) (before : List Term) (A : Term) (after : List Term) (G : Term) → goal.prop ≡ chain (before ++ A ∷ after) G → IsDerivable Q goal → IsDerivable Q (record goal { prop = chain (A ∷ (before ++ after)) G })
  preferred_is_derivable goal before A after G e h = reordered_is_derivable goal (before ++ A ∷ after) (A ∷ (before ++ after)) G e (λ B. (moved A before after B, moved_back A before after B)) h

  pub deferred_is_derivable : (goal : Theorem) (A : Term) (others : List Term) (G : Term) → goal.prop ≡ chain (A ∷ others) G → IsDerivable Q goal → IsDerivable Q (record goal { prop = chain (others ++ A ∷ []) G })
  deferred_is_derivable goal A others G e h =
      reordered_is_derivable goal (A ∷ others) (others ++ A ∷ []) G e
      (λ B. (λ m. elim m [ inl first ↦ in-append_right B others (A ∷ []) (inl first) | inr n ↦ in-append_left B others (A ∷ []) n ], λ m. elim (in_split B others (A ∷ []) m) [ inl n ↦ inr n | inr n ↦ elim n [ inl first ↦ inl first | inr none ↦ absurd none ] ])) h

  -- The sides of a derivable theorem's pairs are certified.
  equations-certified : (pairs : List Pair) (es : List Term) → EachTwo IsEquation pairs es → Each (IsProposition Q) es → Each (IsCertifiedPair Q) pairs
  equations-certified [] [] h k = tt
  equations-certified (p ∷ ps) (e ∷ es) h k =
      let T = h.0.0 in
      let whole : IsProposition Q (eq T p.left p.right) = rw h.0.2 at k.0 in
      ((T, left-certified Q q above [] [] T p.left p.right whole, right-certified Q q above [] [] T p.left p.right whole), equations-certified ps es h.1 k.1)
  equations-certified [] (e ∷ es) h k = absurd h
  equations-certified (p ∷ ps) [] h k = absurd h

  pub pairs_are_certified : (th : Theorem) → IsDerivable Q th → Each (IsCertifiedPair Q) th.pairs
  pairs_are_certified th h = let p = derivable-proved Q q above th h in equations-certified th.pairs p.equations p.are_equations p.propositions

  pub pair-equated : (pairs : List Pair) (p : Pair) → IsIn p pairs → IsCertifiedPair Q p → IsPairEquated Q.declarations pairs p
  pair-equated pairs p m c = (c.0, pair p m (record { parts = c.1.certified.parts; typed = c.1.typed }) (record { parts = c.2.certified.parts; typed = c.2.typed }))

  -- Pairs stay under the identity maps, and are equated modulo themselves.
  pairs-unchanged : (all pairs : List Pair) → ((p : Pair) → IsIn p pairs → IsIn p all) → Each (IsCertifiedPair Q) pairs → Each (IsPairEquated Q.declarations all) (map (pair_instance (λ T. T) (λ t. t)) pairs)
  pairs-unchanged all [] among h = tt
  pairs-unchanged all (p ∷ ps) among h = (
    rw (term_instance-identity p.left, term_instance-identity p.right) (pair-equated all p (among p (inl refl)) h.0),
    pairs-unchanged all ps (λ r m. among r (inr m)) h.1,
  )

  pub subgoals-unchanged : (pairs : List Pair) (As : List Term) → Each (IsProposition Q) As → EachTwo (λ A S. AreEquated Q.declarations pairs [] prop A S) (map (term_instance (λ T. T) (λ t. t)) As) As
  subgoals-unchanged pairs [] h = tt
  subgoals-unchanged pairs (A ∷ As) h = (rw (term_instance-identity A) (same (record { parts = h.0.certified.parts; typed = h.0.typed })), subgoals-unchanged pairs As h.1)

  -- A step that exchanges the first subgoal A for B, under the identity maps, and B for S, which is equated with it.
  pub exchange : (goal : Theorem) (A B S : Term) (others : List Term) (G : Term) (rests : List Label) → goal.hyps ≡ [] → goal.prop ≡ chain (A ∷ others) G → ((l : Label) → IsIn l goal.rests → IsIn l rests)
      → AreEquated Q.declarations goal.pairs [] prop B S → IsDerivable Q goal → IsGoalStep Q goal (record goal { prop = chain (S ∷ others) G; rests = rests }) A others G (B ∷ []) (λ T. T) (λ t. t)
  exchange goal A B S others G rests no_hyps e among equated h =
      let certified = pairs_are_certified goal h in
      record {
        goal_hyps = no_hyps;
        goal_prop = e;
        respecting = identity_respects Q;
        pairs = pairs-unchanged goal.pairs goal.pairs (λ r m. m) certified;
        new_pairs = certified;
        subgoals = S ∷ others;
        are_subgoals = (equated, subgoals-unchanged goal.pairs others (subgoals_are_propositions goal (A ∷ others) G e h).1);
        new_hyps = no_hyps;
        new_prop = ap (chain (S ∷ others)) (sym (term_instance-identity G));
        rests = among;
      }

  pub exchanged_is_derivable : (goal : Theorem) (A S : Term) (others : List Term) (G : Term) → goal.hyps ≡ [] → goal.prop ≡ chain (A ∷ others) G → AreEquated Q.declarations goal.pairs [] prop A S → IsDerivable Q goal
      → IsDerivable Q (record goal { prop = chain (S ∷ others) G })
  exchanged_is_derivable goal A S others G no_hyps e equated h =
      let new : Theorem = record goal { prop = chain (S ∷ others) G } in
      let first = (subgoals_are_propositions goal (A ∷ others) G e h).0 in
      step_is_derivable Q q above goal new A others G (A ∷ []) (λ T. T) (λ t. t) (exchange goal A A S others G goal.rests no_hyps e (λ l m. m) equated h)
      (by_equation Q q above new A A (reflexive_equality Q q above [] goal.rests prop A first)) h
