-- Goal steps.
use Rattle.std.proofs.Common.{◌≡◌, List, [], ◌∷◌, ◌++◌, map, inl, inr, refl, ap}
use Rattle.pure_text.specs.Lists.{IsIn, Each, EachTwo}
use Rattle.pure_text.proofs.ListLaws.{in-append_left, in-append_right, in_split, each_imply, each-left, each-right}
use Rattle.pure_definitions.specs.Names.{Label}
use Rattle.pure_definitions.specs.Types.Typ.{Typ, prop}
use Rattle.pure_definitions.specs.Terms.Term.{Term}
use Rattle.pure_definitions.specs.Terms.Subst.{term_instance}
use Rattle.pure_logic.specs.Connectives.{imp, eq, chain}
use Rattle.pure_logic.specs.Content.{Content, IsContent, IsBelow, IsProposition}
use Rattle.pure_logic.specs.PureContent.{pure_content}
use Rattle.pure_logic.specs.Derivable.{Pair, Theorem, IsDerivable}
use Rattle.pure_logic.specs.Proves.{Proves}
use Rattle.pure_logic.specs.Laws.Substitution.{theorem_instance}
use Rattle.pure_logic.proofs.ConnectiveLaws.{certified_of}
use Rattle.pure_logic.proofs.ProvesLaws.{assumed, weaker, chain_is_proved, end_of_chain_is_proved, derivable-proved, proved-derivable}
use Rattle.pure_logic.proofs.SubstitutionLaws.{instance_is_derivable}
use Rattle.pure_equation_laws.specs.Equated.{AreEquated, back}
use Rattle.pure_equation_laws.specs.Laws.Proved.{IsPairProved}
use Rattle.pure_equation_laws.proofs.SidesLaws.{equated_are_typed}
use Rattle.pure_equation_laws.proofs.EquatedLaws.{equated_proposition_is_proved}
use Rattle.pure_equation_laws.proofs.PairsLaws.{pairs_are_replaced, own-proved}
use Rattle.pure_goal_laws.specs.GoalStep.{IsGoalStep, IsJustified}

pub pairs-weaker : (Q : Content) (hyps more_hyps : List Term) (rests : List Label) (pairs : List Pair) → ((A : Term) → IsIn A hyps → IsIn A more_hyps) → Each (IsPairProved Q hyps rests) pairs → Each (IsPairProved Q more_hyps rests) pairs
pairs-weaker Q hyps more_hyps rests pairs among h =
    each_imply (IsPairProved Q hyps rests) (IsPairProved Q more_hyps rests) pairs (λ p given. (given.0, weaker Q hyps more_hyps rests rests (eq given.0 p.left p.right) among (λ l m. m) given.1)) h

module _ (Q : Content) (q : IsContent Q) (above : IsBelow pure_content Q) where
  -- An inference that may use the equations of the pairs.
  pub inferred_under_pairs : (new : Theorem) (hyps : List Term) (A : Term) (rests : List Label) → ((B : Term) → IsIn B hyps → IsIn B new.hyps) → ((l : Label) → IsIn l rests → IsIn l new.rests)
      → ((H : List Term) → Each (IsPairProved Q H new.rests) new.pairs → Proves Q H new.rests A → Proves Q H new.rests new.prop)
      → IsDerivable Q (record { hyps = hyps; pairs = new.pairs; prop = A; rests = rests }) → IsDerivable Q new
  inferred_under_pairs new hyps A rests hyps_among rests_among step h =
      let p = derivable-proved Q q above (record { hyps = hyps; pairs = new.pairs; prop = A; rests = rests }) h in
      let H = p.equations ++ new.hyps in
      proved-derivable Q q above new (record {
        equations = p.equations;
        are_equations = p.are_equations;
        propositions = p.propositions;
        proves = step H (own-proved Q H new.rests new.pairs p.equations p.are_equations p.propositions (λ B m. in-append_left B p.equations new.hyps m))
            (weaker Q (p.equations ++ hyps) H rests new.rests A (λ B m. elim (in_split B p.equations hyps m) [ inl n ↦ in-append_left B p.equations new.hyps n | inr n ↦ in-append_right B p.equations new.hyps (hyps_among B n) ]) rests_among p.proves);
      })

  -- Of propositions that are equated modulo pairs whose equations are proved: those on the right are propositions, and those on the left are proved from them.
  module _ (pairs : List Pair) where
    equated-propositions : (Bs Cs : List Term) → EachTwo (λ B C. AreEquated Q.declarations pairs [] prop B C) Bs Cs → Each (IsProposition Q) Cs
    equated-propositions [] [] h = tt
    equated-propositions (B ∷ Bs) (C ∷ Cs) h =
        let right = (equated_are_typed Q.declarations pairs [] prop B C h.0).1 in
        (certified_of Q C prop right.parts right.typed, equated-propositions Bs Cs h.1)
    equated-propositions [] (C ∷ Cs) h = absurd h
    equated-propositions (B ∷ Bs) [] h = absurd h

    equated-proved : (hyps : List Term) (rests : List Label) → Each (IsPairProved Q hyps rests) pairs → (Bs Cs : List Term) → EachTwo (λ B C. AreEquated Q.declarations pairs [] prop B C) Bs Cs → ((A : Term) → IsIn A Cs → IsIn A hyps)
        → Each (IsProposition Q) Cs → Each (λ A. Proves Q hyps rests A) Bs
    equated-proved hyps rests given [] [] h among k = tt
    equated-proved hyps rests given (B ∷ Bs) (C ∷ Cs) h among k = (
      equated_proposition_is_proved Q q above hyps rests pairs given C B (back h.0) (assumed Q hyps rests C k.0 (among C (inl refl))),
      equated-proved hyps rests given Bs Cs h.1 (λ A m. among A (inr m)) k.1,
    )
    equated-proved hyps rests given [] (C ∷ Cs) h among k = absurd h
    equated-proved hyps rests given (B ∷ Bs) [] h among k = absurd h

pub instance-chain : (typs : Typ → Typ) (terms : Term → Term) (As : List Term) (B : Term) → term_instance typs terms (chain As B) ≡ chain (map (term_instance typs terms) As) (term_instance typs terms B)
instance-chain typs terms [] B = refl
instance-chain typs terms (A ∷ As) B = ap (imp (term_instance typs terms A)) (instance-chain typs terms As B)

-- From the premises' chain to the old subgoal, and from the old subgoals to the goal, the new subgoals lead to the goal.
module _ (Q : Content) (q : IsContent Q) (above : IsBelow pure_content Q) (hyps : List Term) (rests : List Label) (pairs : List Pair) (given : Each (IsPairProved Q hyps rests) pairs) where
  exchanged : (A G : Term) (others premises subgoals : List Term) → EachTwo (λ B S. AreEquated Q.declarations pairs [] prop B S) (premises ++ others) subgoals
      → Proves Q hyps rests (chain premises A) → Proves Q hyps rests (chain (A ∷ others) G) → Proves Q hyps rests (chain subgoals G)
  exchanged A G others premises subgoals equated p r =
      let propositions = equated-propositions Q q above pairs (premises ++ others) subgoals equated in
      let H = subgoals ++ hyps in
      let there = pairs-weaker Q hyps H rests pairs (λ B m. in-append_right B subgoals hyps m) given in
      let proved = equated-proved Q q above pairs H rests there (premises ++ others) subgoals equated (λ B m. in-append_left B subgoals hyps m) propositions in
      let first = end_of_chain_is_proved Q premises H rests A (weaker Q hyps H rests rests (chain premises A) (λ B m. in-append_right B subgoals hyps m) (λ l m. m) p) (each-left (λ B. Proves Q H rests B) premises others proved) in
      let whole = weaker Q hyps H rests rests (chain (A ∷ others) G) (λ B m. in-append_right B subgoals hyps m) (λ l m. m) r in
      chain_is_proved Q subgoals hyps rests G propositions (end_of_chain_is_proved Q (A ∷ others) H rests G whole (first, each-right (λ B. Proves Q H rests B) premises others proved))

pub step_is_derivable : (Q : Content) → IsContent Q → IsBelow pure_content Q → (goal new : Theorem) (A : Term) (others : List Term) (G : Term) (premises : List Term) (typs : Typ → Typ) (terms : Term → Term)
    → IsGoalStep Q goal new A others G premises typs terms → IsJustified Q new A premises typs terms → IsDerivable Q goal → IsDerivable Q new
step_is_derivable Q q above goal new A others G premises typs terms step justified h =
    let f = term_instance typs terms in
    let instance = instance_is_derivable Q q typs terms step.respecting goal h in
    let replaced = pairs_are_replaced Q q above (theorem_instance typs terms goal) new.pairs step.new_pairs step.pairs instance in
    inferred_under_pairs Q q above new (map f goal.hyps) (f goal.prop) goal.rests (λ B m. absurd (rw step.goal_hyps at m)) step.rests
    (λ H given p.
    let old : Proves Q H new.rests (chain (f A ∷ map f others) (f G)) = rw (step.goal_prop, instance-chain typs terms (A ∷ others) G) at p in
    rw step.new_prop (exchanged Q q above H new.rests new.pairs given (f A) (f G) (map f others) premises step.subgoals step.are_subgoals (justified H given) old)) replaced
