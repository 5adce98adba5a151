-- What justifies a subgoal: rules, assumption, elimination, destruction, and equations.
use Rattle.std.proofs.Common.{List, [], ◌∷◌, ◌++◌, map, inl, inr, refl}
use Rattle.pure_text.specs.Lists.{IsIn, Each}
use Rattle.pure_text.proofs.ListLaws.{in-append_left, in-append_right}
use Rattle.pure_definitions.specs.Names.{Label}
use Rattle.pure_definitions.specs.Types.Typ.{Typ, prop}
use Rattle.pure_definitions.specs.Terms.Term.{Term}
use Rattle.pure_definitions.specs.Terms.Subst.{term_instance}
use Rattle.pure_term_laws.proofs.SubstLaws.{term_instance-identity}
use Rattle.pure_logic.specs.Connectives.{eq, chain}
use Rattle.pure_logic.specs.Content.{Content, IsContent, IsBelow, IsProposition}
use Rattle.pure_logic.specs.PureContent.{pure_content}
use Rattle.pure_logic.specs.Derivable.{Theorem}
use Rattle.pure_logic.specs.Concludes.{AreRespecting}
use Rattle.pure_logic.specs.Proves.{Proves}
use Rattle.pure_logic.proofs.PropositionLaws.{premise-proposition, conclusion-proposition}
use Rattle.pure_logic.proofs.ProvesLaws.{assumed, weaker, implication_is_proved, chain_is_proved, end_of_chain_is_proved, proved_is_proposition}
use Rattle.pure_logic.proofs.EqualityLaws.{right-of, symmetric_equality, equal_is_proved}
use Rattle.pure_logic.proofs.SubstitutionLaws.{instance_is_proved}
use Rattle.pure_goal_laws.specs.Prefix.{Item, behind, hypotheses}
use Rattle.pure_goal_laws.specs.Lifting.{lifted_behind}
use Rattle.pure_goal_laws.specs.GoalStep.{IsJustified, AreMatched, lifted_premises}
use Rattle.pure_goal_laws.proofs.PrefixLaws.{hypothesis_is_proved}
use Rattle.pure_goal_laws.proofs.LiftingLaws.{lifted_rule}
use Rattle.pure_goal_laws.proofs.StepLaws.{pairs-weaker, instance-chain}
use Rattle.pure_goal_laws.proofs.MatchLaws.{matched_behind}

module _ (Q : Content) (q : IsContent Q) (above : IsBelow pure_content Q) where
  pub premises-propositions : (As : List Term) (B : Term) → IsProposition Q (chain As B) → Each (IsProposition Q) As
  premises-propositions [] B h = tt
  premises-propositions (A ∷ As) B h = (premise-proposition Q above A (chain As B) h, premises-propositions As B (conclusion-proposition Q above A (chain As B) h))

  -- The conclusion of a chain may be followed by an inference from further hypotheses.
  pub chain-then : (hyps : List Term) (rests : List Label) (As : List Term) (B C : Term) → ((H : List Term) → ((A : Term) → IsIn A hyps → IsIn A H) → Proves Q H rests B → Proves Q H rests C)
      → Proves Q hyps rests (chain As B) → Proves Q hyps rests (chain As C)
  chain-then hyps rests As B C step p =
      let propositions = premises-propositions As B (proved_is_proposition Q q above hyps rests (chain As B) p) in
      let H = As ++ hyps in
      let further = weaker Q hyps H rests rests (chain As B) (λ A m. in-append_right A As hyps m) (λ l m. m) p in
      chain_is_proved Q As hyps rests C propositions (step H (λ A m. in-append_right A As hyps m) (end_of_chain_is_proved Q As H rests B further (all-assumed As H (λ A m. in-append_left A As hyps m) propositions)))
    where
      all-assumed : (Bs H : List Term) → ((A : Term) → IsIn A Bs → IsIn A H) → Each (IsProposition Q) Bs → Each (λ A. Proves Q H rests A) Bs
      all-assumed [] H among h = tt
      all-assumed (D ∷ Ds) H among h = (assumed Q H rests D h.0 (among D (inl refl)), all-assumed Ds H (λ A m. among A (inr m)) h.1)

module _ (Q : Content) (q : IsContent Q) (above : IsBelow pure_content Q) (new : Theorem) (typs : Typ → Typ) (terms : Term → Term) (r : AreRespecting Q typs terms) where
  -- What is proved from no hypotheses is proved at the instance, from any.
  pub at_instance : (hyps : List Term) (A : Term) → Proves Q [] new.rests A → Proves Q hyps new.rests (term_instance typs terms A)
  at_instance hyps A p = weaker Q [] hyps new.rests new.rests (term_instance typs terms A) (λ B m. absurd m) (λ l m. m) (instance_is_proved Q q typs terms r [] new.rests A p)

  pub chain_at_instance : (hyps : List Term) (As : List Term) (B : Term) → Proves Q [] new.rests (chain As B) → Proves Q hyps new.rests (chain (map (term_instance typs terms) As) (term_instance typs terms B))
  chain_at_instance hyps As B p = rw (instance-chain typs terms As B) at (at_instance hyps (chain As B) p)

  pub by_rule : (ps : List Item) (C : Term) → IsProposition Q (behind ps C) → (As : List Term) (B : Term) → Proves Q [] new.rests (chain As B)
      → AreMatched Q new typs terms ps (lifted_behind ps B) C → IsJustified Q new (behind ps C) (lifted_premises typs terms ps As) typs terms
  by_rule ps C h As B p m hyps given =
      let f = term_instance typs terms in
      let lifted = lifted_rule Q q above [] new.rests ps C As B h p in
      chain-then Q q above hyps new.rests (lifted_premises typs terms ps As) (f (behind ps (lifted_behind ps B))) (f (behind ps C))
      (λ H among. matched_behind Q q above new typs terms H (pairs-weaker Q hyps H new.rests new.pairs among given) ps (lifted_behind ps B) C m)
      (chain_at_instance hyps (map (λ A. behind ps (lifted_behind ps A)) As) (behind ps (lifted_behind ps B)) lifted)

  pub by_assumption : (ps : List Item) (C : Term) → IsProposition Q (behind ps C) → (H : Term) → IsIn H (hypotheses ps) → AreMatched Q new typs terms ps H C → IsJustified Q new (behind ps C) [] typs terms
  by_assumption ps C h H is m hyps given = matched_behind Q q above new typs terms hyps given ps H C m (at_instance hyps (behind ps H) (hypothesis_is_proved Q q above [] new.rests ps H C h is))

pub by_equation : (Q : Content) → IsContent Q → IsBelow pure_content Q → (new : Theorem) (A B : Term) → Proves Q [] new.rests (eq prop A B) → IsJustified Q new A (B ∷ []) (λ T. T) (λ t. t)
by_equation Q q above new A B p hyps given =
    let right = right-of Q q above [] new.rests prop A B p in
    let H = B ∷ hyps in
    let equation = weaker Q [] H new.rests new.rests (eq prop A B) (λ C m. absurd m) (λ l m. m) p in
    rw (term_instance-identity A)
    (implication_is_proved Q hyps new.rests B A right (equal_is_proved Q q above H new.rests B A (symmetric_equality Q q above H new.rests prop A B equation) (assumed Q H new.rests B right (inl refl))))
