-- What the inferences of equality give is derivable.
use Rattle.std.proofs.Common.{◌≡◌, ◌++◌, List, [], ◌∷◌, refl, ap, sym, subst, ◌∙◌}
use Rattle.pure_definitions.specs.Types.Typ.{Typ, arrow, prop}
use Rattle.pure_definitions.specs.Terms.Term.{Term, Free, Bound, Abs, App}
use Rattle.pure_definitions.specs.Terms.Bounds.{subst_bound, lift_term}
use Rattle.pure_definitions.specs.Terms.Typing.{HasType}
use Rattle.pure_definitions.specs.Terms.Conditions.{IsVariable, variable_typ}
use Rattle.pure_definitions.specs.Declarations.Certified.{IsCertified, HasCertifiedParts}
use Rattle.pure_definitions.proofs.LiftLaws.{subst-lift}
use Rattle.pure_term_laws.proofs.TypingLaws.{typed-once, typed-closed, lift-closed}
use Rattle.pure_term_laws.proofs.TypingBoundLaws.{typing-subst}
use Rattle.pure_logic.specs.Connectives.{imp, eq}
use Rattle.pure_logic.specs.Content.{Content, IsCertifiedOf}
use Rattle.pure_logic.specs.Derivable.{Theorem, IsDerivable}
use Rattle.pure_logic.specs.Proves.{Proves}
use Rattle.pure_logic.proofs.ConnectiveLaws.{certified_of}
use Rattle.pure_logic.proofs.PropositionLaws.{premise-proposition, conclusion-proposition}
use Rattle.pure_logic.proofs.ProvesLaws.{derivable_is_proves, proved_is_proposition}
use Rattle.pure_logic.proofs.InferenceLaws.{inferred_from_one}
use Rattle.pure_logic.proofs.QuantificationLaws.{abstraction_is_derivable}
use Rattle.pure_logic.proofs.EqualityLaws.{left-of, right-of, reflexive_equality, symmetric_equality, transitive_equality, equal_applications, equal_propositions, equal_is_proved, beta_equality, eta_equality}
use Rattle.pure_theorem.specs.Facts.{IsTheoryContent}
use Rattle.pure_theorem.proofs.AnswerLaws.{joined-derivable}
use Rattle.pure_theorem.proofs.VariableLaws.{variable-typed}
use Rattle.pure_equal.specs.Equivalence.{GivesReflexive, GivesSymmetric, GivesTransitive}
use Rattle.pure_equal.specs.Congruence.{GivesCombination, GivesAbstraction}
use Rattle.pure_equal.specs.Propositions.{GivesEqualIntr, GivesEqualElim}
use Rattle.pure_equal.specs.Reduction.{GivesBeta, GivesEta}

module _ (Q : Content) (q : IsTheoryContent Q) where
  -- A proposition that is proved is derivable alone.
  alone-derivable : (A : Term) (th : Theorem) → th ≡ record { hyps = []; pairs = []; prop = A; rests = [] } → Proves Q [] [] A → IsDerivable Q th
  alone-derivable A th is p = subst (IsDerivable Q) (sym is) ((derivable_is_proves Q [] [] A).1 p)

  pub reflexive-derived : (t : Term) → IsCertified Q.declarations t → (th : Theorem) → GivesReflexive t th → IsDerivable Q th
  reflexive-derived t certified th (T, typed, is) =
      alone-derivable (eq T t t) th is (reflexive_equality Q q.content q.above_pure [] [] T t (record { certified = certified; typed = typed }))

  pub symmetric-derived : (th : Theorem) → IsDerivable Q th → (new : Theorem) → GivesSymmetric th new → IsDerivable Q new
  symmetric-derived th h new (T, t, u, equation, is) =
      subst (IsDerivable Q) (sym is)
      (inferred_from_one Q q.content q.above_pure (record th { prop = eq T t u }) th.hyps (eq T u t)
      (λ further p. symmetric_equality Q q.content q.above_pure (further ++ th.hyps) th.rests T t u p) (subst (λ B. IsDerivable Q (record th { prop = B })) equation h))

  pub transitive-derived : (left right : Theorem) → IsDerivable Q left → IsDerivable Q right → (th : Theorem) → GivesTransitive left right th → IsDerivable Q th
  transitive-derived left right h k th g = joined-derivable Q q left right (eq g.typ g.first g.last) th g.joined step h k
    where
      step : (H : List Term) → Proves Q H th.rests left.prop → Proves Q H th.rests right.prop → Proves Q H th.rests (eq g.typ g.first g.last)
      step H p r =
          let first = subst (Proves Q H th.rests) g.left_is p in
          let second = subst (Proves Q H th.rests) g.right_is r in
          let own = right-of Q q.content q.above_pure H th.rests g.typ g.first g.middle first in
          let other = left-of Q q.content q.above_pure H th.rests g.other g.middle g.last second in
          let same = typed-once [] g.middle g.other g.typ other.typed own.typed in
          transitive_equality Q q.content q.above_pure H th.rests g.typ g.first g.middle g.last first (subst (λ T. Proves Q H th.rests (eq T g.middle g.last)) same second)

  pub combination-derived : (functions arguments : Theorem) → IsDerivable Q functions → IsDerivable Q arguments → (th : Theorem) → GivesCombination functions arguments th → IsDerivable Q th
  combination-derived functions arguments h k th g =
      joined-derivable Q q functions arguments (eq g.range (App g.f g.x) (App g.g g.y)) th g.joined
      (λ H p r. equal_applications Q q.content q.above_pure H th.rests g.domain g.range g.f g.g g.x g.y (subst (Proves Q H th.rests) g.functions_are p) (subst (Proves Q H th.rests) g.arguments_are r)) h k

  pub abstraction-derived : (x : Term) (th : Theorem) → IsVariable x → IsCertified Q.declarations x → IsDerivable Q th → (new : Theorem) → GivesAbstraction x th new → IsDerivable Q new
  abstraction-derived x th variable certified h new g =
      subst (IsDerivable Q) (sym g.is)
      (abstraction_is_derivable Q q.content q.above_pure x (variable_typ x) g.typ g.left g.right th variable (record { certified = certified; typed = variable-typed x variable }) g.fresh g.fresh_in_pairs
      (subst (λ B. IsDerivable Q (record th { prop = B })) g.equation h))

  pub equal_intr-derived : (forth back : Theorem) → IsDerivable Q forth → IsDerivable Q back → (th : Theorem) → GivesEqualIntr forth back th → IsDerivable Q th
  equal_intr-derived forth back h k th g = joined-derivable Q q forth back (eq prop g.left g.right) th g.joined step h k
    where
      step : (H : List Term) → Proves Q H th.rests forth.prop → Proves Q H th.rests back.prop → Proves Q H th.rests (eq prop g.left g.right)
      step H p r =
          let first = subst (Proves Q H th.rests) g.forth_is p in
          let second = subst (Proves Q H th.rests) g.back_is r in
          let whole = proved_is_proposition Q q.content q.above_pure H th.rests (imp g.left g.right) first in
          equal_propositions Q q.content q.above_pure H th.rests g.left g.right (premise-proposition Q q.above_pure g.left g.right whole) (conclusion-proposition Q q.above_pure g.left g.right whole) first second

  pub equal_elim-derived : (equation premise : Theorem) → IsDerivable Q equation → IsDerivable Q premise → (th : Theorem) → GivesEqualElim equation premise th → IsDerivable Q th
  equal_elim-derived equation premise h k th (T, B, is, joined) = joined-derivable Q q equation premise B th joined step h k
    where
      step : (H : List Term) → Proves Q H th.rests equation.prop → Proves Q H th.rests premise.prop → Proves Q H th.rests B
      step H p r =
          let first = subst (Proves Q H th.rests) is p in
          let own = left-of Q q.content q.above_pure H th.rests T premise.prop B first in
          let whole = proved_is_proposition Q q.content q.above_pure H th.rests premise.prop r in
          let same = typed-once [] premise.prop T prop own.typed whole.typed in
          equal_is_proved Q q.content q.above_pure H th.rests premise.prop B (subst (λ U. Proves Q H th.rests (eq U premise.prop B)) same first) r

  pub beta-derived : (t : Term) → IsCertified Q.declarations t → (th : Theorem) → GivesBeta t th → IsDerivable Q th
  beta-derived t certified th g =
      let redex : IsCertifiedOf Q (App (Abs g.binder g.body) g.argument) g.typ = subst (λ u. IsCertifiedOf Q u g.typ) g.redex (record { certified = certified; typed = g.typed }) in
      alone-derivable (eq g.typ t (subst_bound g.body g.argument)) th g.is
      (subst (λ u. Proves Q [] [] (eq g.typ u (subst_bound g.body g.argument))) (sym g.redex) (beta_equality Q q.content q.above_pure [] [] g.binder g.typ g.body g.argument redex))

  -- The function of an expansion that is certified is certified.
  expansion : (T V : Typ) (f : Term) → IsCertifiedOf Q (Abs T (App (lift_term 1 0 f) (Bound 0))) V → (U : Typ) × (V ≡ arrow T U) × IsCertifiedOf Q f (arrow T U) × (lift_term 1 0 f ≡ f)
  expansion T V f h =
      let U = h.typed.0 in
      let inside = h.typed.1 in
      let bound : T ≡ inside.0 = cc in
      let under : HasType (T ∷ []) (lift_term 1 0 f) (arrow T U) = subst (λ W. HasType (T ∷ []) (lift_term 1 0 f) (arrow W U)) (sym bound) inside.1 in
      let typed : HasType [] f (arrow T U) = subst (λ g. HasType [] g (arrow T U)) (subst-lift 0 (Free 0 T) f) (typing-subst [] [] 0 (Free 0 T) (lift_term 1 0 f) T (arrow T U) refl refl under) in
      let same : lift_term 1 0 f ≡ f = lift-closed 1 0 f (typed-closed f (arrow T U) typed) in
      (U, sym h.typed.2, certified_of Q f (arrow T U) (subst (HasCertifiedParts Q.declarations) same h.certified.parts.1.0) typed, same)

  pub eta-derived : (t : Term) → IsCertified Q.declarations t → (th : Theorem) → GivesEta t th → IsDerivable Q th
  eta-derived t certified th g =
      let whole : IsCertifiedOf Q (Abs g.binder (App (lift_term 1 0 g.function) (Bound 0))) g.typ = subst (λ u. IsCertifiedOf Q u g.typ) g.redex (record { certified = certified; typed = g.typed }) in
      let parts = expansion g.binder g.typ g.function whole in
      let equation : Proves Q [] [] (eq (arrow g.binder parts.0) (Abs g.binder (App g.function (Bound 0))) g.function) = eta_equality Q q.content q.above_pure [] [] g.binder parts.0 g.function parts.2 in
      let left : Abs g.binder (App g.function (Bound 0)) ≡ t = sym (g.redex ∙ ap (λ f. Abs g.binder (App f (Bound 0))) parts.3) in
      alone-derivable (eq g.typ t g.function) th g.is (subst (λ u. Proves Q [] [] (eq g.typ u g.function)) left (subst (λ V. Proves Q [] [] (eq V (Abs g.binder (App g.function (Bound 0))) g.function)) (sym parts.1) equation))
