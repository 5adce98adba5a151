-- Equated terms are provably equal where the equations of the pairs are proved.
-- The induction closes both terms: fixed variables of the binders' types stand for the loose bound variables, so that an abstraction's body is instantiated with a fresh one.
use Rattle.std.proofs.Common.{◌≡◌, ℕ, List, [], ◌∷◌, refl, ap, sym, ◌∙◌}
use Rattle.pure_text.specs.Lists.{Each}
use Rattle.pure_text.proofs.ListLaws.{each_at}
use Rattle.pure_definitions.specs.Names.{Label}
use Rattle.pure_definitions.specs.Types.Typ.{Typ, arrow, prop}
use Rattle.pure_definitions.specs.Terms.Term.{Term, Free, Bound, Abs, App}
use Rattle.pure_definitions.specs.Terms.Bounds.{lift_term, subst_bound}
use Rattle.pure_definitions.specs.Declarations.Certified.{IsCertifiedTyp}
use Rattle.pure_term_laws.proofs.TypingLaws.{typed-once, typed-closed, lift-closed}
use Rattle.pure_logic.specs.Connectives.{eq_typ, eq}
use Rattle.pure_logic.specs.Content.{Content, IsContent, IsBelow, IsCertifiedOf}
use Rattle.pure_logic.specs.PureContent.{pure_content}
use Rattle.pure_logic.specs.Derivable.{Pair}
use Rattle.pure_logic.specs.Proves.{Proves}
use Rattle.pure_logic.proofs.ConnectiveLaws.{certified_of}
use Rattle.pure_logic.proofs.ProvesLaws.{proved_is_proposition}
use Rattle.pure_logic.proofs.EqualityLaws.{reflexive_equality, symmetric_equality, transitive_equality, equal_applications, beta_equality, equal_abstractions, eta_equality, equal_is_proved}
use Rattle.pure_equation_laws.specs.Equated.{IsTypedUnder, AreEquated}
use Rattle.pure_equation_laws.specs.Laws.Proved.{IsPairProved}
use Rattle.pure_equation_laws.proofs.SidesLaws.{equated_are_typed, typed-abstraction}
use Rattle.pure_equation_laws.proofs.ClosingLaws.{closing, closing-abstraction, closing-application, closing-subst, closing-lift, closing-own, closing-closed, AreForBinders, typed-closing}

module _ (Q : Content) (q : IsContent Q) (above : IsBelow pure_content Q) (hyps : List Term) (rests : List Label) where
  -- The equation of the terms is proved.
  abbrev IsEqual : Typ → Term → Term → Type 0
  IsEqual T t u = Proves Q hyps rests (eq T t u)

  along : (T : Typ) (t u v w : Term) → t ≡ v → u ≡ w → IsEqual T v w → IsEqual T t u
  along T t u v w e k p = rw (e, k) p

  of_content : (t : Term) (T : Typ) → IsTypedUnder Q.declarations [] t T → IsCertifiedOf Q t T
  of_content t T h = certified_of Q t T h.parts h.typed

  -- The type at which an equation is proved is that of its left side.
  at_typ_of_left : (S T : Typ) (t u : Term) → IsEqual S t u → IsTypedUnder Q.declarations [] t T → IsEqual T t u
  at_typ_of_left S T t u p h =
      let proposition = proved_is_proposition Q q above hyps rests (eq S t u) p in
      let connective : eq_typ S ≡ arrow proposition.typed.1.0 (arrow proposition.typed.0 prop) = proposition.typed.1.1 in
      let same : proposition.typed.1.0 ≡ S = cc in
      let once : S ≡ T = typed-once [] t S T (rw same at proposition.typed.1.2) h.typed in
      rw once at p

  module _ (pairs : List Pair) (proved : Each (IsPairProved Q hyps rests) pairs) where
    equal-closing : (bs : List Typ) (T : Typ) (t u : Term) (ts : List Term) → AreForBinders Q.declarations ts bs → AreEquated Q.declarations pairs bs T t u → IsEqual T (closing 0 ts t) (closing 0 ts u)
    equal-closing bs T t u ts c (AreEquated.same h) = reflexive_equality Q q above hyps rests T (closing 0 ts t) (of_content (closing 0 ts t) T (typed-closing Q.declarations ts bs t T c h))
    equal-closing bs T t u ts c (AreEquated.back e) = symmetric_equality Q q above hyps rests T (closing 0 ts u) (closing 0 ts t) (equal-closing bs T u t ts c e)
    equal-closing bs T t u ts c (AreEquated.through {u = v} e k) =
        transitive_equality Q q above hyps rests T (closing 0 ts t) (closing 0 ts v) (closing 0 ts u) (equal-closing bs T t v ts c e) (equal-closing bs T v u ts c k)
    equal-closing bs T t u ts c (AreEquated.beta {V = V} {b = b} {a = a} h) =
        let shape : closing 0 ts (App (Abs V b) a) ≡ App (Abs V (closing 1 ts b)) (closing 0 ts a) = closing-application 0 ts (Abs V b) a ∙ ap (λ f. App f (closing 0 ts a)) (closing-abstraction 0 ts V b) in
        along T (closing 0 ts (App (Abs V b) a)) (closing 0 ts (subst_bound b a)) (App (Abs V (closing 1 ts b)) (closing 0 ts a)) (subst_bound (closing 1 ts b) (closing 0 ts a)) shape (closing-subst ts b a)
        (beta_equality Q q above hyps rests V T (closing 1 ts b) (closing 0 ts a)
        (of_content (App (Abs V (closing 1 ts b)) (closing 0 ts a)) T (rw shape at (typed-closing Q.declarations ts bs (App (Abs V b) a) T c h))))
    equal-closing bs T t u ts c (AreEquated.eta {V = V} {U = U} {f = f} v h) =
        let typed = typed-closing Q.declarations ts bs f (arrow V U) c h in
        let still : closing 1 ts (lift_term 1 0 f) ≡ closing 0 ts f = closing-lift ts f ∙ lift-closed 1 0 (closing 0 ts f) (typed-closed (closing 0 ts f) (arrow V U) typed.typed) in
        let inside : closing 1 ts (App (lift_term 1 0 f) (Bound 0)) ≡ App (closing 0 ts f) (Bound 0) = closing-application 1 ts (lift_term 1 0 f) (Bound 0) ∙ (λ l. App (still l) (closing-own ts l)) in
        along (arrow V U) (closing 0 ts (Abs V (App (lift_term 1 0 f) (Bound 0)))) (closing 0 ts f) (Abs V (App (closing 0 ts f) (Bound 0))) (closing 0 ts f)
        (closing-abstraction 0 ts V (App (lift_term 1 0 f) (Bound 0)) ∙ ap (Abs V) inside) refl
        (eta_equality Q q above hyps rests V U (closing 0 ts f) (of_content (closing 0 ts f) (arrow V U) typed))
    equal-closing bs T t u ts c (AreEquated.pair p m h k) =
        let given = each_at (IsPairProved Q hyps rests) pairs proved p m in
        along T (closing 0 ts p.left) (closing 0 ts p.right) p.left p.right (closing-closed ts p.left T h.typed) (closing-closed ts p.right T k.typed) (at_typ_of_left given.0 T p.left p.right given.1 h)
    equal-closing bs T t u ts c (AreEquated.abstraction {V = V} {U = U} {b = b} {c = d} v e) =
        let sides = equated_are_typed Q.declarations pairs (V ∷ bs) U b d e in
        along (arrow V U) (closing 0 ts (Abs V b)) (closing 0 ts (Abs V d)) (Abs V (closing 1 ts b)) (Abs V (closing 1 ts d)) (closing-abstraction 0 ts V b) (closing-abstraction 0 ts V d)
        (equal_abstractions Q q above hyps rests V U (closing 1 ts b) (closing 1 ts d) (closed bs ts c V U b v sides.0) (closed bs ts c V U d v sides.1)
        (λ n. along U (subst_bound (closing 1 ts b) (Free n V)) (subst_bound (closing 1 ts d) (Free n V)) (closing 0 ts (subst_bound b (Free n V))) (closing 0 ts (subst_bound d (Free n V)))
        (at_variable ts V n b) (at_variable ts V n d)
        (equal-closing (V ∷ bs) U b d (Free n V ∷ ts) (record { parts = v; typed = refl }, c) e)))
      where
        closed : (bs : List Typ) (ts : List Term) → AreForBinders Q.declarations ts bs → (V U : Typ) (b : Term) → IsCertifiedTyp Q.declarations V → IsTypedUnder Q.declarations (V ∷ bs) b U → IsCertifiedOf Q (Abs V (closing 1 ts b)) (arrow V U)
        closed bs ts c V U b v h =
            of_content (Abs V (closing 1 ts b)) (arrow V U) (rw (closing-abstraction 0 ts V b) at (typed-closing Q.declarations ts bs (Abs V b) (arrow V U) c (typed-abstraction Q.declarations bs V U b v h)))

        at_variable : (ts : List Term) (V : Typ) (n : ℕ) (b : Term) → subst_bound (closing 1 ts b) (Free n V) ≡ closing 0 ts (subst_bound b (Free n V))
        at_variable ts V n b = ap (subst_bound (closing 1 ts b)) (sym (closing-closed ts (Free n V) V refl)) ∙ sym (closing-subst ts b (Free n V))
    equal-closing bs T t u ts c (AreEquated.application {T = V} {f = f} {g = g} {a = a} {b = b} e k) =
        along T (closing 0 ts (App f a)) (closing 0 ts (App g b)) (App (closing 0 ts f) (closing 0 ts a)) (App (closing 0 ts g) (closing 0 ts b)) (closing-application 0 ts f a) (closing-application 0 ts g b)
        (equal_applications Q q above hyps rests V T (closing 0 ts f) (closing 0 ts g) (closing 0 ts a) (closing 0 ts b) (equal-closing bs (arrow V T) f g ts c e) (equal-closing bs V a b ts c k))

pub equated_is_proved : (Q : Content) → IsContent Q → IsBelow pure_content Q → (hyps : List Term) (rests : List Label) (pairs : List Pair) → Each (IsPairProved Q hyps rests) pairs
    → (T : Typ) (t u : Term) → AreEquated Q.declarations pairs [] T t u → Proves Q hyps rests (eq T t u)
equated_is_proved Q q above hyps rests pairs proved T t u e = equal-closing Q q above hyps rests pairs proved [] T t u [] tt e

pub equated_proposition_is_proved : (Q : Content) → IsContent Q → IsBelow pure_content Q → (hyps : List Term) (rests : List Label) (pairs : List Pair) → Each (IsPairProved Q hyps rests) pairs
    → (A B : Term) → AreEquated Q.declarations pairs [] prop A B → Proves Q hyps rests A → Proves Q hyps rests B
equated_proposition_is_proved Q q above hyps rests pairs proved A B e p = equal_is_proved Q q above hyps rests A B (equated_is_proved Q q above hyps rests pairs proved prop A B e) p
