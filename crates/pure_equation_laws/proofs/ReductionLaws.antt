-- Terms are equated with what they reduce to.
use Rattle.std.proofs.Common.{◌≡◌, inl, inr, List, [], ◌∷◌}
use Rattle.std.specs.Prelude.{Some}
use Rattle.pure_text.specs.Lists.{Each}
use Rattle.pure_definitions.specs.Types.Typ.{Typ, arrow}
use Rattle.pure_definitions.specs.Terms.Term.{Term, Free, Bound, Abs, App}
use Rattle.pure_definitions.specs.Terms.Typing.{HasType}
use Rattle.pure_definitions.specs.Terms.Bounds.{lift_term, subst_bound}
use Rattle.pure_definitions.specs.Declarations.Decl.{Decl}
use Rattle.pure_definitions.specs.Declarations.Certified.{IsCertifiedTyp, HasCertifiedParts}
use Rattle.pure_definitions.specs.Reduction.Beta.{beta_step, IsBetaSequence, IsBetaAnswer, NormalForm}
use Rattle.pure_definitions.specs.Reduction.Eta.{EtaStep, EtaReduces, IsEtaNormalForm, IsLongForm}
use Rattle.pure_definitions.proofs.LiftLaws.{subst-lift}
use Rattle.pure_term_laws.proofs.BetaLaws.{app_step-some, map-some}
use Rattle.pure_term_laws.proofs.CertifiedLaws.{parts-lift, parts-subst}
use Rattle.pure_term_laws.proofs.TypingLaws.{typed-once}
use Rattle.pure_term_laws.proofs.TypingBoundLaws.{typing-unlift}
use Rattle.pure_logic.specs.Content.{Content, IsBelow}
use Rattle.pure_logic.specs.PureContent.{pure_content}
use Rattle.pure_logic.specs.Derivable.{Pair}
use Rattle.pure_logic.proofs.PartsLaws.{typ-certified}
use Rattle.pure_equation_laws.specs.Equated.{IsTypedUnder, AreEquated}
use Rattle.pure_equation_laws.proofs.SidesLaws.{equated_are_typed, typed-function, typed-argument, typed-body}

-- The contractum of an eta redex is a function from the binder's type.
typing-contracted : (bs : List Typ) (V : Typ) (f g : Term) (T : Typ) → g ≡ lift_term 1 0 f → HasType bs (Abs V (App g (Bound 0))) T → (U : Typ) × HasType bs f (arrow V U) × (arrow V U ≡ T)
typing-contracted bs V f g T e (U, (W, typed, variable), is) =
    let domain : V ≡ W = cc in
    (U, typing-unlift bs V f (arrow V U) (rw (e, ← domain) at typed), is)

module _ (ds : List Decl) (pairs : List Pair) where
  -- Equated at a type, written in another way.
  at_typ : (bs : List Typ) (T U : Typ) (t u : Term) → T ≡ U → AreEquated ds pairs bs T t u → AreEquated ds pairs bs U t u
  at_typ bs T U t u e k = rw e at k

  with_right : (bs : List Typ) (T : Typ) (t u v : Term) → u ≡ v → AreEquated ds pairs bs T t u → AreEquated ds pairs bs T t v
  with_right bs T t u v e k = rw e at k

  equated-function : (bs : List Typ) (U : Typ) (f g a : Term) (h : IsTypedUnder ds bs (App f a) U) → AreEquated ds pairs bs (arrow h.typed.0 U) f g → AreEquated ds pairs bs U (App f a) (App g a)
  equated-function bs U f g a h e = AreEquated.application e (AreEquated.same (typed-argument ds bs U f a h))

  equated-argument : (bs : List Typ) (U : Typ) (f a b : Term) (h : IsTypedUnder ds bs (App f a) U) → AreEquated ds pairs bs h.typed.0 a b → AreEquated ds pairs bs U (App f a) (App f b)
  equated-argument bs U f a b h e = AreEquated.application (AreEquated.same (typed-function ds bs U f a h)) e

  pub equated-body : (bs : List Typ) (V T : Typ) (b c : Term) (h : IsTypedUnder ds bs (Abs V b) T) → AreEquated ds pairs (V ∷ bs) h.typed.0 b c → AreEquated ds pairs bs T (Abs V b) (Abs V c)
  equated-body bs V T b c h e = at_typ bs (arrow V h.typed.0) T (Abs V b) (Abs V c) h.typed.2 (AreEquated.abstraction h.parts.0 e)

  pub beta_step_is_equated : (bs : List Typ) (T : Typ) (t u : Term) → IsTypedUnder ds bs t T → beta_step t ≡ Some u → AreEquated ds pairs bs T t u
  beta_step_is_equated bs T (App (Abs V b) a) u h e = with_right bs T (App (Abs V b) a) (subst_bound b a) u (cc) (AreEquated.beta h)
  beta_step_is_equated bs T (App f a) u h e = elim (app_step-some f a u (beta_step f) (beta_step a) e) [
    | inl k ↦ with_right bs T (App f a) (App k.0 a) u k.2 (equated-function bs T f k.0 a h (beta_step_is_equated bs (arrow h.typed.0 T) f k.0 (typed-function ds bs T f a h) k.1))
    | inr k ↦ with_right bs T (App f a) (App f k.0) u k.2 (equated-argument bs T f a k.0 h (beta_step_is_equated bs h.typed.0 a k.0 (typed-argument ds bs T f a h) k.1))
  ]
  beta_step_is_equated bs T (Abs V b) u h e =
      let k = map-some V u (beta_step b) e in
      with_right bs T (Abs V b) (Abs V k.0) u k.2 (equated-body bs V T b k.0 h (beta_step_is_equated (V ∷ bs) h.typed.0 b k.0 (typed-body ds bs T V b h) k.1))
  beta_step_is_equated bs T _ u h e = absurd (cc)

  pub beta_sequence_is_equated : (us : List Term) (bs : List Typ) (T : Typ) (t u : Term) → IsTypedUnder ds bs t T → IsBetaSequence t us u → AreEquated ds pairs bs T t u
  beta_sequence_is_equated [] bs T t u h s = with_right bs T t t u s (AreEquated.same h)
  beta_sequence_is_equated (v ∷ vs) bs T t u h s =
      let first = beta_step_is_equated bs T t s.1.0 h s.1.1 in
      AreEquated.through first (beta_sequence_is_equated vs bs T s.1.0 u (equated_are_typed ds pairs bs T t s.1.0 first).1 s.1.2)

  pub beta_normal_form_is_equated : (bs : List Typ) (T : Typ) (t u : Term) → IsTypedUnder ds bs t T → IsBetaAnswer t (NormalForm u) → AreEquated ds pairs bs T t u
  beta_normal_form_is_equated bs T t u h answer = with_right bs T t answer.last u answer.decided.2 (beta_sequence_is_equated answer.before bs T t answer.last h answer.sequence)

  eta-of : (bs : List Typ) (V U : Typ) (f g : Term) → g ≡ lift_term 1 0 f → IsCertifiedTyp ds V → IsTypedUnder ds bs f (arrow V U) → AreEquated ds pairs bs (arrow V U) (Abs V (App g (Bound 0))) f
  eta-of bs V U f g e v h = rw e (AreEquated.eta v h)

  equated-contracted : (bs : List Typ) (V : Typ) (f g : Term) (T : Typ) → g ≡ lift_term 1 0 f → IsTypedUnder ds bs (Abs V (App g (Bound 0))) T → AreEquated ds pairs bs T (Abs V (App g (Bound 0))) f
  equated-contracted bs V f g T e h =
      let k = typing-contracted bs V f g T e h.typed in
      let parts : HasCertifiedParts ds f = rw (subst-lift 0 (Free 0 V) f) at (parts-subst ds 0 (Free 0 V) (lift_term 1 0 f) h.parts.0 (rw e at h.parts.1.0)) in
      at_typ bs (arrow V k.0) T (Abs V (App g (Bound 0))) f k.2 (eta-of bs V k.0 f g e h.parts.0 (record { parts = parts; typed = k.1 }))

  pub eta_step_is_equated : (bs : List Typ) (T : Typ) (t u : Term) → IsTypedUnder ds bs t T → EtaStep t u → AreEquated ds pairs bs T t u
  eta_step_is_equated bs T t u h (EtaStep.contract {T = V} {f = f} {g = g} e) = equated-contracted bs V f g T e h
  eta_step_is_equated bs T t u h (EtaStep.body {T = V} {b = b} {c = c} s) = equated-body bs V T b c h (eta_step_is_equated (V ∷ bs) h.typed.0 b c (typed-body ds bs T V b h) s)
  eta_step_is_equated bs T t u h (EtaStep.function {f = f} {g = g} {a = a} s) = equated-function bs T f g a h (eta_step_is_equated bs (arrow h.typed.0 T) f g (typed-function ds bs T f a h) s)
  eta_step_is_equated bs T t u h (EtaStep.argument {f = f} {a = a} {b = b} s) = equated-argument bs T f a b h (eta_step_is_equated bs h.typed.0 a b (typed-argument ds bs T f a h) s)

  pub eta_reduct_is_equated : (bs : List Typ) (T : Typ) (t u : Term) → IsTypedUnder ds bs t T → EtaReduces t u → AreEquated ds pairs bs T t u
  eta_reduct_is_equated bs T t u h EtaReduces.done = AreEquated.same h
  eta_reduct_is_equated bs T t u h (EtaReduces.next {u = v} s r) =
      let first = eta_step_is_equated bs T t v h s in
      AreEquated.through first (eta_reduct_is_equated bs T v u (equated_are_typed ds pairs bs T t v first).1 r)

  pub eta_normal_form_is_equated : (bs : List Typ) (T : Typ) (t u : Term) → IsTypedUnder ds bs t T → IsEtaNormalForm t u → AreEquated ds pairs bs T t u
  eta_normal_form_is_equated bs T t u h form = eta_reduct_is_equated bs T t u h form.reduces

step-typed : (bs : List Typ) (T : Typ) (t u : Term) → HasType bs t T → EtaStep t u → HasType bs u T
step-typed bs T t u h (EtaStep.contract {T = V} {f = f} {g = g} e) = let k = typing-contracted bs V f g T e h in rw k.2 at k.1
step-typed bs T t u h (EtaStep.body {T = V} {b = b} {c = c} s) = (h.0, step-typed (V ∷ bs) h.0 b c h.1 s, h.2)
step-typed bs T t u h (EtaStep.function {f = f} {g = g} {a = a} s) = (h.0, step-typed bs (arrow h.0 T) f g h.1 s, h.2)
step-typed bs T t u h (EtaStep.argument {f = f} {a = a} {b = b} s) = (h.0, h.1, step-typed bs h.0 a b h.2 s)

-- Read backwards: a typed eta redex has certified parts where its contractum has, under binders of certified types.
module _ (Q : Content) (above : IsBelow pure_content Q) where
  parts-expanded : (bs : List Typ) (T : Typ) (t u : Term) → Each (IsCertifiedTyp Q.declarations) bs → HasType bs t T → EtaStep t u → HasCertifiedParts Q.declarations u → HasCertifiedParts Q.declarations t
  parts-expanded bs T t u binders h (EtaStep.contract {T = V} {f = f} {g = g} e) p =
      let k = typing-contracted bs V f g T e h in
      let domain : IsCertifiedTyp Q.declarations V = (typ-certified Q above bs f (arrow V k.0) binders p k.1).1.0 in
      (domain, (rw e (parts-lift Q.declarations 1 0 f p), tt))
  parts-expanded bs T t u binders h (EtaStep.body {T = V} {b = b} {c = c} s) p = (p.0, parts-expanded (V ∷ bs) h.0 b c (p.0, binders) h.1 s p.1)
  parts-expanded bs T t u binders h (EtaStep.function {f = f} {g = g} {a = a} s) p = (parts-expanded bs (arrow h.0 T) f g binders h.1 s p.0, p.1)
  parts-expanded bs T t u binders h (EtaStep.argument {f = f} {a = a} {b = b} s) p = (p.0, parts-expanded bs h.0 a b binders h.2 s p.1)

  parts-before : (bs : List Typ) (T : Typ) (t u : Term) → Each (IsCertifiedTyp Q.declarations) bs → HasType bs t T → EtaReduces t u → HasCertifiedParts Q.declarations u → HasCertifiedParts Q.declarations t
  parts-before bs T t u binders h EtaReduces.done p = p
  parts-before bs T t u binders h (EtaReduces.next {u = v} s r) p = parts-expanded bs T t v binders h s (parts-before bs T v u binders (step-typed bs T t v h s) r p)

  pub eta_expansion_is_equated : (pairs : List Pair) (bs : List Typ) (T : Typ) (t u : Term) → Each (IsCertifiedTyp Q.declarations) bs
      → HasCertifiedParts Q.declarations t → HasType bs u T → EtaReduces u t → AreEquated Q.declarations pairs bs T t u
  eta_expansion_is_equated pairs bs T t u binders p h r =
      AreEquated.back (eta_reduct_is_equated Q.declarations pairs bs T u t (record { parts = parts-before bs T u t binders h r p; typed = h }) r)

  pub long_form_is_equated : (pairs : List Pair) (T : Typ) (t u : Term) → IsTypedUnder Q.declarations [] t T → IsLongForm t u → AreEquated Q.declarations pairs [] T t u
  long_form_is_equated pairs T t u h form =
      let once : form.typ ≡ T = typed-once [] t form.typ T form.typed h.typed in
      eta_expansion_is_equated pairs [] T t u tt h.parts (rw once at form.long_typed) form.reduces

pub beta_sequences_are_equated : (us : List Term) (ds : List Decl) (pairs : List Pair) (bs : List Typ) (T : Typ) (t u : Term) → IsTypedUnder ds bs t T → IsBetaSequence t us u → AreEquated ds pairs bs T t u
beta_sequences_are_equated us ds pairs bs T t u h s = beta_sequence_is_equated ds pairs us bs T t u h s
