-- Equated terms are typed and certified.
use Rattle.std.proofs.Common.{◌≡◌, List, [], ◌∷◌, refl}
use Rattle.pure_definitions.specs.Types.Typ.{Typ, arrow}
use Rattle.pure_definitions.specs.Terms.Term.{Term, Bound, Abs, App}
use Rattle.pure_definitions.specs.Terms.Bounds.{lift_term, subst_bound}
use Rattle.pure_definitions.specs.Declarations.Decl.{Decl}
use Rattle.pure_definitions.specs.Declarations.Certified.{IsCertifiedTyp}
use Rattle.pure_term_laws.proofs.CertifiedLaws.{parts-lift, parts-subst}
use Rattle.pure_term_laws.proofs.TypingBoundLaws.{typing-lift, typing-subst, typing-weaken}
use Rattle.pure_logic.specs.Derivable.{Pair}
use Rattle.pure_equation_laws.specs.Equated.{IsTypedUnder, AreEquated}

module _ (ds : List Decl) where
  -- A term is typed under more binders: of a type in front, lifted over it, and of types behind.
  pub typed-lift : (V : Typ) (bs : List Typ) (t : Term) (T : Typ) → IsTypedUnder ds bs t T → IsTypedUnder ds (V ∷ bs) (lift_term 1 0 t) T
  typed-lift V bs t T h = record { parts = parts-lift ds 1 0 t h.parts; typed = typing-lift [] (V ∷ []) bs 0 1 t T refl refl h.typed }

  pub typed-closed_anywhere : (bs : List Typ) (t : Term) (T : Typ) → IsTypedUnder ds [] t T → IsTypedUnder ds bs t T
  typed-closed_anywhere bs t T h = record { parts = h.parts; typed = typing-weaken [] bs t T h.typed }

  pub typed-abstraction : (bs : List Typ) (V U : Typ) (b : Term) → IsCertifiedTyp ds V → IsTypedUnder ds (V ∷ bs) b U → IsTypedUnder ds bs (Abs V b) (arrow V U)
  typed-abstraction bs V U b c h = record { parts = (c, h.parts); typed = (U, h.typed, refl) }

  pub typed-application : (bs : List Typ) (T U : Typ) (f a : Term) → IsTypedUnder ds bs f (arrow T U) → IsTypedUnder ds bs a T → IsTypedUnder ds bs (App f a) U
  typed-application bs T U f a h k = record { parts = (h.parts, k.parts); typed = (T, h.typed, k.typed) }

  pub typed-function : (bs : List Typ) (U : Typ) (f a : Term) (h : IsTypedUnder ds bs (App f a) U) → IsTypedUnder ds bs f (arrow h.typed.0 U)
  typed-function bs U f a h = record { parts = h.parts.0; typed = h.typed.1 }

  pub typed-argument : (bs : List Typ) (U : Typ) (f a : Term) (h : IsTypedUnder ds bs (App f a) U) → IsTypedUnder ds bs a h.typed.0
  typed-argument bs U f a h = record { parts = h.parts.1; typed = h.typed.2 }

  pub typed-body : (bs : List Typ) (T V : Typ) (b : Term) (h : IsTypedUnder ds bs (Abs V b) T) → IsTypedUnder ds (V ∷ bs) b h.typed.0
  typed-body bs T V b h = record { parts = h.parts.1; typed = h.typed.1 }

  -- A contractum has the redex's type.
  pub typed-contractum : (bs : List Typ) (V U : Typ) (b a : Term) → IsTypedUnder ds bs (App (Abs V b) a) U → IsTypedUnder ds bs (subst_bound b a) U
  typed-contractum bs V U b a h =
      let function : arrow V h.typed.1.0 ≡ arrow h.typed.0 U = h.typed.1.2 in
      let domain : h.typed.0 ≡ V = cc in
      let range : h.typed.1.0 ≡ U = cc in
      record {
        parts = parts-subst ds 0 a b h.parts.1 h.parts.0.1;
        typed = typing-subst [] bs 0 a b V U refl (rw domain at h.typed.2) (rw range at h.typed.1.1);
      }

  -- An eta redex has its contractum's type.
  pub typed-eta_redex : (bs : List Typ) (V U : Typ) (f : Term) → IsCertifiedTyp ds V → IsTypedUnder ds bs f (arrow V U) → IsTypedUnder ds bs (Abs V (App (lift_term 1 0 f) (Bound 0))) (arrow V U)
  typed-eta_redex bs V U f c h =
      typed-abstraction bs V U (App (lift_term 1 0 f) (Bound 0)) c
      (typed-application (V ∷ bs) V U (lift_term 1 0 f) (Bound 0) (typed-lift V bs f (arrow V U) h) (record { parts = tt; typed = refl }))

pub equated_are_typed : (ds : List Decl) (pairs : List Pair) (bs : List Typ) (T : Typ) (t u : Term) → AreEquated ds pairs bs T t u → IsTypedUnder ds bs t T × IsTypedUnder ds bs u T
equated_are_typed ds pairs bs T t u (AreEquated.same h) = (h, h)
equated_are_typed ds pairs bs T t u (AreEquated.back e) = let sides = equated_are_typed ds pairs bs T u t e in (sides.1, sides.0)
equated_are_typed ds pairs bs T t u (AreEquated.through {u = v} e k) = ((equated_are_typed ds pairs bs T t v e).0, (equated_are_typed ds pairs bs T v u k).1)
equated_are_typed ds pairs bs T t u (AreEquated.beta {V = V} {b = b} {a = a} h) = (h, typed-contractum ds bs V T b a h)
equated_are_typed ds pairs bs T t u (AreEquated.eta {V = V} {U = U} {f = f} c h) = (typed-eta_redex ds bs V U f c h, h)
equated_are_typed ds pairs bs T t u (AreEquated.pair p m h k) = (typed-closed_anywhere ds bs p.left T h, typed-closed_anywhere ds bs p.right T k)
equated_are_typed ds pairs bs T t u (AreEquated.abstraction {V = V} {U = U} {b = b} {c = c} v e) =
    let sides = equated_are_typed ds pairs (V ∷ bs) U b c e in
    (typed-abstraction ds bs V U b v sides.0, typed-abstraction ds bs V U c v sides.1)
equated_are_typed ds pairs bs T t u (AreEquated.application {T = V} {f = f} {g = g} {a = a} {b = b} e k) =
    let functions = equated_are_typed ds pairs bs (arrow V T) f g e in
    let arguments = equated_are_typed ds pairs bs V a b k in
    (typed-application ds bs V T f a functions.0 arguments.0, typed-application ds bs V T g b functions.1 arguments.1)
