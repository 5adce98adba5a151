-- Closing terms: terms without loose bound variables are put for the loose bound variables of a term.
use Rattle.std.proofs.Common.{◌≡◌, ℕ, ◌+◌, List, [], ◌∷◌, refl, ap, ◌∙◌, arith}
use Rattle.pure_text.specs.Lists.{EachTwo}
use Rattle.pure_definitions.specs.Types.Typ.{Typ}
use Rattle.pure_definitions.specs.Terms.Term.{Term, Bound, Abs, App}
use Rattle.pure_definitions.specs.Terms.Typing.{HasType}
use Rattle.pure_definitions.specs.Terms.Bounds.{lift_term, subst_under, subst_bound}
use Rattle.pure_definitions.specs.Declarations.Decl.{Decl}
use Rattle.pure_term_laws.proofs.CertifiedLaws.{parts-subst}
use Rattle.pure_term_laws.proofs.MapLaws.{subst-past-lift, subst-past-subst}
use Rattle.pure_term_laws.proofs.TypingBoundLaws.{typing-subst, typing-weaken}
use Rattle.pure_logic.proofs.EqualityLaws.{still}
use Rattle.pure_equation_laws.specs.Equated.{IsTypedUnder}

-- Under n binders of the term: the terms in place of its further loose bound variables, the innermost first.
abbrev pub closing : (n : ℕ) → List Term → Term → Term
closing n [] t = t
closing n (a ∷ ts) t = closing n ts (subst_under n a t)

pub closing-abstraction : (n : ℕ) (ts : List Term) (V : Typ) (b : Term) → closing n ts (Abs V b) ≡ Abs V (closing (n + 1) ts b)
closing-abstraction n [] V b = refl
closing-abstraction n (a ∷ ts) V b = closing-abstraction n ts V (subst_under (n + 1) a b)

pub closing-application : (n : ℕ) (ts : List Term) (f a : Term) → closing n ts (App f a) ≡ App (closing n ts f) (closing n ts a)
closing-application n [] f a = refl
closing-application n (c ∷ ts) f a = closing-application n ts (subst_under n c f) (subst_under n c a)

-- Closing past an instantiation, and past a lifting over one binder.
pub closing-subst : (ts : List Term) (b a : Term) → closing 0 ts (subst_bound b a) ≡ subst_bound (closing 1 ts b) (closing 0 ts a)
closing-subst [] b a = refl
closing-subst (c ∷ ts) b a = ap (closing 0 ts) (subst-past-subst 0 0 a c b) ∙ closing-subst ts (subst_under 1 c b) (subst_under 0 c a)

pub closing-lift : (ts : List Term) (t : Term) → closing 1 ts (lift_term 1 0 t) ≡ lift_term 1 0 (closing 0 ts t)
closing-lift [] t = refl
closing-lift (c ∷ ts) t = ap (closing 1 ts) (subst-past-lift 0 1 0 c t (omega arith)) ∙ closing-lift ts (subst_under 0 c t)

pub closing-own : (ts : List Term) → closing 1 ts (Bound 0) ≡ Bound 0
closing-own [] = refl
closing-own (c ∷ ts) = closing-own ts

-- A term without loose bound variables stays.
pub closing-closed : (ts : List Term) (t : Term) (T : Typ) → HasType [] t T → closing 0 ts t ≡ t
closing-closed [] t T h = refl
closing-closed (c ∷ ts) t T h = ap (closing 0 ts) (still 0 c t T h) ∙ closing-closed ts t T h

-- The terms may be put for bound variables of these types.
abbrev pub AreForBinders : (ds : List Decl) → List Term → List Typ → Type 0
AreForBinders ds ts bs = EachTwo (IsTypedUnder ds []) ts bs

pub typed-closing : (ds : List Decl) (ts : List Term) (bs : List Typ) (t : Term) (T : Typ) → AreForBinders ds ts bs → IsTypedUnder ds bs t T → IsTypedUnder ds [] (closing 0 ts t) T
typed-closing ds [] [] t T h k = k
typed-closing ds (a ∷ ts) (V ∷ bs) t T h k =
    typed-closing ds ts bs (subst_under 0 a t) T h.1
    (record { parts = parts-subst ds 0 a t h.0.parts k.parts; typed = typing-subst [] bs 0 a t V T refl (typing-weaken [] bs a V h.0.typed) k.typed })
typed-closing ds [] (V ∷ bs) t T h k = absurd h
typed-closing ds (a ∷ ts) [] t T h k = absurd h
