-- Typing: a term has one type, and what is typed is closed. Lifting changes no closed term.
use Rattle.std.proofs.Common.{inl, ◌≡◌, ℕ, zero, suc, ◌+◌, ◌<◌, ◌≤◌, nat_lt, true, length, List, [], ◌∷◌, ap, refl, arith}
use Rattle.std.proofs.lemmas.Bool.{lt-ltb}
use Rattle.std.specs.Prelude.{slice_get, Some}
use Rattle.pure_definitions.specs.Types.Typ.{Typ, arrow}
use Rattle.pure_definitions.specs.Terms.Term.{Term, Const, Free, Var, Bound, Abs, App}
use Rattle.pure_definitions.specs.Terms.Typing.{HasType}
use Rattle.pure_definitions.specs.Terms.Bounds.{IsClosedUnder, IsClosed, lift_term, Occurs}

pub typed-once : (bs : List Typ) (t : Term) (T U : Typ) → HasType bs t T → HasType bs t U → T ≡ U
typed-once bs (Const c V) T U h k = cc
typed-once bs (Free x V) T U h k = cc
typed-once bs (Var x i V) T U h k = cc
typed-once bs (Bound n) T U h k = cc
typed-once bs (Abs V b) T U h k = let e = typed-once (V ∷ bs) b h.0 k.0 h.1 k.1 in cc
typed-once bs (App f a) T U h k = let e = typed-once bs f (arrow h.0 T) (arrow k.0 U) h.1 k.1 in cc

within_binders : (bs : List Typ) (n : ℕ) (T : Typ) → slice_get bs n ≡ Some T → n < length bs
within_binders [] n T h = absurd (cc)
within_binders (b ∷ bs) zero T h = omega arith
within_binders (b ∷ bs) (suc n) T h = let below = within_binders bs n T h in omega arith

typed-closed_under : (bs : List Typ) (n : ℕ) (t : Term) (T : Typ) → length bs ≡ n → HasType bs t T → IsClosedUnder n t
typed-closed_under bs n (Const c V) T e h = tt
typed-closed_under bs n (Free x V) T e h = tt
typed-closed_under bs n (Var x i V) T e h = tt
typed-closed_under bs n (Bound p) T e h = let below = within_binders bs p T h in omega arith
typed-closed_under bs n (Abs V b) T e h = typed-closed_under (V ∷ bs) (n + 1) b h.0 (omega arith) h.1
typed-closed_under bs n (App f a) T e h = (typed-closed_under bs n f (arrow h.0 T) e h.1, typed-closed_under bs n a h.0 e h.2)

pub typed-closed : (t : Term) (T : Typ) → HasType [] t T → IsClosed t
typed-closed t T h = typed-closed_under [] 0 t T refl h

pub lift-closed_under : (by from n : ℕ) (t : Term) → n ≤ from → IsClosedUnder n t → lift_term by from t ≡ t
lift-closed_under by from n (Const c V) le h = refl
lift-closed_under by from n (Free x V) le h = refl
lift-closed_under by from n (Var x i V) le h = refl
lift-closed_under by from n (Bound p) le h = let below : nat_lt p from ≡ true = lt-ltb p from (omega arith) in rw below
lift-closed_under by from n (Abs V b) le h = ap (Abs V) (lift-closed_under by (from + 1) (n + 1) b (omega arith) h)
lift-closed_under by from n (App f a) le h = λ l. App (lift-closed_under by from n f le h.0 l) (lift-closed_under by from n a le h.1 l)

pub lift-closed : (by from : ℕ) (t : Term) → IsClosed t → lift_term by from t ≡ t
lift-closed by from t h = lift-closed_under by from 0 t (omega arith) h

pub occurs-itself : (t : Term) → Occurs t t
occurs-itself (Const c T) = refl
occurs-itself (Free x T) = refl
occurs-itself (Var x i T) = refl
occurs-itself (Bound n) = refl
occurs-itself (Abs T b) = inl refl
occurs-itself (App f a) = inl refl
