-- The size and the depth of terms.
use Rattle.std.proofs.Common.{◌≡◌, ℕ, ◌+◌, ◌<◌, ◌≤◌, max, refl, ap, sym, arith}
use Rattle.pure_definitions.specs.Types.Typ.{Typ, TFree, TVar, Con, Typs, none, also, typ_size, typs_size, typ_depth, typs_depth}
use Rattle.pure_definitions.specs.Terms.Term.{Term, Const, Free, Var, Bound, Abs, App, term_size, term_depth, IsWithin}
use Rattle.pure_definitions.specs.Terms.Bounds.{lift_term}
use Rattle.pure_definitions.proofs.LiftLaws.{lift_term-bound}

-- A term has a node.
pub term_size-some : (t : Term) → 0 < term_size t
term_size-some (Const c T) = omega arith
term_size-some (Free x T) = omega arith
term_size-some (Var x i T) = omega arith
term_size-some (Bound n) = omega arith
term_size-some (Abs T b) = omega arith
term_size-some (App f a) = omega arith

pub term_depth-some : (t : Term) → 0 < term_depth t
term_depth-some (Const c T) = omega arith
term_depth-some (Free x T) = omega arith
term_depth-some (Var x i T) = omega arith
term_depth-some (Bound n) = omega arith
term_depth-some (Abs T b) = omega arith
term_depth-some (App f a) = omega arith

-- No type, and no term, is deeper than it has nodes.
mutual
  typ_depth-le-size : (T : Typ) → typ_depth T ≤ typ_size T
  typ_depth-le-size (TFree x s) = omega arith
  typ_depth-le-size (TVar x i s) = omega arith
  typ_depth-le-size (Con k ts) = omega (arith, typs_depth-le-size ts)

  typs_depth-le-size : (ts : Typs) → typs_depth ts ≤ typs_size ts
  typs_depth-le-size none = omega arith
  typs_depth-le-size (also t ts) = omega (arith, typ_depth-le-size t, typs_depth-le-size ts)

pub term_depth-le-size : (t : Term) → term_depth t ≤ term_size t
term_depth-le-size (Const c T) = omega (arith, typ_depth-le-size T)
term_depth-le-size (Free x T) = omega (arith, typ_depth-le-size T)
term_depth-le-size (Var x i T) = omega (arith, typ_depth-le-size T)
term_depth-le-size (Bound n) = omega arith
term_depth-le-size (Abs T b) = omega (arith, typ_depth-le-size T, term_depth-le-size b)
term_depth-le-size (App f a) = omega (arith, term_depth-le-size f, term_depth-le-size a)

-- A lifted term has the term's size and depth.
pub term_size-lift : (by from : ℕ) (t : Term) → term_size (lift_term by from t) ≡ term_size t
term_size-lift by from (Const c T) = refl
term_size-lift by from (Free x T) = refl
term_size-lift by from (Var x i T) = refl
term_size-lift by from (Bound p) = ap term_size (lift_term-bound by from p)
term_size-lift by from (Abs T b) = ap (λ n. 1 + (typ_size T + n)) (term_size-lift by (from + 1) b)
term_size-lift by from (App f a) = λ l. 1 + (term_size-lift by from f l + term_size-lift by from a l)

pub term_depth-lift : (by from : ℕ) (t : Term) → term_depth (lift_term by from t) ≡ term_depth t
term_depth-lift by from (Const c T) = refl
term_depth-lift by from (Free x T) = refl
term_depth-lift by from (Var x i T) = refl
term_depth-lift by from (Bound p) = ap term_depth (lift_term-bound by from p)
term_depth-lift by from (Abs T b) = ap (λ n. 1 + max (typ_depth T) n) (term_depth-lift by (from + 1) b)
term_depth-lift by from (App f a) = λ l. 1 + max (term_depth-lift by from f l) (term_depth-lift by from a l)

-- A term is within the limits where the other is, of the same size and depth.
pub within-same : (t u : Term) → term_size u ≡ term_size t → term_depth u ≡ term_depth t → IsWithin t → IsWithin u
within-same t u s d w = let a = w.size in let b = w.depth in record { size = omega arith; depth = omega arith }

pub within-lift : (by from : ℕ) (t : Term) → IsWithin t → IsWithin (lift_term by from t)
within-lift by from t = within-same t (lift_term by from t) (term_size-lift by from t) (term_depth-lift by from t)

pub within-of_lift : (by from : ℕ) (t : Term) → IsWithin (lift_term by from t) → IsWithin t
within-of_lift by from t = within-same (lift_term by from t) t (sym (term_size-lift by from t)) (sym (term_depth-lift by from t))
