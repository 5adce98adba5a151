-- Certified parts under lifting, instantiation and abstraction.
use Rattle.std.proofs.Common.{ℕ, ◌+◌, List, Bool, true, false}
use Rattle.std.specs.Prelude.{◌-◌, nat_eq, nat_lt, if◌then◌else◌}
use Rattle.pure_definitions.specs.Terms.Term.{Term, Const, Free, Var, Bound, Abs, App, term_eq}
use Rattle.pure_definitions.specs.Terms.Bounds.{lift_term, subst_under, bind_under}
use Rattle.pure_definitions.specs.Declarations.Decl.{Decl}
use Rattle.pure_definitions.specs.Declarations.Certified.{HasCertifiedParts}

module _ (ds : List Decl) where
  parts-either : (b : Bool) (t u : Term) → HasCertifiedParts ds t → HasCertifiedParts ds u → HasCertifiedParts ds (if b then t else u)
  parts-either true t u h k = h
  parts-either false t u h k = k

  pub parts-lift : (by from : ℕ) (t : Term) → HasCertifiedParts ds t → HasCertifiedParts ds (lift_term by from t)
  parts-lift by from (Const c T) h = h
  parts-lift by from (Free x T) h = h
  parts-lift by from (Var x i T) h = h
  parts-lift by from (Bound p) h = parts-either (nat_lt p from) (Bound p) (Bound (p + by)) tt tt
  parts-lift by from (Abs T b) h = (h.0, parts-lift by (from + 1) b h.1)
  parts-lift by from (App f a) h = (parts-lift by from f h.0, parts-lift by from a h.1)

  pub parts-subst : (n : ℕ) (arg b : Term) → HasCertifiedParts ds arg → HasCertifiedParts ds b → HasCertifiedParts ds (subst_under n arg b)
  parts-subst n arg (Const c T) k h = h
  parts-subst n arg (Free x T) k h = h
  parts-subst n arg (Var x i T) k h = h
  parts-subst n arg (Bound p) k h =
      parts-either (nat_lt p n) (Bound p) (if nat_eq p n then lift_term n 0 arg else Bound (p - 1)) tt (parts-either (nat_eq p n) (lift_term n 0 arg) (Bound (p - 1)) (parts-lift n 0 arg k) tt)
  parts-subst n arg (Abs T b) k h = (h.0, parts-subst (n + 1) arg b k h.1)
  parts-subst n arg (App f a) k h = (parts-subst n arg f k h.0, parts-subst n arg a k h.1)

  pub parts-bind : (n : ℕ) (v t : Term) → HasCertifiedParts ds t → HasCertifiedParts ds (bind_under n v t)
  parts-bind n v (Const c T) h = h
  parts-bind n v (Free x T) h = parts-either (term_eq v (Free x T)) (Bound n) (Free x T) tt h
  parts-bind n v (Var x i T) h = parts-either (term_eq v (Var x i T)) (Bound n) (Var x i T) tt h
  parts-bind n v (Bound p) h = parts-either (nat_lt p n) (Bound p) (Bound (p + 1)) tt tt
  parts-bind n v (Abs T b) h = (h.0, parts-bind (n + 1) v b h.1)
  parts-bind n v (App f a) h = (parts-bind n v f h.0, parts-bind n v a h.1)
