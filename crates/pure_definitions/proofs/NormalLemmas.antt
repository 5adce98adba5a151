-- Lifting keeps abstractions and beta-normal terms, and others not.
use Rattle.std.proofs.Common.{ℕ, ◌+◌}
use Rattle.pure_definitions.specs.Terms.Term.{Term, Const, Free, Var, Bound, Abs, App}
use Rattle.pure_definitions.specs.Terms.Bounds.{lift_term}
use Rattle.pure_definitions.specs.Reduction.Beta.{IsAbs, IsBetaNormal}
use Rattle.pure_definitions.proofs.LiftLaws.{lift_term-bound}

pub abstraction-lift : (by from : ℕ) (t : Term) → IsAbs t → IsAbs (lift_term by from t)
abstraction-lift by from (Const c T) h = absurd h
abstraction-lift by from (Free x T) h = absurd h
abstraction-lift by from (Var x i T) h = absurd h
abstraction-lift by from (Bound p) h = absurd h
abstraction-lift by from (Abs T b) h = tt
abstraction-lift by from (App f a) h = absurd h

pub abstraction-unlift : (by from : ℕ) (t : Term) → IsAbs (lift_term by from t) → IsAbs t
abstraction-unlift by from (Const c T) h = h
abstraction-unlift by from (Free x T) h = h
abstraction-unlift by from (Var x i T) h = h
abstraction-unlift by from (Bound p) h = rw (lift_term-bound by from p) at h
abstraction-unlift by from (Abs T b) h = tt
abstraction-unlift by from (App f a) h = h

pub normal-lift : (by from : ℕ) (t : Term) → IsBetaNormal t → IsBetaNormal (lift_term by from t)
normal-lift by from (Const c T) n = tt
normal-lift by from (Free x T) n = tt
normal-lift by from (Var x i T) n = tt
normal-lift by from (Bound p) n = rw (lift_term-bound by from p) tt
normal-lift by from (Abs T b) n = normal-lift by (from + 1) b n
normal-lift by from (App f a) n = ((λ is. n.0 (abstraction-unlift by from f is)), normal-lift by from f n.1, normal-lift by from a n.2)

pub normal-unlift : (by from : ℕ) (t : Term) → IsBetaNormal (lift_term by from t) → IsBetaNormal t
normal-unlift by from (Const c T) n = tt
normal-unlift by from (Free x T) n = tt
normal-unlift by from (Var x i T) n = tt
normal-unlift by from (Bound p) n = tt
normal-unlift by from (Abs T b) n = normal-unlift by (from + 1) b n
normal-unlift by from (App f a) n = ((λ is. n.0 (abstraction-lift by from f is)), normal-unlift by from f n.1, normal-unlift by from a n.2)
