-- A term with a variable bound, by its size and its depth.
use Rattle.std.proofs.Common.{◌≡◌, ◌≢◌, ℕ, ◌+◌, max, Bool, true, false, refl, ap, sym, ◌∙◌}
use Rattle.std.specs.Prelude.{nat_lt, if◌then◌else◌}
use Rattle.pure_definitions.specs.Types.Typ.{typ_size, typ_depth}
use Rattle.pure_definitions.specs.Terms.Term.{Term, Const, Free, Var, Bound, Abs, App, term_size, term_depth, term_eq}
use Rattle.pure_definitions.specs.Terms.Bounds.{bind_under, abstract_over}
use Rattle.pure_definitions.specs.Terms.Conditions.{IsVariable, variable_typ}
use Rattle.pure_definitions.specs.Models.Equality.{term_eq-same, term_eq-itself}

-- A test of equality fails where the terms differ.
pub term_eq-other : (t u : Term) → (t ≢ u) → term_eq t u ≡ false
term_eq-other t u other = by (term_eq t u) refl
  where
    by : (b : Bool) → term_eq t u ≡ b → b ≡ false
    by true e = absurd (other (term_eq-same t u e))
    by false e = refl

-- A bound variable has one node wherever it is raised to.
size-raised : (b : Bool) (p q : ℕ) → term_size (if b then Bound p else Bound q) ≡ 1
size-raised true p q = refl
size-raised false p q = refl

depth-raised : (b : Bool) (p q : ℕ) → term_depth (if b then Bound p else Bound q) ≡ 1
depth-raised true p q = refl
depth-raised false p q = refl

size-chosen : (b : Bool) (n m : ℕ) (t : Term) → term_size (if b then Bound n else t) ≡ term_size (if b then Bound m else t)
size-chosen true n m t = refl
size-chosen false n m t = refl

depth-chosen : (b : Bool) (n m : ℕ) (t : Term) → term_depth (if b then Bound n else t) ≡ term_depth (if b then Bound m else t)
depth-chosen true n m t = refl
depth-chosen false n m t = refl

pub term_size-bind_bound : (n : ℕ) (v : Term) (p : ℕ) → term_size (bind_under n v (Bound p)) ≡ 1
term_size-bind_bound n v p = size-raised (nat_lt p n) p (p + 1)

pub term_depth-bind_bound : (n : ℕ) (v : Term) (p : ℕ) → term_depth (bind_under n v (Bound p)) ≡ 1
term_depth-bind_bound n v p = depth-raised (nat_lt p n) p (p + 1)

-- Size and depth don't depend on the place to which the variable is bound.
pub term_size-bind : (n m : ℕ) (v t : Term) → term_size (bind_under n v t) ≡ term_size (bind_under m v t)
term_size-bind n m v (Const c T) = refl
term_size-bind n m v (Free x T) = size-chosen (term_eq v (Free x T)) n m (Free x T)
term_size-bind n m v (Var x i T) = size-chosen (term_eq v (Var x i T)) n m (Var x i T)
term_size-bind n m v (Bound p) = term_size-bind_bound n v p ∙ sym (term_size-bind_bound m v p)
term_size-bind n m v (Abs T b) = ap (λ k. 1 + (typ_size T + k)) (term_size-bind (n + 1) (m + 1) v b)
term_size-bind n m v (App f a) = λ l. 1 + (term_size-bind n m v f l + term_size-bind n m v a l)

pub term_depth-bind : (n m : ℕ) (v t : Term) → term_depth (bind_under n v t) ≡ term_depth (bind_under m v t)
term_depth-bind n m v (Const c T) = refl
term_depth-bind n m v (Free x T) = depth-chosen (term_eq v (Free x T)) n m (Free x T)
term_depth-bind n m v (Var x i T) = depth-chosen (term_eq v (Var x i T)) n m (Var x i T)
term_depth-bind n m v (Bound p) = term_depth-bind_bound n v p ∙ sym (term_depth-bind_bound m v p)
term_depth-bind n m v (Abs T b) = ap (λ k. 1 + max (typ_depth T) k) (term_depth-bind (n + 1) (m + 1) v b)
term_depth-bind n m v (App f a) = λ l. 1 + max (term_depth-bind n m v f l) (term_depth-bind n m v a l)

-- the variable itself, bound, and another, which stays
pub bind_under-same : (n : ℕ) (v t : Term) → IsVariable t → v ≡ t → bind_under n v t ≡ Bound n
bind_under-same n v (Free x T) is e = rw (e, term_eq-itself (Free x T)) refl
bind_under-same n v (Var x i T) is e = rw (e, term_eq-itself (Var x i T)) refl
bind_under-same n v (Const c T) is e = absurd is
bind_under-same n v (Bound p) is e = absurd is
bind_under-same n v (Abs T b) is e = absurd is
bind_under-same n v (App f a) is e = absurd is

pub bind_under-other : (n : ℕ) (v t : Term) → IsVariable t → (v ≢ t) → bind_under n v t ≡ t
bind_under-other n v (Free x T) is e = rw (term_eq-other v (Free x T) e) refl
bind_under-other n v (Var x i T) is e = rw (term_eq-other v (Var x i T) e) refl
bind_under-other n v (Const c T) is e = absurd is
bind_under-other n v (Bound p) is e = absurd is
bind_under-other n v (Abs T b) is e = absurd is
bind_under-other n v (App f a) is e = absurd is

pub abstract_over-variable : (t v : Term) → IsVariable v → abstract_over t v ≡ Abs (variable_typ v) (bind_under 0 v t)
abstract_over-variable t (Free x T) is = refl
abstract_over-variable t (Var x i T) is = refl
abstract_over-variable t (Const c T) is = absurd is
abstract_over-variable t (Bound p) is = absurd is
abstract_over-variable t (Abs T b) is = absurd is
abstract_over-variable t (App f a) is = absurd is
