-- A variable doesn't occur in a term whose schematic variables have lower indexes.
use Rattle.std.proofs.Common.{◌≡◌, ℕ, ◌<◌, ◌≤◌, inl, inr, ap, arith}
use Rattle.pure_definitions.specs.Terms.Term.{Term, Const, Free, Var, Bound, Abs, App}
use Rattle.pure_definitions.specs.Terms.Bounds.{Occurs}
use Rattle.pure_definitions.specs.Terms.Measures.{term_index_above}

low : (v t : Term) → v ≡ t → term_index_above v ≤ term_index_above t
low v t e = (let same = ap term_index_above e in omega arith)

occurs-low : (v t : Term) → Occurs v t → term_index_above v ≤ term_index_above t
occurs-low v (Const c T) e = low v (Const c T) e
occurs-low v (Free x T) e = low v (Free x T) e
occurs-low v (Var x i T) e = low v (Var x i T) e
occurs-low v (Bound p) e = low v (Bound p) e
occurs-low v (Abs T b) (inl e) = low v (Abs T b) e
occurs-low v (Abs T b) (inr o) = (let inside = occurs-low v b o in omega arith)
occurs-low v (App f a) (inl e) = low v (App f a) e
occurs-low v (App f a) (inr (inl o)) = (let inside = occurs-low v f o in omega arith)
occurs-low v (App f a) (inr (inr o)) = (let inside = occurs-low v a o in omega arith)

pub occurs_not : (v t : Term) (m n : ℕ) → m ≡ term_index_above t → n ≡ term_index_above v → m < n → ¬ Occurs v t
occurs_not v t m n e f h = λ o. (let least = occurs-low v t o in absurd (omega arith))
