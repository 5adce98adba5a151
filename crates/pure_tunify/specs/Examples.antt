-- Computed examples of what the steps solve and refute.
use Rattle.std.specs.Prelude.{◌≡◌, ℕ, List, [], ◌∷◌}
use Rattle.pure_definitions.specs.Types.Typ.{Typ, TVar, arrow}
use Rattle.pure_definitions.specs.Types.Order.{Algebra}
use Rattle.pure_tunify.specs.Steps.{pair, Solves, Refutes}

-- A variable of class 0 and one of no class are both set to a fresh one of class 0, whose index is 1.
abbrev pub NarrowedExample : Type 0
NarrowedExample = (A : Algebra) → (typs : Typ → Typ) × Solves A 1 0 (pair (TVar 0 0 (0 ∷ [])) (TVar 1 0 []) ∷ []) typs × (typs (TVar 0 0 (0 ∷ [])) ≡ TVar 0 1 (0 ∷ [])) × (typs (TVar 1 0 []) ≡ TVar 0 1 (0 ∷ []))

-- A variable and a type of functions from it are refuted.
abbrev pub OccursExample : Type 0
OccursExample = (A : Algebra) (index n x i : ℕ) (s : List ℕ) (range : Typ) → Refutes A index n (pair (TVar x i s) (arrow (TVar x i s) range) ∷ [])
