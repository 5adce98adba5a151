-- Typings: solutions of constraints (apart from how they are found), and the first constraint at which there is none.
use Rattle.std.specs.Prelude.{◌≡◌, ℕ, List, [], ◌∷◌, ◌++◌, map}
use Rattle.pure_definitions.specs.Types.Typ.{Typ}
use Rattle.pure_definitions.specs.Types.Order.{Algebra}
use Rattle.pure_tunify.specs.Unifiers.{IsUnifier, IsMostGeneral}
use Rattle.pure_elab.specs.Drafts.{Constraint, pair_of}

-- the index of the fresh variables of unification: unknowns have 0, those of fixed variables 1
abbrev pub fresh_index : ℕ
fresh_index = 2

-- A typing is a sort-respecting solution of all constraints.
abbrev pub IsTyping : Algebra → List Constraint → (Typ → Typ) → Type 0
IsTyping A cs typs = IsUnifier A (map pair_of cs) typs

-- A typing is most general where each typing is it and then a substitution, at each unknown.
abbrev pub IsMostGeneralTyping : Algebra → List Constraint → (Typ → Typ) → Type 0
IsMostGeneralTyping A cs typs = IsMostGeneral A fresh_index 0 (map pair_of cs) typs

-- The constraint is the first such that it and those before have no common solution.
pub record IsFirstFailure (A : Algebra) (cs : List Constraint) (c : Constraint) : Type 0 where
  pub front : List Constraint
  pub rest : List Constraint
  pub stands : cs ≡ front ++ c ∷ rest
  pub typing : Typ → Typ
  pub before : IsTyping A front typing
  pub none : (typs : Typ → Typ) → ¬ IsTyping A (front ++ c ∷ []) typs
