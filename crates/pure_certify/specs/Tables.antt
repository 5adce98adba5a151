-- What tables of declarations answer.
use Rattle.std.specs.Prelude.{◌≡◌, ◌↔◌, ℕ, List, Option, Some, None}
use Rattle.pure_text.specs.Lists.{IsIn}
use Rattle.pure_definitions.specs.Types.Typ.{Typ}
use Rattle.pure_definitions.specs.Declarations.Decl.{Decl, ConDecl, ConstDecl}

-- The answer to the question how many parameters the constructor has: that number, where it is declared with it and no other, or none where it isn't declared.
abbrev pub IsParams : List Decl → ℕ → Option ℕ → Type 0
IsParams ds k (Some count) = (n : ℕ) → IsIn (ConDecl k n) ds ↔ (n ≡ count)
IsParams ds k None = (n : ℕ) → ¬ IsIn (ConDecl k n) ds

-- The constant is declared with this type and no other.
abbrev pub IsConstOf : List Decl → ℕ → Typ → Type 0
IsConstOf ds c declared = (typ : Typ) → IsIn (ConstDecl c typ) ds ↔ (typ ≡ declared)

-- The constant isn't declared.
abbrev pub IsUnknownConst : List Decl → ℕ → Type 0
IsUnknownConst ds c = (typ : Typ) → ¬ IsIn (ConstDecl c typ) ds
