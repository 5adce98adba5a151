-- Names of classes that are not declared, and arities that are.
use Rattle.std.specs.Prelude.{◌≡◌, ℕ, List, [], ◌∷◌, ◌++◌}
use Rattle.pure_text.specs.Lists.{Each, AnyOf}
use Rattle.pure_definitions.specs.Types.Order.{Class, Arity, Algebra}
use Rattle.pure_order_tables.specs.Classes.{IsDeclared}

-- The class is the first of these names that isn't declared.
pub record IsFirstUnknown (cs : List Class) (names : List ℕ) (c : ℕ) : Type 0 where
  pub front : List ℕ
  pub rest : List ℕ
  pub is : names ≡ front ++ c ∷ rest
  pub declared : Each (IsDeclared cs) front
  pub unknown : ¬ IsDeclared cs c

-- the classes of the sorts, one sort after the other
abbrev pub joined : List (List ℕ) → List ℕ
joined [] = []
joined (s ∷ ss) = s ++ joined ss

-- the classes that an arity names, in order
abbrev pub names_of : Arity → List ℕ
names_of a = joined a.domains ++ a.class ∷ []

-- The constructor has a declared arity for the class.
abbrev pub HasArityFor : Algebra → ℕ → ℕ → Type 0
HasArityFor A k c = AnyOf (λ b. (b.con ≡ k) × (b.class ≡ c)) A.arities
