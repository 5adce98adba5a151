-- Declared classes, in the order of their declarations.
use Rattle.std.specs.Prelude.{◌≡◌, ℕ, List, [], ◌∷◌, ◌++◌}
use Rattle.pure_text.specs.Lists.{IsIn, Each, AnyOf}
use Rattle.pure_definitions.specs.Types.Order.{Class, Algebra, IsClassBelow}

-- The class is declared.
abbrev pub IsDeclared : List Class → ℕ → Type 0
IsDeclared cs c = AnyOf (λ k. k.name ≡ c) cs

-- Each class of the second list is declared once, after those of the first list, and after the classes declared to be above it.
abbrev pub Follows : List Class → List Class → Type 0
Follows done [] = Unit {0}
Follows done (k ∷ ks) = (¬ IsDeclared done k.name) × Each (IsDeclared done) k.above × Follows (done ++ k ∷ []) ks

-- the algebra of these classes, without arities
abbrev pub of_classes : List Class → Algebra
of_classes cs = record { classes = cs; arities = [] }

-- No two classes are below each other.
abbrev pub IsAntisymmetric : Algebra → Type 0
IsAntisymmetric A = (c d : ℕ) → IsClassBelow A c d → IsClassBelow A d c → c ≡ d

-- The second declaration is the same as the first, if it is of the same class.
abbrev pub IsSameIfNamed : Class → Class → Type 0
IsSameIfNamed c k = c.name ≡ k.name → c ≡ k

-- A class that both lists declare has the same classes declared above it in both.
abbrev pub Agree : List Class → List Class → Type 0
Agree cs ks = (c k : Class) → IsIn c cs → IsIn k ks → c.name ≡ k.name → c ≡ k

-- Some other class of the sort is below the class.
abbrev pub IsAboveAnother : Algebra → List ℕ → ℕ → Type 0
IsAboveAnother A s c = AnyOf (λ b. (¬ (b ≡ c)) × IsClassBelow A b c) s
