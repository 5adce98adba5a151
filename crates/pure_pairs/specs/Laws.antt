-- Laws of equality modulo pairs.
use Rattle.std.specs.Prelude.{◌≡◌, ◌⊎◌, ℕ, List, []}
use Rattle.pure_text.specs.Lists.{Each}
use Rattle.pure_definitions.specs.Types.Typ.{Typ}
use Rattle.pure_definitions.specs.Terms.Term.{Term}
use Rattle.pure_definitions.specs.Declarations.Decl.{Decl}
use Rattle.pure_logic.specs.Derivable.{Pair}
use Rattle.pure_equation_laws.specs.Equated.{IsTypedUnder, AreEquated}
use Rattle.pure_pairs.specs.Modulo.{AreEqualModulo, DiffersAt}

-- Two terms are equal modulo pairs, or differ at some place.
abbrev pub EqualOrDiffers : Type 0
EqualOrDiffers = (pairs : List Pair) (bs : List Typ) (t u : Term) → AreEqualModulo pairs bs t u ⊎ ((place : ℕ) × DiffersAt pairs bs t u place)

-- They don't do both.
abbrev pub NotBoth : Type 0
NotBoth = (pairs : List Pair) (bs : List Typ) (t u : Term) (place : ℕ) → AreEqualModulo pairs bs t u → ¬ DiffersAt pairs bs t u place

-- They differ at one place at most.
abbrev pub OnePlace : Type 0
OnePlace = (pairs : List Pair) (bs : List Typ) (t u : Term) (one other : ℕ) → DiffersAt pairs bs t u one → DiffersAt pairs bs t u other → one ≡ other

-- The sides of the pair are certified, of one type.
abbrev pub AreSidesTyped : List Decl → Pair → Type 0
AreSidesTyped ds p = (T : Typ) × IsTypedUnder ds [] p.left T × IsTypedUnder ds [] p.right T

-- A certified term is equated, modulo pairs with certified sides of one type each, with each term that is equal to it modulo them: so says their equational theory.
abbrev pub EqualModuloIsEquated : Type 0
EqualModuloIsEquated = (ds : List Decl) (pairs : List Pair) → Each (AreSidesTyped ds) pairs → (T : Typ) (t u : Term) → IsTypedUnder ds [] t T → AreEqualModulo pairs [] t u → AreEquated ds pairs [] T t u
