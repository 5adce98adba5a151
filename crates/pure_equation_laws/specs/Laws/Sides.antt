-- Laws of the terms that are equated: both are typed and certified.
use Rattle.std.specs.Prelude.{List}
use Rattle.pure_definitions.specs.Types.Typ.{Typ}
use Rattle.pure_definitions.specs.Terms.Term.{Term}
use Rattle.pure_definitions.specs.Declarations.Decl.{Decl}
use Rattle.pure_logic.specs.Derivable.{Pair}
use Rattle.pure_equation_laws.specs.Equated.{IsTypedUnder, AreEquated}

-- Both terms have the type under the binders, and their parts are certified.
abbrev pub EquatedAreTyped : Type 0
EquatedAreTyped = (ds : List Decl) (pairs : List Pair) (bs : List Typ) (T : Typ) (t u : Term) → AreEquated ds pairs bs T t u → IsTypedUnder ds bs t T × IsTypedUnder ds bs u T
