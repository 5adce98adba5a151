-- Declarations that declare an algebra.
use Rattle.std.specs.Prelude.{List, [], ◌∷◌}
use Rattle.pure_definitions.specs.Types.Order.{Class, Arity, Algebra}
use Rattle.pure_definitions.specs.Declarations.Decl.{Decl, ClassDecl, ArityDecl}

abbrev pub arities_declared : List Arity → List Decl
arities_declared [] = []
arities_declared (r ∷ rs) = ArityDecl r ∷ arities_declared rs

abbrev pub classes_declared : List Class → List Decl → List Decl
classes_declared [] rest = rest
classes_declared (k ∷ ks) rest = ClassDecl k ∷ classes_declared ks rest

-- the classes of the algebra, and then its arities
abbrev pub declared : Algebra → List Decl
declared A = classes_declared A.classes (arities_declared A.arities)
