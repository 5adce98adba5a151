-- Declarations from lists, in which a constructor's or a constant's name is its place.
use Rattle.std.specs.Prelude.{ℕ, suc, List, [], ◌∷◌}
use Rattle.pure_definitions.specs.Types.Typ.{Typ}
use Rattle.pure_definitions.specs.Types.Order.{Class, Arity, Algebra}
use Rattle.pure_definitions.specs.Declarations.Decl.{Decl, ClassDecl, ConDecl, ArityDecl, ConstDecl}

-- the declarations of classes, of arities, and of what has names from a number on, each with others behind them
abbrev pub class_decls : List Class → List Decl → List Decl
class_decls [] ds = ds
class_decls (k ∷ ks) ds = ClassDecl k ∷ class_decls ks ds

abbrev pub arity_decls : List Arity → List Decl → List Decl
arity_decls [] ds = ds
arity_decls (a ∷ arities) ds = ArityDecl a ∷ arity_decls arities ds

abbrev pub named_decls : {X : Type 0} → (ℕ → X → Decl) → ℕ → List X → List Decl → List Decl
named_decls declares name [] ds = ds
named_decls declares name (x ∷ xs) ds = declares name x ∷ named_decls declares (suc name) xs ds

-- the declarations of the algebra, of constructors by the counts of their arguments, and of constants by their types
abbrev pub decls : Algebra → List ℕ → List Typ → List Decl
decls A counts typs = class_decls A.classes (arity_decls A.arities (named_decls ConDecl 0 counts (named_decls ConstDecl 0 typs [])))
