-- What a theory's content lists, as plain data (Isabelle/Isar Implementation manual, sections 2.1 to 2.3).
use Rattle.std.specs.Prelude.{◌≡◌, ℕ, List, [], ◌∷◌}
use Rattle.pure_text.specs.Lists.{IsIn}
use Rattle.pure_definitions.specs.Names.{Label}
use Rattle.pure_definitions.specs.Types.Typ.{Typ}
use Rattle.pure_definitions.specs.Terms.Term.{Term}
use Rattle.pure_definitions.specs.Types.Order.{Class, Arity, Algebra}

-- a class with those above it, a type constructor with the count of its arguments, an arity, a constant with its type, an axiom, or a promise with its label and its statement
pub data Decl : Type 0 where
  ClassDecl : (class : Class) → Decl
  ConDecl : (name count : ℕ) → Decl
  ArityDecl : (arity : Arity) → Decl
  ConstDecl : (name : ℕ) → (typ : Typ) → Decl
  AxiomDecl : (name : ℕ) → (prop : Term) → Decl
  PromiseDecl : (name : ℕ) → (label : Label) → (statement : Term) → Decl

-- the classes that are declared, in order
abbrev pub classes_of : List Decl → List Class
classes_of [] = []
classes_of (ClassDecl k ∷ ds) = k ∷ classes_of ds
classes_of (_ ∷ ds) = classes_of ds

-- the arities that are declared, in order
abbrev pub arities_of : List Decl → List Arity
arities_of [] = []
arities_of (ArityDecl a ∷ ds) = a ∷ arities_of ds
arities_of (_ ∷ ds) = arities_of ds

-- what the declarations say of classes
abbrev pub algebra_of : List Decl → Algebra
algebra_of ds = record { classes = classes_of ds; arities = arities_of ds }

-- A class of this name is declared.
abbrev pub IsDeclaredClass : List Decl → ℕ → Type 0
IsDeclaredClass ds c = (k : Class) × IsIn (ClassDecl k) ds × (k.name ≡ c)
