-- Contents of theories (Isabelle/Isar Implementation manual, sections 2.1 to 2.3): what is declared, and nothing of how.
use Rattle.std.specs.Prelude.{◌≡◌, ℕ, List, [], ◌∷◌, Option}
use Rattle.pure_text.specs.Lists.{IsIn, Each}
use Rattle.pure_definitions.specs.Types.Typ.{Typ, TFree, TVar, Con, Typs, none, also, prop}
use Rattle.pure_definitions.specs.Terms.Term.{Term, Const, Free, Var, Bound, Abs, App}
use Rattle.pure_definitions.specs.Terms.Typing.{HasType}
use Rattle.pure_definitions.specs.Types.Order.{IsCoregular}
use Rattle.pure_definitions.specs.Terms.Subst.{typ_instance, inst_typ}
use Rattle.pure_definitions.specs.Declarations.Decl.{Decl, ClassDecl, ConDecl, ConstDecl, AxiomDecl, PromiseDecl, algebra_of}
use Rattle.pure_definitions.specs.Declarations.Certified.{IsCertified}
use Rattle.pure_logic.specs.Connectives.{eq}

-- a theory: its name, and its index in load order
pub record TheoryId : Type 0 where
  pub name : ℕ
  pub index : ℕ

-- What a theory has at some point: the declarations so far, in order; and, for the look-up of names alone, the theory itself and its ancestors. Pure isn't named: its own content has no theory of its own.
pub record Content : Type 0 where
  pub declarations : List Decl
  pub own : Option TheoryId
  pub ancestors : List TheoryId

-- The term is certified over the content, and has this type.
pub record IsCertifiedOf (Q : Content) (t : Term) (T : Typ) : Type 0 where
  pub certified : IsCertified Q.declarations t
  pub typed : HasType [] t T

-- The term is a proposition of the content: certified, and of type prop.
abbrev pub IsProposition : Content → Term → Type 0
IsProposition Q A = IsCertifiedOf Q A prop

-- No fixed type variable is in the type.
abbrev mutual
  pub IsSchematicTyp : Typ → Type 0
  IsSchematicTyp (TFree x s) = ⊥
  IsSchematicTyp (TVar x i s) = Unit {0}
  IsSchematicTyp (Con k ts) = AreSchematicTyps ts

  pub AreSchematicTyps : Typs → Type 0
  AreSchematicTyps none = Unit {0}
  AreSchematicTyps (also t ts) = IsSchematicTyp t × AreSchematicTyps ts

-- No fixed variable and no fixed type variable is in the term.
abbrev pub IsSchematic : Term → Type 0
IsSchematic (Const c T) = IsSchematicTyp T
IsSchematic (Free x T) = ⊥
IsSchematic (Var x i T) = IsSchematicTyp T
IsSchematic (Bound n) = Unit {0}
IsSchematic (Abs T b) = IsSchematicTyp T × IsSchematic b
IsSchematic (App f a) = IsSchematic f × IsSchematic a

-- The term may be an axiom or the statement of a promise: a proposition without fixed variables and fixed type variables.
pub record IsStatement (Q : Content) (A : Term) : Type 0 where
  pub proposition : IsProposition Q A
  pub schematic : IsSchematic A

-- The declarations are of one kind and have one name. Axioms and promises are one kind; arities have no name.
abbrev pub AreNamedAlike : Decl → Decl → Type 0
AreNamedAlike (ClassDecl c) (ClassDecl d) = c.name ≡ d.name
AreNamedAlike (ConDecl k m) (ConDecl l n) = k ≡ l
AreNamedAlike (ConstDecl c T) (ConstDecl d U) = c ≡ d
AreNamedAlike (AxiomDecl x A) (AxiomDecl y B) = x ≡ y
AreNamedAlike (AxiomDecl x A) (PromiseDecl y l B) = x ≡ y
AreNamedAlike (PromiseDecl x l A) (AxiomDecl y B) = x ≡ y
AreNamedAlike (PromiseDecl x l A) (PromiseDecl y m B) = x ≡ y
AreNamedAlike _ _ = ⊥

-- The declarations are promises with one label.
abbrev pub AreLabelledAlike : Decl → Decl → Type 0
AreLabelledAlike (PromiseDecl x l A) (PromiseDecl y m B) = l ≡ m
AreLabelledAlike _ _ = ⊥

-- What is declared is well formed: a constant's type has no fixed type variable, and an axiom or a promise states a proposition without fixed variables and fixed type variables.
-- A constant's type may have constructors that aren't declared; no term with such a constant is certified.
abbrev pub IsWellFormed : Content → Decl → Type 0
IsWellFormed Q (ConstDecl c T) = IsSchematicTyp T
IsWellFormed Q (AxiomDecl x A) = IsStatement Q A
IsWellFormed Q (PromiseDecl x l A) = IsStatement Q A
IsWellFormed Q _ = Unit {0}

-- The declarations make a content. Two of one kind with one name are the same, and so are two promises with one label; each is well formed; and the arities are coregular.
pub record IsContent (Q : Content) : Type 0 where
  pub named_once : (d e : Decl) → IsIn d Q.declarations → IsIn e Q.declarations → AreNamedAlike d e → d ≡ e
  pub labelled_once : (d e : Decl) → IsIn d Q.declarations → IsIn e Q.declarations → AreLabelledAlike d e → d ≡ e
  pub well_formed : Each (IsWellFormed Q) Q.declarations
  pub coregular : IsCoregular (algebra_of Q.declarations)

-- Q is below R: each declaration of Q, with all its data, is one of R.
abbrev pub IsBelow : Content → Content → Type 0
IsBelow Q R = (d : Decl) → IsIn d Q.declarations → IsIn d R.declarations

-- the schematic type variable, with the index 0, in place of a fixed one
abbrev pub schematic_typ_variable : Typ → Typ
schematic_typ_variable (TFree x s) = TVar x 0 s
schematic_typ_variable T = T

-- What a definition of the constant c by a body of type T adds: the constant, then the axiom `c == body`, with fixed type variables made schematic in both.
abbrev pub definition : (constant fact : ℕ) → (typ : Typ) → (body : Term) → List Decl
definition c fact T body =
    let schematic_typ = typ_instance schematic_typ_variable T in
    ConstDecl c schematic_typ ∷ AxiomDecl fact (eq schematic_typ (Const c schematic_typ) (inst_typ schematic_typ_variable body)) ∷ []
