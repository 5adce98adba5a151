-- Definitions, and terms in which a defined constant is unfolded: what it is defined to be stands in its place (Isabelle/Isar Implementation manual, section 2.3).
use Rattle.std.specs.Prelude.{◌≡◌, ℕ}
use Rattle.pure_definitions.specs.Types.Typ.{Typ}
use Rattle.pure_definitions.specs.Types.Order.{Algebra}
use Rattle.pure_definitions.specs.Terms.Term.{Term, Const}
use Rattle.pure_definitions.specs.Terms.Subst.{inst_typ, IsSortRespecting}
use Rattle.pure_definitions.specs.Declarations.Certified.{IsMatch}
pub use Rattle.pure_certify.specs.Bodies.{HasVariable, HasExtra, HaveExtra, HasExtraTyp}
use Rattle.pure_logic.specs.Connectives.{eq}
use Rattle.pure_unfold.specs.Replaced.{IsReplaced, HasReplaced}

-- The proposition is the definition of the constant, with this type, as the body: `c == body`. The body has no variable, and no type variable that the constant's type lacks.
pub record IsDefinition (prop : Term) (name : ℕ) (typ : Typ) (body : Term) : Type 0 where
  pub sides : Typ
  pub equates : prop ≡ eq sides (Const name typ) body
  pub no_variable : ¬ HasVariable body
  pub no_extra : ¬ HasExtraTyp typ body

-- The proposition is no definition.
abbrev pub IsNoDefinition : (prop : Term) → Type 0
IsNoDefinition prop = (name : ℕ) (typ : Typ) (body : Term) → ¬ IsDefinition prop name typ body

-- By the definition of a constant of this name and type as the body, the term is put for the constant of that name with another type: that type is an instance of the definition's, of its sorts, and the term is that instance of the body.
pub record IsUnfolded (A : Algebra) (name : ℕ) (typ : Typ) (body : Term) (constant : ℕ) (instance : Typ) (u : Term) : Type 0 where
  pub same : constant ≡ name
  pub typs : Typ → Typ
  pub matches : IsMatch typs typ instance
  pub respecting : IsSortRespecting A typs
  pub is : u ≡ inst_typ typs body

-- By the definition the first term becomes the second: some constant of it is unfolded, and each that can be is, all at once. Nothing is normalised.
pub record Unfolds (A : Algebra) (prop t u : Term) : Type 0 where
  pub name : ℕ
  pub typ : Typ
  pub body : Term
  pub definition : IsDefinition prop name typ body
  pub some : HasReplaced (IsUnfolded A name typ body) t
  pub each : IsReplaced (IsUnfolded A name typ body) t u

-- The proposition is a definition by which nothing in the term is unfolded.
pub record UnfoldsNothing (A : Algebra) (prop t : Term) : Type 0 where
  pub name : ℕ
  pub typ : Typ
  pub body : Term
  pub definition : IsDefinition prop name typ body
  pub none : ¬ HasReplaced (IsUnfolded A name typ body) t
