-- What the content of a record declares.
use Rattle.std.specs.Prelude.{ℕ}
use Rattle.pure_definitions.specs.Types.Typ.{Typ}
use Rattle.pure_definitions.specs.Terms.Term.{Term}

-- A type constructor with the count of its parameters, a constant with its type, or an axiom with its proposition.
pub data Item : Type 0 where
  TypeDecl : (name params : ℕ) → Item
  Const : (name : ℕ) → (typ : Typ) → Item
  Axiom : (name : ℕ) → (prop : Term) → Item
