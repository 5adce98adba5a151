-- The lines of a record's derivation.
use Rattle.std.specs.Prelude.{ℕ, List}
use Rattle.pure_definitions.specs.Terms.Term.{Term}
use Rattle.pure_definitions.specs.Terms.Subst.{TypBind, TermBind}

-- A node of a derivation's tree: `line`, `implication` and `premise` are the numbers of the lines of its parts, counted from 0.
pub data Node : Type 0 where
  Axiom : (name : ℕ) → (typs : List TypBind) → (terms : List TermBind) → Node
  Assume : (prop : Term) → Node
  AllIntro : (variable : Term) → (line : ℕ) → Node
  AllElim : (term : Term) → (line : ℕ) → Node
  ImpIntro : (prop : Term) → (line : ℕ) → Node
  ImpElim : (implication premise : ℕ) → Node
  Beta : (term : Term) → Node
  Refl : (term : Term) → Node
  Subst : (abstraction left right : Term) → Node
  Ext : (left right : Term) → Node
  Iff : (left right : Term) → Node
