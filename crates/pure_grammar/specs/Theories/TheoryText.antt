-- The tree of a theory's text.
use Rattle.std.specs.Prelude.{ℕ, List}

-- a range of the source: the place of its first byte, and of the byte behind its last
pub record Span : Type 0 where
  pub from : ℕ
  pub to : ℕ

-- A step of a proof. Names of facts are as they are written.
pub data Step : Type 0 where
  Rule : (fact : List ℕ) → Step
  Erule : (fact : List ℕ) → Step
  Drule : (fact : List ℕ) → Step
  Assumption : Step
  Unfold : (facts : List (List ℕ)) → Step
  Prefer : (number : ℕ) → Step
  Defer : Step
  Close : Step
  Done : Step

-- A have: a fact that is stated inside a lemma, before its own proof, with a name and a proof of its own.
pub record Have : Type 0 where
  pub name : List ℕ
  pub prop : Span
  pub script : List Step

-- A command. Quoted texts and types are ranges of the source, a quoted text without its marks; of a declared type's
-- parameters only the count is kept.
pub data Command : Type 0 where
  Class : (name : List ℕ) → (above : List (List ℕ)) → Command
  TypeDecl : (name : List ℕ) → (params : ℕ) → Command
  Arity : (con : List ℕ) → (doms : List (List (List ℕ))) → (class : List ℕ) → Command
  Const : (name : List ℕ) → (typ : Span) → Command
  Axiom : (name : List ℕ) → (prop : Span) → Command
  Definition : (name : List ℕ) → (typ : Span) → (prop : Span) → Command
  Lemma : (name : List ℕ) → (prop : Span) → (haves : List Have) → (script : List Step) → Command

-- A theory's text. Its version is that of the language in which it is written, 1 where none is.
pub record TheoryText : Type 0 where
  pub version : ℕ
  pub name : List ℕ
  pub imports : List (List ℕ)
  pub commands : List Command
