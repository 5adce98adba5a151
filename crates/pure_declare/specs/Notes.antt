-- What commands leave: a row, or a fork, whose proof is still to be given.
use Rattle.std.specs.Prelude.{ℕ, List}
use Rattle.pure_definitions.specs.Names.{Label}
use Rattle.pure_definitions.specs.Terms.Term.{Term}
use Rattle.pure_grammar.specs.Theories.TheoryText.{Step}
use Rattle.pure_logic.specs.Content.{Content}
use Rattle.pure_print.specs.declared.row.Row.{Row}

-- a statement that is bound before its proof is run: its label and name, the name of the lemma that it is or stands in, the content before it, its statement with fixed variables and generalised, and its proof
pub record Fork : Type 0 where
  pub label : Label
  pub name : ℕ
  pub lemma : ℕ
  pub content : Content
  pub fixed : Term
  pub prop : Term
  pub script : List Step

-- what a command leaves in the table
pub data Note : Type 0 where
  Said : (row : Row) → Note
  Forked : (fork : Fork) → Note

-- what a command does: what it leaves, and the next content
pub record Outcome : Type 0 where
  pub note : Note
  pub next : Content

-- what a command that declares does: what is said behind the head of its row, and the next content
pub record Change : Type 0 where
  pub tail : List ℕ
  pub next : Content
