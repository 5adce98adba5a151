-- Lemmas with what became of them, as plain data.
use Rattle.std.specs.Prelude.{ℕ, Option, Some, None, Ok, Err}
use Rattle.pure_definitions.specs.Names.{Label}
use Rattle.pure_definitions.specs.Terms.Term.{Term}
use Rattle.pure_promise_fates.specs.Entries as fates
use Rattle.pure_method.specs.Proof.{ProofOutcome}

-- a lemma by its label and name, with its statement and what became of it: what its proof came to, or nothing where it was cancelled
pub record LemmaEntry : Type 0 where
  pub label : Label
  pub name : ℕ
  pub prop : Term
  pub own : Option ProofOutcome

-- what became of it, as fates see it
abbrev pub plain_own : Option ProofOutcome → fates.Own
plain_own None = fates.Cancelled
plain_own (Some (Ok rests)) = fates.Shown rests
plain_own (Some (Err fault)) = fates.Fault

-- the lemma as fates see it
abbrev pub plain : LemmaEntry → fates.Entry
plain e = record { label = e.label; own = plain_own e.own }
