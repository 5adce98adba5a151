-- Which axioms a lemma cites: those that the steps of its proof name, and those that the proofs of the lemmas name that it reaches.
use Rattle.std.specs.Prelude.{◌≡◌, ◌⊎◌, ℕ, List, map}
use Rattle.pure_text.specs.Lists.{IsIn}
use Rattle.pure_definitions.specs.Names.{Label}
use Rattle.pure_promise_fates.specs.Entries.{Reaches, Became, Shown}
use Rattle.pure_table.specs.Promise.Entries.{LemmaEntry, plain}
use Rattle.pure_table.specs.Declare.Notes.{Fork}
use Rattle.pure_citations.specs.Named.{NamesAxiom}

-- The lemma has this label, or is reached from it.
abbrev pub IsReachedFrom : List LemmaEntry → Label → Label → Type 0
IsReachedFrom entries l k = (l ≡ k) ⊎ Reaches (map plain entries) l k

-- A proof shows the lemma.
abbrev pub IsOk : List LemmaEntry → Label → Type 0
IsOk entries l = (rests : List Label) × Became (map plain entries) l (Shown rests)

-- The lemma with the label cites the axiom: it, or a lemma that it reaches, is shown by a proof whose steps name it.
pub record Cites (texts : List (List ℕ)) (lemmas : List Fork) (entries : List LemmaEntry) (l : Label) (name : ℕ) : Type 0 where
  pub lemma : Fork
  pub stands : IsIn lemma lemmas
  pub reached : IsReachedFrom entries l lemma.label
  pub shown : IsOk entries lemma.label
  pub names : NamesAxiom texts lemma.content lemma.lemma lemma.script name
