-- Which axioms the steps of a proof name, in the lemma that is proved or in which the statement stands.
use Rattle.std.specs.Prelude.{◌≡◌, ◌↔◌, ℕ, List, Option, Some, None}
use Rattle.pure_text.specs.Lists.{AnyOf}
use Rattle.pure_definitions.specs.Terms.Term.{Term}
use Rattle.pure_grammar.specs.Theories.TheoryText.{Step}
use Rattle.pure_logic.specs.Content.{Content}
use Rattle.pure_lookup.specs.LookUps.{Fact, AxiomFact, IsFoundLocal}
use Rattle.pure_table.specs.Method.Facts.{named_facts}

-- The written name means the axiom with this name. A definition has its fact among the axioms.
abbrev pub MeansAxiom : (texts : List (List ℕ)) → Content → (lemma name : ℕ) → (written : List ℕ) → Type 0
MeansAxiom texts Q lemma name written = (A : Term) × IsFoundLocal texts Q lemma written (Some (AxiomFact name A))

-- Some step names it.
abbrev pub NamesAxiom : (texts : List (List ℕ)) → Content → (lemma : ℕ) → (script : List Step) → (name : ℕ) → Type 0
NamesAxiom texts Q lemma script name = AnyOf (λ step. AnyOf (MeansAxiom texts Q lemma name) (named_facts step)) script

-- The fact is no axiom.
abbrev pub IsNoAxiom : Fact → Type 0
IsNoAxiom (AxiomFact name A) = ⊥
IsNoAxiom _ = Unit {0}

-- The answer to the question which axiom is written so: its name, or none where the written name means no axiom.
abbrev pub IsAxiomWritten : (texts : List (List ℕ)) → Content → (lemma : ℕ) → (written : List ℕ) → Option ℕ → Type 0
IsAxiomWritten texts Q lemma written (Some name) = (n : ℕ) → MeansAxiom texts Q lemma n written ↔ (n ≡ name)
IsAxiomWritten texts Q lemma written None = (n : ℕ) → ¬ MeansAxiom texts Q lemma n written
