-- The graph of what proofs name: an edge leads from each lemma that a proof shows to each axiom and each lemma that the steps of its proof name. A definition has its fact among the axioms.
use Rattle.std.specs.Prelude.{◌≡◌, ℕ, List}
use Rattle.pure_text.specs.Lists.{IsIn}
use Rattle.pure_definitions.specs.Names.{Label}
use Rattle.pure_grammar.specs.Theories.TheoryText.{Step}
use Rattle.pure_logic.specs.Content.{Content}
use Rattle.pure_table.specs.Declare.Notes.{Fork}
use Rattle.pure_table.specs.Method.Facts.{IsNamedIn}
use Rattle.pure_table.specs.Promise.Entries.{LemmaEntry}
use Rattle.pure_citations.specs.Named.{NamesAxiom}
use Rattle.pure_citations.specs.Cites.{IsOk}

-- where an edge may lead: to an axiom, or to a lemma
pub data Node : Type 0 where
  OfAxiom : (name : ℕ) → Node
  OfLemma : (label : Label) → Node

-- Some step names it.
abbrev pub NamesNode : (texts : List (List ℕ)) → Content → (lemma : ℕ) → (script : List Step) → Node → Type 0
NamesNode texts Q lemma script (OfAxiom name) = NamesAxiom texts Q lemma script name
NamesNode texts Q lemma script (OfLemma label) = IsNamedIn texts Q lemma script label

-- An edge leads from the lemma with the label to the node.
pub record Edge (texts : List (List ℕ)) (lemmas : List Fork) (entries : List LemmaEntry) (l : Label) (to : Node) : Type 0 where
  pub lemma : Fork
  pub stands : IsIn lemma lemmas
  pub label : lemma.label ≡ l
  pub shown : IsOk entries l
  pub names : NamesNode texts lemma.content lemma.lemma lemma.script to

-- Edges lead, one after the other, from the lemma with the label to the node.
pub data Leads (texts : List (List ℕ)) (lemmas : List Fork) (entries : List LemmaEntry) (to : Node) : Label → Type 0 where
  at_once : {l : Label} → Edge texts lemmas entries l to → Leads texts lemmas entries to l
  further : {l : Label} → (m : Label) → Edge texts lemmas entries l (OfLemma m) → Leads texts lemmas entries to m → Leads texts lemmas entries to l
