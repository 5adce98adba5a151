-- Laws of what lemmas cite: a proved lemma is derivable from what it cites alone.
use Rattle.std.specs.Prelude.{◌≡◌, ◌↔◌, ℕ, List, map, Ok}
use Rattle.pure_text.specs.Lists.{IsIn, EachTwo}
use Rattle.pure_definitions.specs.Names.{Label}
use Rattle.pure_definitions.specs.Terms.Term.{Term}
use Rattle.pure_definitions.specs.Declarations.Decl.{Decl}
use Rattle.pure_grammar.specs.Theories.TheoryText.{Step}
use Rattle.pure_logic.specs.Content.{Content, IsContent}
use Rattle.pure_logic.specs.Derivable.{IsDerivableAlone}
use Rattle.pure_lookup.specs.Laws.{IsInSession}
use Rattle.pure_order_tables.specs.Rows.{Holds}
use Rattle.pure_promise_fates.specs.Entries.{Reaches}
use Rattle.pure_graph.specs.Session.{Session}
use Rattle.pure_print.specs.declared.row.Row.{Row}
use Rattle.pure_print.specs.declared.row.RowStatus.TheVariants.{Proved}
use Rattle.pure_table.specs.Declare.Notes.{Fork}
use Rattle.pure_table.specs.Method.Proof.{IsProofIn}
use Rattle.pure_table.specs.Promise.Entries.{plain}
use Rattle.pure_table.specs.SessionLaws.Loaded.{IsLoadedSession}
use Rattle.pure_table.specs.SessionMeaning.Statements.{forks_of}
use Rattle.pure_table.specs.Table.{Table, IsTable}
use Rattle.pure_citations.specs.Without.{with_axioms, Stays}
use Rattle.pure_citations.specs.Named.{NamesAxiom}
use Rattle.pure_citations.specs.Cites.{Cites}
use Rattle.pure_citations.specs.Cited.{AreCitedBy}
use Rattle.pure_citations.specs.Edges.{OfAxiom, OfLemma, Leads}

-- Of a content's declarations those stay that are no axioms, Pure's own axiom, and the axioms of the names.
abbrev pub StaysExactly : Type 0
StaysExactly = (names : List ℕ) (Q : Content) (d : Decl) → IsIn d (with_axioms names Q).declarations ↔ (IsIn d Q.declarations × Stays names d)

-- A proof, in whichever lemma, that comes to promises comes to the same ones over the content without the axioms that its steps don't name.
abbrev pub ProofIsKept : Type 0
ProofIsKept = (texts : List (List ℕ)) (Q : Content) → IsInSession texts Q → IsContent Q → (names : List ℕ) (lemma : ℕ) (statement : Term) (script : List Step) (labels : List Label)
    → ((name : ℕ) → NamesAxiom texts Q lemma script name → IsIn name names) → IsProofIn texts Q lemma statement script (Ok labels) → IsProofIn texts (with_axioms names Q) lemma statement script (Ok labels)

-- These names are those of all axioms that the lemma cites.
abbrev pub AreAllCited : Session → Table → Fork → (names : List ℕ) → Type 0
AreAllCited S t f names = (name : ℕ) → Cites S.names (forks_of t.notes) t.entries f.label name → IsIn name names

-- The statement of each lemma whose row is printed as proved is derivable from the axioms that it cites and Pure's own alone: over its content without the theories' other axioms, whatever list has the names of those that it cites.
abbrev pub IsDerivedByCited : Session → Table → Type 0
IsDerivedByCited S t = EachTwo (λ (f : Fork) (row : Row). row.status ≡ Proved → (names : List ℕ) → AreAllCited S t f names → IsDerivableAlone (with_axioms names f.content) f.prop) (forks_of t.notes) t.lemmas

abbrev pub CitedSuffice : Type 0
CitedSuffice = (S : Session) → IsLoadedSession S.names S.theories → (cancelled : List Label) (t : Table) → IsTable S cancelled t → IsDerivedByCited S t

-- So it is of what the call finds that looks for the axioms which the lemmas of a name cite: a list that has those that the set holds has all.
abbrev pub IsDerivedByHeld : Session → Table → Type 0
IsDerivedByHeld S t =
    EachTwo (λ (f : Fork) (row : Row). row.status ≡ Proved → (held : List ℕ) → AreCitedBy S.names (forks_of t.notes) t.entries f.name held → (names : List ℕ) → ((name : ℕ) → Holds held name → IsIn name names)
    → IsDerivableAlone (with_axioms names f.content) f.prop) (forks_of t.notes) t.lemmas

abbrev pub HeldSuffice : Type 0
HeldSuffice = (S : Session) → IsLoadedSession S.names S.theories → (cancelled : List Label) (t : Table) → IsTable S cancelled t → IsDerivedByHeld S t

-- A lemma cites just the axioms to which edges lead from it, and reaches just the lemmas.
abbrev pub CitedAreLedTo : Type 0
CitedAreLedTo = (S : Session) → IsLoadedSession S.names S.theories → (cancelled : List Label) (t : Table) → IsTable S cancelled t → (l : Label) (name : ℕ)
    → Cites S.names (forks_of t.notes) t.entries l name ↔ Leads S.names (forks_of t.notes) t.entries (OfAxiom name) l

abbrev pub ReachedAreLedTo : Type 0
ReachedAreLedTo = (S : Session) → IsLoadedSession S.names S.theories → (cancelled : List Label) (t : Table) → IsTable S cancelled t → (l k : Label)
    → Reaches (map plain t.entries) l k ↔ Leads S.names (forks_of t.notes) t.entries (OfLemma k) l
