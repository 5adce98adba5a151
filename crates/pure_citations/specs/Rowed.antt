-- Each axiom that a lemma cites has its row in the table; so what is listed for a proved lemma suffices, and is what edges lead to.
use Rattle.std.specs.Prelude.{◌≡◌, ◌↔◌, ℕ, List}
use Rattle.pure_text.specs.Lists.{IsIn, AnyOf, EachTwo}
use Rattle.pure_definitions.specs.Names.{Label}
use Rattle.pure_graph.specs.Session.{Session}
use Rattle.pure_logic.specs.Derivable.{IsDerivableAlone}
use Rattle.pure_typ.specs.NameTexts.{HasText}
use Rattle.pure_print.specs.declared.row.Row.{Row}
use Rattle.pure_print.specs.declared.row.RowStatus.TheVariants.{Proved}
use Rattle.pure_table.specs.Declare.Notes.{Fork}
use Rattle.pure_table.specs.Promise.Entries.{LemmaEntry}
use Rattle.pure_table.specs.SessionLaws.Loaded.{IsLoadedSession}
use Rattle.pure_table.specs.SessionMeaning.Statements.{forks_of}
use Rattle.pure_table.specs.Table.{Table, IsTable, table_rows}
use Rattle.pure_citations.specs.Cites.{Cites}
use Rattle.pure_citations.specs.Edges.{OfAxiom, OfLemma, Leads}
use Rattle.pure_citations.specs.Faults.{IsFaulty}
use Rattle.pure_citations.specs.Heads.{Picks}
use Rattle.pure_citations.specs.Listed.{IsDeclaredRow, IsListed, IsCitedFor, IsFaultFor}
use Rattle.pure_citations.specs.Without.{with_axioms}

-- The row declares the axiom or definition whose name this is.
abbrev pub Declares : (texts : List (List ℕ)) → (name : ℕ) → Row → Type 0
Declares texts name r = IsDeclaredRow texts (λ n. n ≡ name) r

-- Some row of the table declares each axiom or definition that a lemma cites.
abbrev pub CitedHaveRows : Type 0
CitedHaveRows = (S : Session) → IsLoadedSession S.names S.theories → (cancelled : List Label) (t : Table) → IsTable S cancelled t → (l : Label) (name : ℕ)
    → Cites S.names (forks_of t.notes) t.entries l name → (r : Row) × IsIn r (table_rows S t) × Declares S.names name r

-- The rows that are listed for the lemma with this full name.
abbrev pub IsListedFor : Session → Table → (name : List ℕ) → Row → Type 0
IsListedFor S t name r = IsListed S.names (IsCitedFor S.names (forks_of t.notes) t.entries name) (IsFaultFor S.names t.entries name) name r

-- The statement of each lemma whose row is printed as proved is derivable from the axioms and definitions that are listed for it and Pure's own alone: over its content without the theories' other axioms, whatever list has the names of those that listed rows declare.
abbrev pub ListedSuffice : Type 0
ListedSuffice = (S : Session) → IsLoadedSession S.names S.theories → (cancelled : List Label) (t : Table) → IsTable S cancelled t
    → EachTwo (λ (f : Fork) (row : Row). row.status ≡ Proved → (name : List ℕ) → HasText S.names f.name name → (listed : List Row) → Picks (IsListedFor S t name) (table_rows S t) listed
    → (names : List ℕ) → ((n : ℕ) → AnyOf (Declares S.names n) listed → IsIn n names) → IsDerivableAlone (with_axioms names f.content) f.prop) (forks_of t.notes) t.lemmas

-- Edges lead from the lemma with this full name to the axiom or the definition,
abbrev pub IsAxiomLedTo : Session → Table → (name : List ℕ) → (number : ℕ) → Type 0
IsAxiomLedTo S t name number = (e : LemmaEntry) × IsIn e t.entries × HasText S.names e.name name × Leads S.names (forks_of t.notes) t.entries (OfAxiom number) e.label

-- or to the failed lemma.
abbrev pub IsFaultLedTo : Session → Table → (name : List ℕ) → (number : ℕ) → Type 0
IsFaultLedTo S t name number = (e : LemmaEntry) × (g : LemmaEntry) × IsIn e t.entries × HasText S.names e.name name × IsIn g t.entries × IsFaulty g × Leads S.names (forks_of t.notes) t.entries (OfLemma g.label) e.label × (g.name ≡ number)

-- The rows that are listed for a lemma are just those of the axioms, the definitions and the failed lemmas of other names to which edges lead from it.
abbrev pub ListedAreLedTo : Type 0
ListedAreLedTo = (S : Session) → IsLoadedSession S.names S.theories → (cancelled : List Label) (t : Table) → IsTable S cancelled t → (name : List ℕ) (r : Row)
    → IsListedFor S t name r ↔ IsListed S.names (IsAxiomLedTo S t name) (IsFaultLedTo S t name) name r
