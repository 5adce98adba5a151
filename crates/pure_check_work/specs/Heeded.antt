-- The lemmas of a session as a policy sees them, by their entries.
use Rattle.std.specs.Prelude.{◌≡◌, ℕ, Bool, true, false, List, map, Option, Some, None, Ok, Err}
use Rattle.std.specs.List.{filter_map}
use Rattle.pure_definitions.specs.Names.{Label}
use Rattle.pure_graph.specs.Order.{Loaded}
use Rattle.pure_table.specs.Declare.Notes.{Fork}
use Rattle.pure_table.specs.Method.Proof.{ProofOutcome}
use Rattle.pure_table.specs.Method.declared.outcome.Outcome.{Outcome}
use Rattle.pure_table.specs.Promise.Entries.{LemmaEntry}
use Rattle.pure_table.specs.SessionLaws.Loaded.{IsLoadedSession}
use Rattle.pure_table.specs.TheoryRun.Checked.{Checked}
use Rattle.pure_table.specs.TheoryRun.Outline.{Outline}
use Rattle.pure_machine.specs.Policy.{Policy}
use Rattle.pure_machine.specs.State.{Promise}
use Rattle.pure_core_end.specs.Promises.{AreInOrder}
use Rattle.pure_policy_laws.specs.Heeded.{Lot, IsHeeded}
use Rattle.pure_board.specs.Boards.{Ending}
use Rattle.pure_check_work.specs.Boards.{IsBoardOf}
use Rattle.pure_check_work.specs.Cancelled.{cancelled_labels, entries_of}

-- whether the lemma is cancelled, by what became of it
abbrev pub is_gone : Option ProofOutcome → Bool
is_gone None = true
is_gone (Some outcome) = false

-- whether its proof is at fault
abbrev pub is_at_fault : Option ProofOutcome → Bool
is_at_fault None = false
is_at_fault (Some (Ok labels)) = false
is_at_fault (Some (Err fault)) = true

-- the lemma of an entry, as a policy sees it
abbrev pub lot_of : LemmaEntry → Lot
lot_of e = record { theory = e.label.theory; gone = is_gone e.own; fault = is_at_fault e.own }

-- the label, where the lemma is cancelled
abbrev pub label_if_gone : Label → Option ProofOutcome → Option Label
label_if_gone label None = Some label
label_if_gone label (Some outcome) = None

-- the label of an entry whose lemma is cancelled
abbrev pub gone_label : LemmaEntry → Option Label
gone_label e = label_if_gone e.label e.own

-- the labels of the lemmas that are cancelled
abbrev pub gone_labels : List LemmaEntry → List Label
gone_labels entries = filter_map gone_label entries

-- Of the board on which a loaded session was checked, the promises, in load order, are cancelled as its policy asks for; and those that are cancelled are the ones whose entries say so.
abbrev pub SessionIsHeeded : Type 0
SessionIsHeeded = (texts : List (List ℕ)) (theories : List Loaded) → IsLoadedSession texts theories → (policy : Policy) (workers : ℕ) (board : Ending Checked Fork Outline Outcome) → IsBoardOf texts theories policy workers board
    → (ordered : List (Promise Fork Outcome)) → AreInOrder board.core.promises ordered
    → IsHeeded policy workers (map lot_of (entries_of ordered)) × (gone_labels (entries_of ordered) ≡ cancelled_labels ordered)
