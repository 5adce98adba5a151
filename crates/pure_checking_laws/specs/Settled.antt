-- States of a session's runs, and which of their labels are joined.
use Rattle.std.specs.Prelude.{ℕ, List, map}
use Rattle.pure_definitions.specs.Names.{Label}
use Rattle.pure_graph.specs.Order.{Loaded}
use Rattle.pure_check_work.specs.Declare.Notes.{Fork}
use Rattle.pure_check_work.specs.Method.Outcome.{IsOutcomeOf}
use Rattle.pure_check_work.specs.Method.declared.outcome.Outcome.{Outcome}
use Rattle.pure_check_work.specs.Promise.Entries.{plain}
use Rattle.pure_check_work.specs.Promise.Joining.{IsJoined}
use Rattle.pure_check_work.specs.TheoryRun.Outline.{Outline}
use Rattle.pure_machine.specs.State.{State}
use Rattle.pure_core.specs.Legal.{IsLegal}
use Rattle.pure_check_work.specs.Relations.{shape_of, ForksAfter, ClosesAfter, is_fault}
use Rattle.pure_check_work.specs.Cancelled.{lemmas_of, entries_of}

-- The state is that of a legal run of the session.
abbrev pub IsReached : (texts : List (List ℕ)) → (theories : List Loaded) → State Fork Outline Outcome → Type 0
IsReached texts theories s = IsLegal (shape_of theories) (ForksAfter texts theories) (ClosesAfter texts theories) (IsOutcomeOf texts) is_fault s

-- the labels of the lemmas that were forked, in the order of their promises' numbers
abbrev pub forked_labels : State Fork Outline Outcome → List Label
forked_labels s = map Fork.label (lemmas_of s.promises)

-- A label is joined in a state where its promise is settled by a proof, and so is that of every label that it reaches: those on which the proof rests and, through proofs that settle them, what these reach.
abbrev pub IsJoinedLabel : State Fork Outline Outcome → Label → Type 0
IsJoinedLabel s l = IsJoined (map plain (entries_of s.promises)) l
