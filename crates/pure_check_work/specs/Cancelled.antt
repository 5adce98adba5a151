-- The lemmas of promises: which are cancelled, and their entries.
use Rattle.std.specs.Prelude.{◌≡◌, List, map, filter, Option, Some, None, Ok, Err}
use Rattle.pure_definitions.specs.Names.{Label}
use Rattle.pure_table.specs.Declare.Notes.{Fork}
use Rattle.pure_table.specs.Method.Proof.{ProofOutcome}
use Rattle.pure_table.specs.Method.declared.outcome.Outcome.{Outcome}
use Rattle.pure_table.specs.Method.declared.outcome.Outcome.TheVariants.{Proved, Fault}
use Rattle.pure_table.specs.Promise.Entries.{LemmaEntry}
use Rattle.pure_table.specs.Promise.Seen.{seen_entry}
use Rattle.pure_table.specs.Promise.declared.entry.Entry as code
use Rattle.pure_table.specs.Promise.declared.entry.Own.{Own}
use Rattle.pure_table.specs.Promise.declared.entry.Own.TheVariants as own
use Rattle.pure_table.specs.Fulfilled as fulfilled
use Rattle.pure_machine.specs.State.{Promise, Standing, Settled}
use Rattle.pure_machine.specs.Step.{is_cancelled_standing}

-- the lemmas that were promised
abbrev pub lemmas_of : List (Promise Fork Outcome) → List Fork
lemmas_of = map (λ (p : Promise Fork Outcome). p.goal)

-- the labels of those that are cancelled
abbrev pub cancelled_labels : List (Promise Fork Outcome) → List Label
cancelled_labels promises = map (λ (p : Promise Fork Outcome). (p.goal).label) (filter (λ (p : Promise Fork Outcome). is_cancelled_standing p.standing) promises)

-- what a proof came to: of a theorem the promises on which it rests, or the step that failed
abbrev pub seen_outcome : Outcome → ProofOutcome
seen_outcome (Proved c) = Ok c.theorem.rests
seen_outcome (Fault step fault) = Err (record { step = step; fault = fault })

-- what became of a lemma: what its proof came to where its promise is settled, and else nothing
abbrev pub own_of : Standing Outcome → Option ProofOutcome
own_of (Settled outcome) = Some (seen_outcome outcome)
own_of _ = None

-- the lemma's entry
abbrev pub entry_of : Promise Fork Outcome → LemmaEntry
entry_of p = record { label = (p.goal).label; name = (p.goal).name; prop = (p.goal).prop; own = own_of p.standing }

abbrev pub entries_of : List (Promise Fork Outcome) → List LemmaEntry
entries_of = map entry_of

-- what became of a lemma, as the program holds it: what its proof came to where its promise is settled, and else it is cancelled
abbrev pub held_own : Standing Outcome → Own
held_own (Settled outcome) = fulfilled.own_of outcome
held_own _ = own.Cancelled

-- The entry, as the program holds it, is that of the promise's lemma.
pub record IsHeldOf (p : Promise Fork Outcome) (e : code.Entry) : Type 0 where
  pub seen : seen_entry e ≡ entry_of p
  pub own : e.own ≡ held_own p.standing
