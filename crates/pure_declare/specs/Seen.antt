-- What the program answers for a command and for a part of one, as the definitions see it.
use Rattle.std.specs.Prelude.{List, map}
use Rattle.pure_declare.specs.declared.notes.Note.{Note}
use Rattle.pure_declare.specs.declared.notes.Note.TheVariants as code
use Rattle.pure_declare.specs.declared.notes.PartOutcome.{PartOutcome}
use Rattle.pure_declare.specs.Notes as notes
use Rattle.pure_declare.specs.Notes.{Said, Forked, Outcome}

abbrev pub seen_note : Note → notes.Note
seen_note (code.Row row) = Said row
seen_note (code.Forked duty) = Forked duty

abbrev pub seen_notes : List Note → List notes.Note
seen_notes = map seen_note

abbrev pub seen_outcome : PartOutcome → Outcome
seen_outcome d = record { note = seen_note d.note; next = d.stage.value }
