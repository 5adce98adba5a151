-- What a theory leaves when it closes: the row by which it was refused, or the rows of its commands, with a hole at each lemma and have, and its last content.
use Rattle.std.specs.Prelude.{List, [], ◌∷◌, map, Bool, true, false, Option, Some, None}
use Rattle.std.specs.declared.alloc.Global.{Global}
use Rattle.std.specs.declared.sync.Arc.{Arc}
use Rattle.pure_logic.specs.Content.{Content}
use Rattle.pure_print.specs.declared.row.Row.{Row}
use Rattle.pure_session_meaning.specs.Declare.Notes.{Note, Said, Forked}
use Rattle.pure_session_meaning.specs.Verdicts as verdicts
use Rattle.pure_session_meaning.specs.Verdicts.{Verdict}

pub data Outline : Type 0 where
  Barred : (row : Row) → Outline
  Ran : (rows : List (Option Row)) → (last : Content) → Outline

-- the row that a note is; that of a lemma or have comes of its proof
abbrev pub row_of : Note → Option Row
row_of (Said row) = Some row
row_of (Forked fork) = None

-- the rows that notes are, in order
abbrev pub rows_of : List Note → List (Option Row)
rows_of = map row_of

-- what is left of what became of a theory, when its lemmas and haves have moved on to be proved
abbrev pub outline : Verdict → Outline
outline (verdicts.Barred row) = Barred row
outline (verdicts.Ran notes last) = Ran (rows_of notes) last

-- the outlines behind pointers
abbrev pub outlines : List (Arc Outline Global) → List Outline
outlines = map (λ p. p.value)

-- whether the theory was refused when it began
abbrev pub is_barred : Outline → Bool
is_barred (Barred row) = true
is_barred (Ran rows last) = false

-- the last content of a theory that ran
abbrev pub last_of : Outline → Option Content
last_of (Barred row) = None
last_of (Ran rows last) = Some last

-- the row of a theory that was refused
abbrev pub refusal_of : Outline → Option Row
refusal_of (Barred row) = Some row
refusal_of (Ran rows last) = None

-- the rows of the commands of a theory that ran
abbrev pub command_rows : Outline → List (Option Row)
command_rows (Barred row) = []
command_rows (Ran rows last) = rows

-- the last contents of those that ran, in their order
abbrev pub lasts : List Outline → List Content
lasts [] = []
lasts (Barred row ∷ os) = lasts os
lasts (Ran rows last ∷ os) = last ∷ lasts os
