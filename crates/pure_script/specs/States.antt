-- The states of the reader, as contracts see them.
use Rattle.std.specs.Prelude.{◌≡◌, Bool, true, false, List, Option, Some, None}
use Rattle.pure_grammar.specs.Theories.TheoryText.{Command}
use Rattle.pure_grammar.specs.Theories.Reader as spec
use Rattle.pure_script.specs.Seen.{seen_commands, seen_theory}
use Rattle.pure_script.specs.Places.{seen_place}
use Rattle.pure_script.specs.declared.theory.TheoryText.{TheoryText}
use Rattle.pure_script.specs.declared.state.Header.{Header}
use Rattle.pure_script.specs.declared.state.State.{State}
use Rattle.pure_script.specs.declared.state.State.TheVariants.{InFront, InBody}
use Rattle.pure_script.specs.declared.state.Front.{Front}
use Rattle.pure_script.specs.declared.state.Front.TheVariants.{AtStart, AtVersion, AfterVersion, AtTheoryName, AfterTheoryName, AtImport, AfterImport}

abbrev pub seen_header : Header → spec.Header
seen_header h = record { version = h.version; name = h.name; imports = h.imports }

abbrev pub seen_front : Front → spec.State
seen_front AtStart = spec.AtStart
seen_front AtVersion = spec.AtVersion
seen_front (AfterVersion version) = spec.AfterVersion version
seen_front (AtTheoryName version) = spec.AtTheoryName version
seen_front (AfterTheoryName version name) = spec.AfterTheoryName version name
seen_front (AtImport version name) = spec.AtImport version name
seen_front (AfterImport header) = spec.AfterImport (seen_header header)

abbrev pub seen_state : State → spec.State
seen_state (InFront front) = seen_front front
seen_state (InBody header commands place) = spec.InBody (seen_header header) (seen_commands commands.items) (seen_place place)

abbrev pub seen_next : Option State → Option spec.State
seen_next None = None
seen_next (Some state) = Some (seen_state state)

abbrev pub seen_end : Option TheoryText → Option spec.State
seen_end None = None
seen_end (Some theory) = Some (spec.AtLast (seen_theory theory))

-- Where a token goes on, the state behind it is this one; else there is none.
abbrev pub IsNext : Bool → spec.State → Option spec.State → Type 0
IsNext true behind next = next ≡ Some behind
IsNext false behind next = next ≡ None

-- Where a turn goes on, it leads from the old commands to these and to this place; else it refuses.
abbrev pub IsLed : Bool → List Command → spec.Place → List Command → spec.Turn → Type 0
IsLed true commands place old turn = (h : spec.Header) → spec.body_state h old turn ≡ Some (spec.InBody h commands place)
IsLed false commands place old turn = turn ≡ spec.Refuses

-- Where a token is one import more, it leads to the new place; else the place is the old one.
abbrev pub IsImport : Bool → Front → Front → Option spec.State → Type 0
IsImport true new old next = next ≡ Some (seen_front new)
IsImport false new old next = new ≡ old
