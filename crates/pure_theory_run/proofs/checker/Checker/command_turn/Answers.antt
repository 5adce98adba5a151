use Rattle.std.proofs.Common.{arith, ap}
use Rattle.std.proofs.lemmas.List.{length-map, nil_from_length}
use Rattle.pure_script.specs.Seen.{seen_command}
use Rattle.pure_session.specs.Waiting.{seen_loaded}
use Rattle.pure_session_meaning.specs.Declare.Seen.{seen_note, seen_notes}
use Rattle.pure_session_meaning.specs.Steps.{command_label}
use Rattle.pure_theory_run.proofs.CountLaws.{notes-some}
use Rattle.pure_theory_run.proofs.CommandLaws.{left-within, next-given, some-left, parts-left, turn-next}
use Rattle.pure_theory_run.proofs.ItemLaws.{left-here, place-here}
use Rattle.pure_theory_run.proofs.PlaceLaws.{place-few}
use Rattle.pure_theory_run.proofs.checker.Checker.command_turn.Goals as goal

pub next_place-place-requires : goal.next_place-place-requires
next_place-place-requires c =
    left-here c.args.theory.now.text.commands.items c.args.going.now.left (left-within c.args.self.now.texts c.args.self.now.theories c.args.index (seen_loaded c.args.theory.now) c.requires.theory c.requires.runs.0 c.args.going.now c.requires.runs.1)

pub declared-requires : goal.declared-requires
declared-requires c =
    let place = place-here c.args.theory.now.text.commands.items c.next_place-place.result c.args.going.now.left c.next_place-place.ensures in
    next-given c.args.self.now.texts c.args.self.now.theories c.args.index (seen_loaded c.args.theory.now) c.requires.theory c.is_loaded_session.ensures c.requires.runs.0 c.args.going.now c.next_place-place.result (seen_command c.args.command.now)
    c.requires.runs.1 place c.requires.command

pub go_on-requires-clause-left : goal.go_on-requires-clause-left
go_on-requires-clause-left c =
    some-left c.args.self.now.texts c.args.self.now.theories c.args.index (seen_loaded c.args.theory.now) c.requires.theory c.requires.runs.0 c.args.going.now (seen_command c.args.command.now) c.requires.runs.1 c.requires.command

pub go_on-requires-clause-parts : goal.go_on-requires-clause-parts
go_on-requires-clause-parts c =
    rw c.command_parts.ensures
    (parts-left c.args.self.now.texts c.args.self.now.theories c.args.index (seen_loaded c.args.theory.now) c.requires.theory c.requires.runs.0 c.args.going.now (seen_command c.args.command.now) c.requires.runs.1 c.requires.command)

pub next_note-requires-clause-some : goal.next_note-requires-clause-some
next_note-requires-clause-some c =
    let d = c.in_ok-declared.declared in
    let some = (notes-some c.args.self.now.texts c.args.theory.now.source (command_label c.args.index c.next_place-place.result) c.args.going.now.now.value (seen_command c.args.command.now) (seen_notes d.notes.items) d.stage.value c.in_ok-declared.ensures).0 in
    omega (arith, some, length-map d.notes.items seen_note, d.notes.ok, c.go_on.ensures.count)

pub returns-clause-turn : goal.returns-clause-turn
returns-clause-turn c = λ past going.
    let d = c.in_ok-declared.declared in
    let place = place-here c.args.theory.now.text.commands.items c.next_place-place.result c.args.going.now.left c.next_place-place.ensures in
    let none = nil_from_length c.args.going.now.waiting.items (omega (arith, c.args.going.now.waiting.ok.0, c.requires.none)) in
    turn-next c.args.self.now.texts c.args.self.now.theories c.args.index (seen_loaded c.args.theory.now) c.requires.theory past c.args.going.now c.go_on.new.going c.next_note.new.going (seen_command c.args.command.now) (seen_notes d.notes.items) d.stage.value
    c.next_place-place.result going none c.requires.command place c.in_ok-declared.ensures
    (record {
      rows = rw c.go_on.ensures.rows c.in_ok-reserve.ensures.items;
      now = c.go_on.ensures.now;
      left = c.go_on.ensures.left;
      parts = rw c.command_parts.ensures at c.go_on.ensures.parts;
      waiting = ap seen_notes c.go_on.ensures.waiting;
    })
    c.next_note.result c.next_note.ensures

pub overflow_cast-place : goal.overflow_cast-place
overflow_cast-place c =
    let place = place-here c.args.theory.now.text.commands.items c.next_place-place.result c.args.going.now.left c.next_place-place.ensures in
    omega (arith, place-few c.args.self.now.texts c.args.self.now.theories c.is_loaded_session.ensures c.args.index (seen_loaded c.args.theory.now) c.requires.theory _ (seen_command c.args.command.now) c.requires.command, place)
