use Rattle.std.proofs.Common.{◌-◌, length, arith}
use Rattle.std.proofs.lemmas.List.{nil_from_length}
use Rattle.pure_script.specs.Seen.{seen_commands}
use Rattle.pure_session.specs.Waiting.{seen_loaded}
use Rattle.pure_theory_run.proofs.CommandLaws.{left-within, last-made}
use Rattle.pure_theory_run.proofs.ItemLaws.{left-here, place-here, command-here, no-command}
use Rattle.pure_theory_run.proofs.checker.Checker.next_turn.Goals as goal

pub next_place-requires : goal.next_place-requires
next_place-requires c =
    left-here c.theory-theory.result.now.text.commands.items c.args.going.now.left
    (left-within c.args.self.now.texts c.args.self.now.theories c.args.index (seen_loaded c.theory-theory.result.now) c.theory-theory.ensures c.requires.runs.0 c.args.going.now c.requires.runs.1)

pub command_turn-requires-clause-command : goal.command_turn-requires-clause-command
command_turn-requires-clause-command c =
    let items = c.theory-theory.result.now.text.commands.items in
    let place = place-here items c.next_place.result c.args.going.now.left c.next_place.ensures in
    command-here c.deref.result.now items c.next_place.result (length (seen_commands items) - c.args.going.now.left) c.in-Some.command.now c.deref.ensures.value place c.in-Some.ensures.lookup.3.0 c.in-Some.ensures.lookup.1

pub returns-in-None-clause-turn : goal.returns-in-None-clause-turn
returns-in-None-clause-turn c =
    let items = c.theory-theory.result.now.text.commands.items in
    let place = place-here items c.next_place.result c.args.going.now.left c.next_place.ensures in
    let none = nil_from_length c.args.going.now.waiting.items (omega (arith, c.args.going.now.waiting.ok.0, c.requires.none)) in
    last-made c.args.self.now.texts c.args.self.now.theories c.args.index (seen_loaded c.theory-theory.result.now) c.theory-theory.ensures c.args.going.now c.last_turn.new.going none
    (no-command c.deref.result.now items c.next_place.result (length (seen_commands items) - c.args.going.now.left) c.deref.ensures.value place c.in-None.ensures.lookup.3) c.last_turn.result c.last_turn.ensures.turn
