use Rattle.pure_script.specs.Seen.{seen_command}
use Rattle.pure_declare.specs.Seen.{seen_notes, seen_outcome}
use Rattle.pure_declare.proofs.DeclareSteps.{whole-declares}
use Rattle.pure_declare.proofs.command.whole_declared.Goals as goal

pub returns : goal.returns
returns c =
    whole-declares c.args.place.now c.requires.own c.requires.first (seen_command c.args.command.now) c.requires.kind (seen_outcome c.in_ok-outcome.outcome) c.in_ok-outcome.ensures
    (seen_notes c.in_ok-declared.declared.notes.items) c.in_ok-declared.declared.stage.value c.in_ok-declared.ensures.notes c.in_ok-declared.ensures.next
