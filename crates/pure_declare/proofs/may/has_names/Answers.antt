use Rattle.pure_script.specs.Seen.{seen_command}
use Rattle.pure_text.proofs.AnswerLaws.{no_as}
use Rattle.pure_declare.proofs.MayLaws.{no-own}
use Rattle.pure_declare.proofs.may.has_names.Goals as goal

pub returns-in-None : goal.returns-in-None
returns-in-None c = no_as _ (no-own c.args.names.now c.args.stage.now.value (seen_command c.args.command.now) (rw c.deref.ensures at c.in-None.ensures))

pub returns-in_ok-has-in-Some : goal.returns-in_ok-has-in-Some
returns-in_ok-has-in-Some c = rw c.names.ensures at c.in_ok-has-in-Some.ensures c.args.stage.now.value (rw c.deref.ensures at c.in-Some.ensures)
