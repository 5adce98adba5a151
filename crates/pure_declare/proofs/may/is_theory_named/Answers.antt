use Rattle.pure_script.specs.Seen.{seen_command}
use Rattle.pure_text.proofs.AnswerLaws.{no_as}
use Rattle.pure_declare.proofs.MayLaws.{own-unnamed, own-named}
use Rattle.pure_declare.proofs.may.is_theory_named.Goals as goal

pub returns-in-None : goal.returns-in-None
returns-in-None c Q is = no_as _ (own-unnamed c.args.names.now Q c.args.own is (seen_command c.args.command.now) c.in-None.ensures)

pub returns-in_ok-has-in-Some : goal.returns-in_ok-has-in-Some
returns-in_ok-has-in-Some c Q is = own-named c.args.names.now Q c.args.own is (seen_command c.args.command.now) c.in-Some.theory.now c.in_ok-has-in-Some.has c.in-Some.ensures c.in_ok-has-in-Some.ensures
