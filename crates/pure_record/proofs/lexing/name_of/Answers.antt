use Rattle.pure_record.proofs.NumberLemmas.{number-found}
use Rattle.pure_record.proofs.lexing.name_of.Goals as goal

pub returns-in-Some : goal.returns-in-Some
returns-in-Some c = number-found c.args.names.now c.args.text.now c.in-Some.name c.are_session_texts.ensures c.in-Some.ensures
