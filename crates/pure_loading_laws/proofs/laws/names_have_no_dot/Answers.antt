use Rattle.pure_loading_laws.proofs.PlainLaws.{texts_are_plain, loaded_are_plain}
use Rattle.pure_loading_laws.proofs.laws.names_have_no_dot.Goals as goal

pub returns-clause-texts : goal.returns-clause-texts
returns-clause-texts c = texts_are_plain

pub returns-clause-loaded : goal.returns-clause-loaded
returns-clause-loaded c = loaded_are_plain
