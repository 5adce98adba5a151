use Rattle.pure_table_laws.proofs.FirstLaws.{table_is_first as first, table_without_versions, text_without_versions}
use Rattle.pure_table_laws.proofs.laws.table_is_first.Goals as goal

pub returns-clause-sessions : goal.returns-clause-sessions
returns-clause-sessions c = first

pub returns-clause-answers : goal.returns-clause-answers
returns-clause-answers c = table_without_versions

pub returns-clause-texts : goal.returns-clause-texts
returns-clause-texts c = text_without_versions
