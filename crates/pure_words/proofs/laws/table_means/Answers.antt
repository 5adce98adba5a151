use Rattle.pure_words.proofs.Tables.{table_means}
use Rattle.pure_words.proofs.laws.table_means.Goals as goal

pub returns : goal.returns
returns c = table_means
