use Rattle.pure_words.proofs.Answered.{all_are_read}
use Rattle.pure_words.proofs.laws.all_are_read.Goals as goal

pub returns : goal.returns
returns c = all_are_read
