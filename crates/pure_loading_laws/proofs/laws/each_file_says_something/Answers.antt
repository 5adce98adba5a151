use Rattle.pure_loading_laws.proofs.OutcomeLaws.{file-says}
use Rattle.pure_loading_laws.proofs.laws.each_file_says_something.Goals as goal

pub returns : goal.returns
returns c = file-says
