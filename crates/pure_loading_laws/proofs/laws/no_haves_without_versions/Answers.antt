use Rattle.pure_loading_laws.proofs.PlainLaws.{no_haves_without_versions as none}
use Rattle.pure_loading_laws.proofs.laws.no_haves_without_versions.Goals as goal

pub returns : goal.returns
returns c = none
