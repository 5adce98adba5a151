use Rattle.pure_reduction.proofs.MapLaws.{long_form_under_map as kept}
use Rattle.pure_norm.proofs.laws.long_form_under_map.Goals as goal

pub returns : goal.returns
returns c = kept
