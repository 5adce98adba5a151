use Rattle.pure_reduction.proofs.MapLaws.{long_form_under_map, same_under_maps}
use Rattle.pure_reduction.proofs.laws.long_forms_under_maps.Goals as goal

pub returns-clause-map : goal.returns-clause-map
returns-clause-map c = long_form_under_map

pub returns-clause-two : goal.returns-clause-two
returns-clause-two c = same_under_maps
