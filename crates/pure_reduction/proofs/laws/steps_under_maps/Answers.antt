use Rattle.pure_reduction.proofs.MapLaws.{beta_steps_under_maps, eta_steps_under_maps}
use Rattle.pure_reduction.proofs.laws.steps_under_maps.Goals as goal

pub returns-clause-beta : goal.returns-clause-beta
returns-clause-beta c = beta_steps_under_maps

pub returns-clause-eta : goal.returns-clause-eta
returns-clause-eta c = eta_steps_under_maps
