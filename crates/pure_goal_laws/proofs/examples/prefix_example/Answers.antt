use Rattle.std.proofs.Common.{refl}
use Rattle.pure_goal_laws.proofs.StrippingLaws.{stripped_example}
use Rattle.pure_goal_laws.proofs.examples.prefix_example.Goals as goal

pub returns-clause-prefix : goal.returns-clause-prefix
returns-clause-prefix c = (refl, refl, refl)

pub returns-clause-lifted : goal.returns-clause-lifted
returns-clause-lifted c = (refl, refl, refl, refl)

pub returns-clause-stripped : goal.returns-clause-stripped
returns-clause-stripped c = stripped_example
