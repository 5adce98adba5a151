use Rattle.pure_term_laws.proofs.EtaLaws.{eta_example as example, long_form_example, two_arrows_example}
use Rattle.pure_term_laws.proofs.laws.eta_example.Goals as goal

pub returns-clause-eta : goal.returns-clause-eta
returns-clause-eta c = example

pub returns-clause-long : goal.returns-clause-long
returns-clause-long c = long_form_example

pub returns-clause-two_arrows : goal.returns-clause-two_arrows
returns-clause-two_arrows c = two_arrows_example
