use Rattle.pure_citations.proofs.SufficeLaws.{listed_suffice, listed_are_led_to}
use Rattle.pure_citations.proofs.laws.listed_suffice.Goals as goal

pub returns-clause-suffice : goal.returns-clause-suffice
returns-clause-suffice c = listed_suffice

pub returns-clause-led : goal.returns-clause-led
returns-clause-led c = listed_are_led_to
