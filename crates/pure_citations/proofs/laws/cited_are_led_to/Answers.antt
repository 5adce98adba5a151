use Rattle.pure_citations.proofs.EdgeLaws.{cited_are_led_to as axioms, reached_are_led_to as lemmas}
use Rattle.pure_citations.proofs.laws.cited_are_led_to.Goals as goal

pub returns-clause-axioms : goal.returns-clause-axioms
returns-clause-axioms c = axioms

pub returns-clause-lemmas : goal.returns-clause-lemmas
returns-clause-lemmas c = lemmas
