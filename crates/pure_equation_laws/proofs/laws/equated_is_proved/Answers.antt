use Rattle.pure_equation_laws.proofs.EquatedLaws.{equated_is_proved, equated_proposition_is_proved}
use Rattle.pure_equation_laws.proofs.PairsLaws.{proposition_is_replaced, pairs_are_replaced}
use Rattle.pure_equation_laws.proofs.laws.equated_is_proved.Goals as goal

pub returns-clause-equal : goal.returns-clause-equal
returns-clause-equal c = equated_is_proved

pub returns-clause-proposition : goal.returns-clause-proposition
returns-clause-proposition c = equated_proposition_is_proved

pub returns-clause-replaced : goal.returns-clause-replaced
returns-clause-replaced c = proposition_is_replaced

pub returns-clause-pairs : goal.returns-clause-pairs
returns-clause-pairs c = pairs_are_replaced
