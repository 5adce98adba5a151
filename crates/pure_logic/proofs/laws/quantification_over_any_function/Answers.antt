use Rattle.pure_logic.proofs.EqualityLaws.{instance_of_function_is_proved, reduced_instance_is_proved}
use Rattle.pure_logic.proofs.QuantificationLaws.{reduced_instance_is_derivable}
use Rattle.pure_logic.proofs.laws.quantification_over_any_function.Goals as goal

pub returns-clause-applied : goal.returns-clause-applied
returns-clause-applied c = instance_of_function_is_proved

pub returns-clause-reduced : goal.returns-clause-reduced
returns-clause-reduced c = reduced_instance_is_proved

pub returns-clause-derivable : goal.returns-clause-derivable
returns-clause-derivable c = reduced_instance_is_derivable
