use Rattle.pure_equation_laws.proofs.KeptLaws.{equated_of_lift, equated_in_scope, equated_of_instance, equated_modulo_others}
use Rattle.pure_equation_laws.proofs.NodesLaws.{equated_of_subst}
use Rattle.pure_equation_laws.proofs.laws.equated_is_kept.Goals as goal

pub returns-clause-lifted : goal.returns-clause-lifted
returns-clause-lifted c = equated_of_lift

pub returns-clause-scope : goal.returns-clause-scope
returns-clause-scope c = equated_in_scope

pub returns-clause-instantiated : goal.returns-clause-instantiated
returns-clause-instantiated c = equated_of_subst

pub returns-clause-mapped : goal.returns-clause-mapped
returns-clause-mapped c = equated_of_instance

pub returns-clause-others : goal.returns-clause-others
returns-clause-others c = equated_modulo_others
