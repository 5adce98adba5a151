use Rattle.pure_logic.proofs.EqualityLaws.{reflexive_equality, symmetric_equality, transitive_equality, equals_are_replaced, equal_applications, equal_propositions, equal_is_proved, mark_means_nothing}
use Rattle.pure_logic.proofs.laws.equality_is_congruence.Goals as goal

pub returns-clause-reflexive : goal.returns-clause-reflexive
returns-clause-reflexive c = reflexive_equality

pub returns-clause-symmetric : goal.returns-clause-symmetric
returns-clause-symmetric c = symmetric_equality

pub returns-clause-transitive : goal.returns-clause-transitive
returns-clause-transitive c = transitive_equality

pub returns-clause-replaced : goal.returns-clause-replaced
returns-clause-replaced c = equals_are_replaced

pub returns-clause-applications : goal.returns-clause-applications
returns-clause-applications c = equal_applications

pub returns-clause-propositions : goal.returns-clause-propositions
returns-clause-propositions c = equal_propositions

pub returns-clause-proved : goal.returns-clause-proved
returns-clause-proved c = equal_is_proved

pub returns-clause-mark : goal.returns-clause-mark
returns-clause-mark c = mark_means_nothing
