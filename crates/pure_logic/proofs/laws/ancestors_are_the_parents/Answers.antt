use Rattle.pure_logic.proofs.AncestorLaws.{ancestors_are_the_parents as parents, ancestors_have_no_repeats, beginning_has_theories_apart, theories_are_told_apart, pure_has_theories_apart}
use Rattle.pure_logic.proofs.laws.ancestors_are_the_parents.Goals as goal

pub returns-clause-parents : goal.returns-clause-parents
returns-clause-parents c = parents

pub returns-clause-distinct : goal.returns-clause-distinct
returns-clause-distinct c = ancestors_have_no_repeats

pub returns-clause-apart : goal.returns-clause-apart
returns-clause-apart c = beginning_has_theories_apart

pub returns-clause-own : goal.returns-clause-own
returns-clause-own c = theories_are_told_apart

pub returns-clause-pure : goal.returns-clause-pure
returns-clause-pure c = pure_has_theories_apart
