use Rattle.pure_logic.proofs.NodeExamples.{beta_example, refl_example, subst_example, symmetric_example, ext_example, iff_example}
use Rattle.pure_logic.proofs.examples.equality_example.Goals as goal

pub returns-clause-beta : goal.returns-clause-beta
returns-clause-beta c = beta_example

pub returns-clause-refl : goal.returns-clause-refl
returns-clause-refl c = refl_example

pub returns-clause-subst : goal.returns-clause-subst
returns-clause-subst c = subst_example

pub returns-clause-ext : goal.returns-clause-ext
returns-clause-ext c = ext_example

pub returns-clause-iff : goal.returns-clause-iff
returns-clause-iff c = iff_example

pub returns-clause-symmetric : goal.returns-clause-symmetric
returns-clause-symmetric c = symmetric_example
