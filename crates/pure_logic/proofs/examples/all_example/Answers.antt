use Rattle.pure_logic.proofs.NodeExamples.{all_intro_example, no_all_intro_example, all_elim_example, no_all_elim_example}
use Rattle.pure_logic.proofs.examples.all_example.Goals as goal

pub returns-clause-intro : goal.returns-clause-intro
returns-clause-intro c = all_intro_example

pub returns-clause-no_intro : goal.returns-clause-no_intro
returns-clause-no_intro c = no_all_intro_example

pub returns-clause-elim : goal.returns-clause-elim
returns-clause-elim c = all_elim_example

pub returns-clause-no_elim : goal.returns-clause-no_elim
returns-clause-no_elim c = no_all_elim_example
