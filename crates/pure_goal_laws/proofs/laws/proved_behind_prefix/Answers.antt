use Rattle.pure_goal_laws.proofs.PrefixLaws.{distributed, chain_behind, hypothesis_is_proved, further_hypothesis, equal_behind}
use Rattle.pure_goal_laws.proofs.laws.proved_behind_prefix.Goals as goal

pub returns-clause-implication : goal.returns-clause-implication
returns-clause-implication c = distributed

pub returns-clause-chain : goal.returns-clause-chain
returns-clause-chain c = chain_behind

pub returns-clause-hypothesis : goal.returns-clause-hypothesis
returns-clause-hypothesis c = hypothesis_is_proved

pub returns-clause-further : goal.returns-clause-further
returns-clause-further c = further_hypothesis

pub returns-clause-equal : goal.returns-clause-equal
returns-clause-equal c = equal_behind
