use Rattle.pure_goal_laws.proofs.FactLaws.{assumption_step, rule_step, elimination_step, destruction_step, conversion_step}
use Rattle.pure_goal_laws.proofs.laws.steps_by_facts.Goals as goal

pub returns-clause-assumption : goal.returns-clause-assumption
returns-clause-assumption c = assumption_step

pub returns-clause-rule : goal.returns-clause-rule
returns-clause-rule c = rule_step

pub returns-clause-elimination : goal.returns-clause-elimination
returns-clause-elimination c = elimination_step

pub returns-clause-destruction : goal.returns-clause-destruction
returns-clause-destruction c = destruction_step

pub returns-clause-conversion : goal.returns-clause-conversion
returns-clause-conversion c = conversion_step
