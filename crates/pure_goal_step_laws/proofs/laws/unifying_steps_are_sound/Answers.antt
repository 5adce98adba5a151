use Rattle.pure_unify_answers.proofs.SolveLaws.{unifier_solves}
use Rattle.pure_goal_step_laws.proofs.UnifiedLaws.{rule_is_sound, elimination_is_sound, destruction_is_sound, assumption_is_sound}
use Rattle.pure_goal_step_laws.proofs.laws.unifying_steps_are_sound.Goals as goal

pub returns-clause-rule : goal.returns-clause-rule
returns-clause-rule c Q k = rule_is_sound Q k unifier_solves

pub returns-clause-elimination : goal.returns-clause-elimination
returns-clause-elimination c Q k = elimination_is_sound Q k unifier_solves

pub returns-clause-destruction : goal.returns-clause-destruction
returns-clause-destruction c Q k = destruction_is_sound Q k unifier_solves

pub returns-clause-assumption : goal.returns-clause-assumption
returns-clause-assumption c Q k = assumption_is_sound Q k unifier_solves
