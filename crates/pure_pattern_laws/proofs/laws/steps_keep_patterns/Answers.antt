use Rattle.pure_pattern_laws.proofs.KeepLaws.{settings_are_patterns, steps_keep_patterns}
use Rattle.pure_pattern_laws.proofs.laws.steps_keep_patterns.Goals as goal

pub returns-clause-settings : goal.returns-clause-settings
returns-clause-settings c = settings_are_patterns

pub returns-clause-steps : goal.returns-clause-steps
returns-clause-steps c = steps_keep_patterns
