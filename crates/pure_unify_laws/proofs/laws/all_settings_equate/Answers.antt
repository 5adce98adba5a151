use Rattle.pure_unify_laws.proofs.RespectLaws.{all_settings_respect, all_settings_equate}
use Rattle.pure_unify_laws.proofs.laws.all_settings_equate.Goals as goal

pub returns-clause-respect : goal.returns-clause-respect
returns-clause-respect c = all_settings_respect

pub returns-clause-equate : goal.returns-clause-equate
returns-clause-equate c = all_settings_equate
