use Rattle.pure_unify_laws.proofs.SolvedLaws.{settings_respect, settings_equate}
use Rattle.pure_unify_laws.proofs.SortLaws.{settings_respect_sorts}
use Rattle.pure_unify_laws.proofs.laws.settings_equate.Goals as goal

pub returns-clause-sorts : goal.returns-clause-sorts
returns-clause-sorts c = settings_respect_sorts

pub returns-clause-respect : goal.returns-clause-respect
returns-clause-respect c = settings_respect

pub returns-clause-equate : goal.returns-clause-equate
returns-clause-equate c = settings_equate
