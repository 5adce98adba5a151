use Rattle.pure_lookup.proofs.MeaningLaws.{meaning_is_kept, local_changes_none, new_is_meant}
use Rattle.pure_lookup.proofs.laws.further_declaration.Goals as goal

pub returns-clause-kept : goal.returns-clause-kept
returns-clause-kept c = meaning_is_kept

pub returns-clause-local : goal.returns-clause-local
returns-clause-local c = local_changes_none

pub returns-clause-new : goal.returns-clause-new
returns-clause-new c texts Q s t own theory base text clean d space n other full new = new_is_meant texts Q s t own theory base text d space n other full new clean
