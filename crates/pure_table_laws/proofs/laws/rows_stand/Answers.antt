use Rattle.pure_table_laws.proofs.StandingLaws.{rows_stand as stand, rows_stay_in_place}
use Rattle.pure_table_laws.proofs.laws.rows_stand.Goals as goal

pub returns-clause-rows : goal.returns-clause-rows
returns-clause-rows c = stand

pub returns-clause-places : goal.returns-clause-places
returns-clause-places c = rows_stay_in_place
