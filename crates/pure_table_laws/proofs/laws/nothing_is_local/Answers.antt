use Rattle.pure_table_laws.proofs.PromiseLaws.{promises_have_two_parts}
use Rattle.pure_table_laws.proofs.FirstLaws.{look_up_is_first, proof_is_first}
use Rattle.pure_table_laws.proofs.laws.nothing_is_local.Goals as goal

pub returns-clause-promises : goal.returns-clause-promises
returns-clause-promises c = promises_have_two_parts

pub returns-clause-look_ups : goal.returns-clause-look_ups
returns-clause-look_ups c = look_up_is_first

pub returns-clause-proofs : goal.returns-clause-proofs
returns-clause-proofs c = proof_is_first
