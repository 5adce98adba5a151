use Rattle.pure_definitions.specs.Models.Equality.{typ_list-typs_of, typs_of-typ_list}
use Rattle.pure_term_laws.proofs.laws.typs_are_lists.Goals as goal

pub returns-clause-there : goal.returns-clause-there
returns-clause-there c = typ_list-typs_of

pub returns-clause-back : goal.returns-clause-back
returns-clause-back c = typs_of-typ_list
