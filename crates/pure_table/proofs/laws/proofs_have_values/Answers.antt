use Rattle.pure_table.proofs.ThereLaws.{proofs_have_values as have}
use Rattle.pure_table.proofs.laws.proofs_have_values.Goals as goal

pub returns : goal.returns
returns c = have
