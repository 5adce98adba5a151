use Rattle.std.proofs.Common.{refl, sym}
use Rattle.pure_check.proofs.formed.with_rows.Goals as goal

pub returns : goal.returns
returns c = (refl, sym c.are_good.ensures)
