use Rattle.std.proofs.Common.{sym}
use Rattle.pure_check.proofs.graphed.graph_of.Goals as goal

pub returns : goal.returns
returns c = (c.in_ok-text.ensures, sym c.are_good.ensures)
