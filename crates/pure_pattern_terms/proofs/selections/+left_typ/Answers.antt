use Rattle.pure_pattern_terms.proofs.SelectionLaws.{left-range}
use Rattle.pure_pattern_terms.proofs.selections.+left_typ.Goals as goal

pub returns-in_default : goal.returns-in_default
returns-in_default t c = left-range c.copy.result c.args.zs.now c.args.ws.now c.args.typ.now c.in_default.ensures (rw c.range_of.ensures at c.copy.ensures)
