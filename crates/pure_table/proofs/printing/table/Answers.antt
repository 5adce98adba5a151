use Rattle.std.proofs.Common.{[]}
use Rattle.pure_table.proofs.printing.table.Goals as goal

pub returns : goal.returns
returns c S cancelled parts = (let t = c.in_ok-put_table.ensures S cancelled parts in (t.0, t.1, t.2, t.3 [] c.new-rows.ensures.items))
