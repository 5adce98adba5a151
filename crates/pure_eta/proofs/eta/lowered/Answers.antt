use Rattle.std.proofs.Common.{sym}
use Rattle.pure_eta.proofs.BareLaws.{lower_by-zero}
use Rattle.pure_eta.proofs.eta.lowered.Goals as goal

pub returns-then-bare-eq0 : goal.returns-then-bare-eq0
returns-then-bare-eq0 c = rw c.if-bare-eq0.true (sym (lower_by-zero 0 c.args.bare.term.value))
