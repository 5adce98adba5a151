use Rattle.std.proofs.Common.{sym, arith}
use Rattle.pure_eta.proofs.StaysLaws.{not_loose-above}
use Rattle.pure_eta.proofs.eta.+is_loose_at.Goals as goal

pub returns-then-loose_above_of-place : goal.returns-then-loose_above_of-place
returns-then-loose_above_of-place t c = sym (not_loose-above c.args.place c.args.t.now (omega arith))
