use Rattle.std.proofs.Common.{arith}
use Rattle.pure_pattern_rules.proofs.SelectionLaws.{none_at}
use Rattle.pure_pattern_rules.proofs.applied.+bound_at.Goals as goal

pub returns-then-count-eq0 : goal.returns-then-count-eq0
returns-then-count-eq0 t c = none_at c.args.z c.args.count c.args.ws.now (omega arith)
