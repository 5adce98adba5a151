use Rattle.std.proofs.Common.{◌+◌, ◌*◌}
use Rattle.pure_rewrite.proofs.rewriting.+rewriting.Given as goal

abbrev pub decreases-rewritten : goal.decreases-rewritten
decreases-rewritten l = 2 * l.levels

abbrev pub decreases-rewritten_body : goal.decreases-rewritten_body
decreases-rewritten_body l = 2 * l.levels + 1
