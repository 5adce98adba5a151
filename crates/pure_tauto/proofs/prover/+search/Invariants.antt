use Rattle.std.proofs.Common.{◌+◌, ◌*◌}
use Rattle.pure_tauto.proofs.prover.+search.Given as goal

abbrev pub decreases-prove : goal.decreases-prove
decreases-prove g l = 5 * l.levels

abbrev pub decreases-prove_implication : goal.decreases-prove_implication
decreases-prove_implication g l = 5 * l.levels + 1

abbrev pub decreases-fulfilled_at : goal.decreases-fulfilled_at
decreases-fulfilled_at g l = 5 * l.levels + 2

abbrev pub decreases-fulfilled : goal.decreases-fulfilled
decreases-fulfilled g l = 5 * l.levels + 3

abbrev pub decreases-prove_other : goal.decreases-prove_other
decreases-prove_other g l = 5 * l.levels + 4
