use Rattle.std.proofs.Common.{◌-◌, length}
use Rattle.pure_resolve.proofs.trial.+tried_from.Given as goal

abbrev pub decreases-tried_from : goal.decreases-tried_from
decreases-tried_from g l = length l.trial.now.items.now - l.from
