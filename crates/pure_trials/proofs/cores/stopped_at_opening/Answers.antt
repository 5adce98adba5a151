use Rattle.std.proofs.Common.{refl}
use Rattle.pure_trials.proofs.OpeningLaws.{opening-stops}
use Rattle.pure_trials.proofs.cores.stopped_at_opening.Goals as goal

pub stop-requires : goal.stop-requires
stop-requires c = opening-stops c.in_ok-core.core (record { shape = c.args.shape.items; policy = c.args.policy; workers = 1 }) c.in_ok-core.ensures.opened refl
