use Rattle.std.proofs.Common.{refl}
use Rattle.pure_pool.proofs.SeatedLaws.{fresh-hand}
use Rattle.pure_plays.proofs.plays.play_seat.Goals as goal

pub loop-i-init : goal.loop-i-init
loop-i-init g c = (record { plan = refl; opening = refl; number = refl }, fresh-hand _ _ _ _ _ c.args.seat.now c.known.ensures c.requires.fresh)
