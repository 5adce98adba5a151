use Rattle.std.proofs.Common.{◌+◌, ◌-◌, ◌*◌}
use Rattle.pure_session.proofs.names.+halves.Given as goal

abbrev pub decreases-first : goal.decreases-first
decreases-first g l = 2 * l.half + 1

abbrev pub decreases-second : goal.decreases-second
decreases-second g l = 2 * (l.number - l.half) + 1

abbrev pub decreases-texts_beside : goal.decreases-texts_beside
decreases-texts_beside g l = 2 * l.number
