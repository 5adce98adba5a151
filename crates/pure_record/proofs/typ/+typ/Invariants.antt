use Rattle.std.proofs.Common.{◌+◌, ◌*◌}
use Rattle.pure_record.proofs.typ.+typ.Given as goal

abbrev pub decreases-typ : goal.decreases-typ
decreases-typ l = 2 * l.room

abbrev pub decreases-arguments : goal.decreases-arguments
decreases-arguments l = 2 * l.room + 1

abbrev pub decreases-some_arguments : goal.decreases-some_arguments
decreases-some_arguments l = 2 * l.room

abbrev pub decreases-more_arguments : goal.decreases-more_arguments
decreases-more_arguments l = 2 * l.room
