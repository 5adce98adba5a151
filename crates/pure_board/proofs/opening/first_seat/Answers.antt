use Rattle.std.proofs.Common.{refl}
use Rattle.pure_board.proofs.SeatLaws.{token-value}
use Rattle.pure_board.proofs.OpenLaws.{counts-seated}
use Rattle.pure_board.proofs.opening.first_seat.Goals as goal

pub invariant_of-result-2 : goal.invariant_of-result-2
invariant_of-result-2 g c = let f = c.requires.first in counts-seated _ _ _ _ _ _ f.0 f.1 _ f.2 f.3 f.4 f.5

pub returns-clause-seat : goal.returns-clause-seat
returns-clause-seat g c k o is = token-value _ _ _ _ _ _ k o refl is refl refl
