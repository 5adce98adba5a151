use Rattle.pure_board.proofs.OpenLaws.{opened-with}
use Rattle.pure_board.proofs.opening.all_opened.Goals as goal

pub returns-clause-seats : goal.returns-clause-seats
returns-clause-seats g c k o session is count same fs many = opened-with _ k o _ _ _ _ session fs many count same (c.first_seat.ensures.seat k o is) c.push_reserved.ensures.items
