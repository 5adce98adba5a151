use Rattle.std.proofs.Common.{refl}
use Rattle.pure_board.proofs.SeatLaws.{token-value}
use Rattle.pure_board.proofs.OpenLaws.{first-free, first-counts, first-splits, first-makes, makes-seated}
use Rattle.pure_board.proofs.opening.next_seat.Goals as goal

pub split-token-requires-clause-free : goal.split-token-requires-clause-free
split-token-requires-clause-free g c = let f = c.requires.first in first-free _ f.0 f.1 _ f.2

pub split-token-requires-clause-counts : goal.split-token-requires-clause-counts
split-token-requires-clause-counts g c = let f = c.requires.first in first-counts _ f.0 f.1 _ f.2

pub invariant_of-result-2 : goal.invariant_of-result-2
invariant_of-result-2 g c = let f = c.requires.first in makes-seated _ _ _ _ _ _ _ f.0 f.1 _ f.2 c.split-token.ensures.made f.3 f.4 f.5

pub returns-clause-first : goal.returns-clause-first
returns-clause-first g c k o is = first-splits _ _ k o _ is c.split-token.ensures.kept

pub returns-clause-seat : goal.returns-clause-seat
returns-clause-seat g c k o is = token-value _ _ _ _ _ _ k o c.split-token.ensures.desk.1 (first-makes _ _ k o _ is c.split-token.ensures.made) refl refl
