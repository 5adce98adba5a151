use Rattle.pure_pool.specs.Seated.{IsSameSeat}
use Rattle.pure_plays.specs.Hands.{IsInHand}
use Rattle.pure_plays.proofs.plays.play_seat.Given as goal

abbrev pub invariant-loop-i : goal.invariant-loop-i
invariant-loop-i g l = IsSameSeat l.fn.seat l.seat × IsInHand l.seat l.hand
