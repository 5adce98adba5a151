use Rattle.pure_board.proofs.CloseLaws.{has-itself}
use Rattle.pure_board.proofs.closing.token_of.Goals as goal

pub returns-clause-taken : goal.returns-clause-taken
returns-clause-taken g c = has-itself _ _ _ _ _ _ _ _ _ _ c.seat.invariant.1 c.seat.view_is
