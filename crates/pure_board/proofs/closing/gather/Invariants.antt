use Rattle.std.proofs.Common.{◌≡◌, ◌++◌, length, List, []}
use Rattle.pure_text.specs.Lists.{Each}
use Rattle.pure_machine.specs.Policy.{Opening}
use Rattle.pure_board_lock.specs.Names.{desk_id}
use Rattle.pure_board_lock.specs.Seats.{view_of}
use Rattle.pure_board.specs.Boards.{HasTaken}
use Rattle.pure_board.proofs.closing.gather.Given as goal

abbrev pub invariant-loop-seat : goal.invariant-loop-seat
invariant-loop-seat g l = (l.token.table_id ≡ l.initial.token.table_id) × (l.token.me.1 ≡ []) × Each (λ s. s.plan.name ≡ desk_id l.desk) l.rest.items
    × ((more : List _) × (l.rest.items ++ more ≡ l.initial.rest.items)
    × ((k : _) (o : Opening) (seats : List _) → HasTaken k o (view_of l.initial.token) seats → Each (λ s. s.opening ≡ o) l.initial.rest.items → HasTaken k o (view_of l.token) (more ++ seats) × Each (λ s. s.opening ≡ o) l.rest.items))

abbrev pub decreases-loop-seat : goal.decreases-loop-seat
decreases-loop-seat g l = length l.rest.items
