use Rattle.std.proofs.Common.{◌≡◌, ◌+◌, ◌≤◌, length, []}
use Rattle.std.specs.Prelude.{vec_capacity}
use Rattle.pure_machine.specs.Policy.{Opening}
use Rattle.pure_board.specs.Tokens.{counting}
use Rattle.pure_board.specs.Boards.{IsNumberedFresh}
use Rattle.pure_board.proofs.opening.other_seats.Given as goal

abbrev pub invariant-loop-number : goal.invariant-loop-number
invariant-loop-number g l = (l.first.table_id ≡ l.initial.first.table_id) × (length l.seats.items + 1 ≡ l.number) × (l.number ≤ l.workers)
    × ((k : _) (o : Opening) → l.initial.first.me ≡ (counting k o 1, []) → (l.first.me ≡ (counting k o l.number, [])) × IsNumberedFresh l.initial.first.table_id k o 1 l.seats.items)
    × (l.workers ≤ vec_capacity l.seats)
