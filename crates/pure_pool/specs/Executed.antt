-- Works that were executed to their end on a board.
use Rattle.std.specs.Prelude.{◌≡◌}
use Rattle.pure_machine.specs.Step.{IsFinished, stops}
use Rattle.pure_core_runs.specs.Seats.{events_of, IsOrderly}
use Rattle.pure_board.specs.Boards.{Ending}

-- Of the closed board all theories are closed and all promises settled or cancelled, nobody stopped the work, and each seat took nothing while something that it had taken was open.
pub record IsExecuted {W G C O : Type 0} (end : Ending W G C O) : Type 0 where
  pub unstopped : stops (events_of end.history) ≡ 0
  pub finished : IsFinished end.core
  pub orderly : IsOrderly end.opening end.history
