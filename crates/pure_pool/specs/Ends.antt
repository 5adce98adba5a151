-- How a proof ends, and what comes of a worker's turn.
use Rattle.std.specs.Prelude.{ℕ, Bool}
use Rattle.pure_board.specs.Sight.{Sight}
use Rattle.pure_pool.specs.Held.{Nothing}
use Rattle.pure_pool.specs.Seated.{Has, IsServedSeat}
use Rattle.pure_pool.specs.declared.proof_runs.End as end
use Rattle.pure_pool.specs.declared.proof_runs.End.TheVariants as end_code
use Rattle.pure_pool.specs.declared.workers.Course as course
use Rattle.pure_pool.specs.declared.workers.Course.TheVariants as course_code

-- How a proof ended: the seat has nothing in hand then, or, where the work was stopped, is served to the end.
abbrev pub IsEnd : {W G C O : Type 0} → (W → ℕ → ℕ → ℕ → G → Type 0) → (W → ℕ → ℕ → C → Type 0) → (W → G → O → Type 0) → (W → O → Bool) → Sight W G C O → end.End → Type 0
IsEnd forks closes may is_fault v end_code.Delivered = Has forks closes may is_fault v Nothing
IsEnd forks closes may is_fault v end_code.Cancelled = Has forks closes may is_fault v Nothing
IsEnd forks closes may is_fault v end_code.Stopped = IsServedSeat v

-- What came of a turn: the seat has nothing in hand, or is served to the end.
abbrev pub IsCourse : {W G C O : Type 0} → (W → ℕ → ℕ → ℕ → G → Type 0) → (W → ℕ → ℕ → C → Type 0) → (W → G → O → Type 0) → (W → O → Bool) → Sight W G C O → course.Course → Type 0
IsCourse forks closes may is_fault v course_code.Worked = Has forks closes may is_fault v Nothing
IsCourse forks closes may is_fault v course_code.Idle = Has forks closes may is_fault v Nothing
IsCourse forks closes may is_fault v course_code.Over = IsServedSeat v
