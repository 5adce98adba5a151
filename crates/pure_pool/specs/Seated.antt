-- Seats of a board and what their workers have in hand.
use Rattle.std.specs.Prelude.{◌≡◌, ◌<◌, ℕ, Bool, List}
use Rattle.pure_text.specs.Lists.{EachTwo}
use Rattle.pure_machine.specs.Policy.{Opening}
use Rattle.pure_board.specs.Boards.{AreOpened}
use Rattle.pure_board.specs.Sight.{Plan, Sight}
use Rattle.pure_core_runs.specs.Seats.{own}
use Rattle.pure_pool.specs.Held.{Held, Holds}
use Rattle.pure_pool.specs.Served.{IsServed}

-- The seat has this in hand, and its own entries in what it saw are what it entered.
pub record Has {W G C O : Type 0} (forks : W → ℕ → ℕ → ℕ → G → Type 0) (closes : W → ℕ → ℕ → C → Type 0) (may : W → G → O → Type 0) (is_fault : W → O → Bool) (v : Sight W G C O) (held : Held) : Type 0 where
  pub holds : Holds (forks v.plan.session) (closes v.plan.session) (may v.plan.session) (is_fault v.plan.session) v.opening v.number v.seen held
  pub entries : v.own ≡ own v.number v.seen

-- The seat has something or nothing in hand.
abbrev pub HasSome : {W G C O : Type 0} → (W → ℕ → ℕ → ℕ → G → Type 0) → (W → ℕ → ℕ → C → Type 0) → (W → G → O → Type 0) → (W → O → Bool) → Sight W G C O → Type 0
HasSome forks closes may is_fault v = (held : Held) × Has forks closes may is_fault v held

-- It is the same seat of the same board.
pub record IsSameSeat {W G C O : Type 0} (old new : Sight W G C O) : Type 0 where
  pub plan : new.plan ≡ old.plan
  pub opening : new.opening ≡ old.opening
  pub number : new.number ≡ old.number

-- A worker has served the seat to the end.
abbrev pub IsServedSeat : {W G C O : Type 0} → Sight W G C O → Type 0
IsServedSeat v = IsServed v.opening v.number v.seen

-- It is the same seat, and a worker has served it to the end.
pub record IsServedBy {W G C O : Type 0} (old new : Sight W G C O) : Type 0 where
  pub same : IsSameSeat old new
  pub served : IsServedSeat new

-- They are the seats of a board that was opened so, as its workers give them back: each served to the end.
pub record AreBack {W G C O : Type 0} (board : Plan W) (o : Opening) (seats : List (Sight W G C O)) : Type 0 where
  pub some : 0 < o.workers
  pub fresh : List (Sight W G C O)
  pub opened : AreOpened board o fresh
  pub served : EachTwo IsServedBy fresh seats
