-- What a seat of a board knows, and what its calls tell it.
use Rattle.std.specs.Prelude.{◌≡◌, ◌<◌, ℕ, Bool, List, [], ◌∷◌, ◌++◌}
use Rattle.atomic_table.specs.Seated.{TableId}
use Rattle.pure_machine.specs.Policy.{Opening}
use Rattle.pure_machine.specs.State.{Event}
use Rattle.pure_core_runs.specs.Seats.{own, IsNumberedRun}

-- what a board is of: its name, and the session
pub record Plan (W : Type 0) : Type 0 where
  pub name : TableId
  pub session : W

-- what a seat knows: its board, how its core was opened, its number, the part of the history that it saw, and what it entered itself
pub record Sight (W G C O : Type 0) : Type 0 where
  pub plan : Plan W
  pub opening : Opening
  pub number : ℕ
  pub seen : List (ℕ × Event G C O)
  pub own : List (Event G C O)

-- The board was opened with the session's shape, the seat is one of the workers', and saw a numbered legal run, in which its own entries are these.
pub record IsTrueSight {W G C O : Type 0} (shape : W → List (List ℕ)) (forks : W → ℕ → ℕ → ℕ → G → Type 0) (closes : W → ℕ → ℕ → C → Type 0) (may : W → G → O → Type 0) (is_fault : W → O → Bool) (v : Sight W G C O) : Type 0 where
  pub shaped : v.opening.shape ≡ shape v.plan.session
  pub few : v.number < v.opening.workers
  pub lawful : IsNumberedRun (forks v.plan.session) (closes v.plan.session) (may v.plan.session) (is_fault v.plan.session) v.opening v.seen
  pub entries : v.own ≡ own v.number v.seen

-- The seat is the same, and has seen more, but entered nothing.
pub record Sees {W G C O : Type 0} (old new : Sight W G C O) : Type 0 where
  pub plan : new.plan ≡ old.plan
  pub opening : new.opening ≡ old.opening
  pub number : new.number ≡ old.number
  pub more : List (ℕ × Event G C O)
  pub seen : new.seen ≡ old.seen ++ more
  pub own : new.own ≡ old.own

-- The seat is the same, and has entered the event behind this history, which begins with what it had seen.
pub record Enters {W G C O : Type 0} (old new : Sight W G C O) (log : List (ℕ × Event G C O)) (e : Event G C O) : Type 0 where
  pub plan : new.plan ≡ old.plan
  pub opening : new.opening ≡ old.opening
  pub number : new.number ≡ old.number
  pub more : List (ℕ × Event G C O)
  pub log_is : log ≡ old.seen ++ more
  pub seen : new.seen ≡ log ++ (old.number, e) ∷ []
  pub own : new.own ≡ old.own ++ e ∷ []
