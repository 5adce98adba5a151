-- What a policy does to an orderly run.
use Rattle.std.specs.Prelude.{ℕ, List, map, Bool}
use Rattle.pure_machine.specs.Policy.{Opening}
use Rattle.pure_machine.specs.State.{Event, Promise}
use Rattle.pure_machine.specs.Step.{IsShape, IsFinished}
use Rattle.pure_core_end.specs.Promises.{AreInOrder}
use Rattle.pure_core_runs.specs.Seats.{state_of, IsNumberedRun, IsOrderly}
use Rattle.pure_policy_laws.specs.Heeded.{IsHeeded, lot_of}

-- Of a numbered legal run that is orderly and has come to Finished, the promises, in load order, are cancelled as its policy asks for.
abbrev pub PolicyIsHeeded : {G C O : Type 0} → (ℕ → ℕ → ℕ → G → Type 0) → (ℕ → ℕ → C → Type 0) → (G → O → Type 0) → (O → Bool) → Type 0
PolicyIsHeeded {G} {C} {O} forks closes may is_fault = (o : Opening) (acts : List (ℕ × Event G C O)) (ordered : List (Promise G O)) → IsShape o.shape → IsNumberedRun forks closes may is_fault o acts → IsOrderly o acts → IsFinished (state_of o acts) → AreInOrder (state_of o acts).promises ordered → IsHeeded o.policy o.workers (map (lot_of is_fault) ordered)
