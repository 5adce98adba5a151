-- Work that nothing cancels.
use Rattle.std.specs.Prelude.{◌≡◌, List, [], false}
use Rattle.pure_text.specs.Lists.{Each}
use Rattle.pure_machine.specs.Policy.{Policy}
use Rattle.pure_machine.specs.State.{Promise}
use Rattle.pure_machine.specs.Step.{is_cancelled_standing}

-- the policy that cancels nothing
abbrev pub no_policy : Policy
no_policy = record { fail_fast = false; cancels = [] }

-- None of the promises is cancelled.
abbrev pub NoneCancelled : {G O : Type 0} → List (Promise G O) → Type 0
NoneCancelled promises = Each (λ p. is_cancelled_standing p.standing ≡ false) promises
