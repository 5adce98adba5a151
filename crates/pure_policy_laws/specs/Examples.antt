-- Promises that are cancelled as a policy asks for, and promises that aren't, one for each part of the condition.
use Rattle.std.specs.Prelude.{ℕ, true, false, [], ◌∷◌}
use Rattle.pure_machine.specs.declared.policy.Group.TheVariants.{Theory}
use Rattle.pure_machine.specs.Policy.{Policy}
use Rattle.pure_policy_laws.specs.Heeded.{Lot, IsHeeded}

-- a promise of a theory that is kept, one that is kept and at fault, and one that is cancelled
abbrev pub good : (theory : ℕ) → Lot
good i = record { theory = i; gone = false; fault = false }

abbrev pub bad : (theory : ℕ) → Lot
bad i = record { theory = i; gone = false; fault = true }

abbrev pub gone : (theory : ℕ) → Lot
gone i = record { theory = i; gone = true; fault = false }

-- the first fault cancels all; or the promises of the second theory are cancelled when one is kept; or nothing is asked for
abbrev pub first_fault : Policy
first_fault = record { fail_fast = true; cancels = [] }

abbrev pub second_theory : Policy
second_theory = record { fail_fast = false; cancels = record { group = Theory 2; after = 1 } ∷ [] }

abbrev pub nothing : Policy
nothing = record { fail_fast = false; cancels = [] }

-- With two workers the first fault may cancel what stands before it in order, and cancels all behind; and a theory's promises may go when one of another is kept.
abbrev pub SomeAreHeeded : Type 0
SomeAreHeeded = IsHeeded first_fault 2 (good 1 ∷ gone 1 ∷ bad 1 ∷ gone 2 ∷ []) × IsHeeded second_theory 1 (good 1 ∷ good 1 ∷ gone 2 ∷ good 3 ∷ [])

-- Where nothing is asked for, none may be cancelled: not licensed.
abbrev pub UnlicensedIsRefused : Type 0
UnlicensedIsRefused = ¬ IsHeeded nothing 2 (good 1 ∷ gone 1 ∷ [])

-- Where the first fault cancels all, no second one is kept.
abbrev pub SecondFaultIsRefused : Type 0
SecondFaultIsRefused = ¬ IsHeeded first_fault 2 (bad 1 ∷ bad 1 ∷ [])

-- Of a group that is cancelled after one, no two are kept.
abbrev pub DisobeyedIsRefused : Type 0
DisobeyedIsRefused = ¬ IsHeeded second_theory 2 (good 2 ∷ good 2 ∷ [])

-- With two workers no two cancelled promises of a theory stand before a kept one of it.
abbrev pub OutOfOrderIsRefused : Type 0
OutOfOrderIsRefused = ¬ IsHeeded first_fault 2 (gone 1 ∷ gone 1 ∷ bad 1 ∷ [])

-- With one worker a promise before the fault isn't cancelled, also where it is the first of its theory.
abbrev pub ForeseenIsRefused : Type 0
ForeseenIsRefused = ¬ IsHeeded first_fault 1 (gone 1 ∷ bad 2 ∷ [])
