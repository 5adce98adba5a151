-- The promises of a state by their theories.
use Rattle.std.specs.Prelude.{◌≡◌, ℕ, nat_eq, List, filter}
use Rattle.std.specs.List.Sorted.{IsNonDecreasingBy}
use Rattle.pure_machine.specs.State.{Promise}

-- the promises that the theory of this number forked, in the order of their numbers
abbrev pub promises_of : {G O : Type 0} → (theory : ℕ) → List (Promise G O) → List (Promise G O)
promises_of i = filter (λ p. nat_eq p.theory i)

-- These are the promises in load order: theory after theory, and those of each theory in the order of their numbers.
pub record AreInOrder {G O : Type 0} (promises ordered : List (Promise G O)) : Type 0 where
  pub rise : IsNonDecreasingBy (λ (p : Promise G O). p.theory) ordered
  pub same : (i : ℕ) → promises_of i ordered ≡ promises_of i promises
