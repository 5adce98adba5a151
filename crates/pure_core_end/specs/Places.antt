-- Where a promise stands among those of its theory, and which promises a goal may rest on.
use Rattle.std.specs.Prelude.{◌≡◌, ◌⊎◌, ◌<◌, ℕ, List, length, take, Some, slice_get}
use Rattle.pure_text.specs.Lists.{IsIn}
use Rattle.pure_machine.specs.State.{State, Promise, parents_at}
use Rattle.pure_core_end.specs.Promises.{promises_of}

-- The promise of this number is one of the theory, forked after so many others of it.
pub record IsPlaced {G O : Type 0} (promises : List (Promise G O)) (number theory others : ℕ) : Type 0 where
  pub promise : Promise G O
  pub stands : slice_get promises number ≡ Some promise
  pub theory_is : promise.theory ≡ theory
  pub count : length (promises_of theory (take number promises)) ≡ others

-- The theory of the first number is an ancestor of that of the second: one of its parents, or an ancestor of one.
pub data IsAncestor (shape : List (List ℕ)) : (ancestor theory : ℕ) → Type 0 where
  parent : {ancestor theory : ℕ} {parents : List ℕ} → parents_at shape theory ≡ Some parents → IsIn ancestor parents → IsAncestor shape ancestor theory
  above : {ancestor between theory : ℕ} {parents : List ℕ} → parents_at shape theory ≡ Some parents → IsIn between parents → IsAncestor shape ancestor between → IsAncestor shape ancestor theory

-- The first theory's fork after `early` others comes before the second's after `late`: the first theory is an ancestor of the second, or they are one and it is the earlier fork.
abbrev pub ComesBefore : (shape : List (List ℕ)) → (first early second late : ℕ) → Type 0
ComesBefore shape first early second late = IsAncestor shape first second ⊎ ((first ≡ second) × (early < late))

-- A fork that comes before another has a promise with a smaller number.
abbrev pub HaveSmallerNumbers : {G C O : Type 0} → (shape : List (List ℕ)) → State G C O → Type 0
HaveSmallerNumbers shape s = (m n first early second late : ℕ) → IsPlaced s.promises m first early → IsPlaced s.promises n second late → ComesBefore shape first early second late → m < n

-- Each promise is of a goal that its theory may fork after so many others under its command.
abbrev pub AreForked : {G C O : Type 0} → (forks : ℕ → ℕ → ℕ → G → Type 0) → State G C O → Type 0
AreForked forks s = (n i k : ℕ) → (placed : IsPlaced s.promises n i k) → forks i k (placed.promise).command (placed.promise).goal
