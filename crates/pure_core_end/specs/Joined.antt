-- What theories left of which each is closed and each promise settled or cancelled (Wenzel, Parallel Proof Checking in Isabelle/Isar, 2009).
use Rattle.std.specs.Prelude.{◌≡◌, ℕ, suc, List, Bool, [], ◌∷◌, ◌++◌, length, Some, slice_get}
use Rattle.pure_text.specs.Lists.{Each}
use Rattle.pure_machine.specs.State.{State, Progress, Promise, Standing, Settled, Cancelled, theory_at}
use Rattle.pure_machine.specs.Step.{IsFinished, value_of}
use Rattle.pure_core.specs.Legal.{IsLegal}
use Rattle.pure_core_end.specs.Promises.{promises_of}

-- It stands so at the end: settled by an outcome that the goal may have, or cancelled.
abbrev pub EndsSo : {G O : Type 0} → (may : G → O → Type 0) → G → Standing O → Type 0
EndsSo may goal (Settled outcome) = may goal outcome
EndsSo may goal Cancelled = Unit {0}
EndsSo may goal _ = ⊥

-- The theory of this number left the value and the promises: the value may close it after as many forks as there are promises, the n-th promise is of a goal that it may fork after n others under the promise's command, and each ended as its goal may end.
pub record IsJoined {G C O : Type 0} (forks : ℕ → ℕ → ℕ → G → Type 0) (closes : ℕ → ℕ → C → Type 0) (may : G → O → Type 0) (theory : ℕ) (value : C) (promises : List (Promise G O)) : Type 0 where
  pub closed : closes theory (length promises) value
  pub forked : (n : ℕ) (p : Promise G O) → slice_get promises n ≡ Some p → forks theory n p.command p.goal
  pub ended : Each (λ p. EndsSo may p.goal p.standing) promises

-- The theories from this number on left these values, and these promises, theory after theory.
abbrev pub AreJoinedFrom : {G C O : Type 0} → (forks : ℕ → ℕ → ℕ → G → Type 0) → (closes : ℕ → ℕ → C → Type 0) → (may : G → O → Type 0) → (number : ℕ) → (values : List C) → (promises : List (Promise G O)) → Type 0
AreJoinedFrom forks closes may i [] promises = promises ≡ []
AreJoinedFrom forks closes may i (value ∷ values) promises = (own : _) × (others : _) × (promises ≡ own ++ others) × IsJoined forks closes may i value own × AreJoinedFrom forks closes may (suc i) values others

-- All theories of the shape left these values, and these promises, in load order.
pub record AreJoined {G C O : Type 0} (shape : List (List ℕ)) (forks : ℕ → ℕ → ℕ → G → Type 0) (closes : ℕ → ℕ → C → Type 0) (may : G → O → Type 0) (values : List C) (promises : List (Promise G O)) : Type 0 where
  pub all : length values ≡ length shape
  pub left : AreJoinedFrom forks closes may 1 values promises

-- Where a legal run has finished all, each theory left a value that may close it, and its promises ended as their goals may.
abbrev pub TheoriesAreJoined : {G C O : Type 0} → (shape : List (List ℕ)) → (forks : ℕ → ℕ → ℕ → G → Type 0) → (closes : ℕ → ℕ → C → Type 0) → (may : G → O → Type 0) → (is_fault : O → Bool) → Type 0
TheoriesAreJoined {G} {C} {O} shape forks closes may is_fault = (s : State G C O) → IsLegal shape forks closes may is_fault s → IsFinished s
    → (i : ℕ) (t : Progress C) → theory_at s.theories i ≡ Some t → (value : C) × (value_of t ≡ Some value) × IsJoined forks closes may i value (promises_of i s.promises)
