-- Acts with one of a seat's own behind them.
use Rattle.std.proofs.Common.{◌≡◌, ◌≢◌, ◌∙◌, ℕ, List, [], ◌∷◌, ◌++◌, refl, ap, arith, Bool, true, false, nat_eq, if◌then◌else◌, inl, inr, ◌⊎◌}
use Rattle.std.proofs.lemmas.Bool.Decides.{nat_tests}
use Rattle.pure_machine.specs.Policy.{Opening}
use Rattle.pure_machine.specs.State.{Event}
use Rattle.pure_machine.specs.Step.{after}
use Rattle.pure_core_runs.specs.Seats.{own, state_of}
use Rattle.pure_core_runs.proofs.SplitLaws.{own-append, state-append}

-- a test of two numbers tells whether they are equal
pub eq-tells : (m n : ℕ) → ((nat_eq m n ≡ true) × (m ≡ n)) ⊎ ((nat_eq m n ≡ false) × (m ≢ n))
eq-tells m n = by_flag (nat_eq m n) refl
  where
    by_flag : (b : Bool) → nat_eq m n ≡ b → ((nat_eq m n ≡ true) × (m ≡ n)) ⊎ ((nat_eq m n ≡ false) × (m ≢ n))
    by_flag true e = inl (e, grind (arith, nat_tests))
    by_flag false e = inr (e, λ same. grind (arith, nat_tests))

eq-itself : (n : ℕ) → nat_eq n n ≡ true
eq-itself n = elim (eq-tells n n) [ inl equal ↦ equal.0 | inr other ↦ absurd (other.1 refl) ]

-- the state after acts and one more
pub state-entered : {G C O : Type 0} (o : Opening) (acts : List (ℕ × Event G C O)) (seat : ℕ) (e : Event G C O) → state_of o (acts ++ (seat, e) ∷ []) ≡ after (state_of o acts) e
state-entered o acts seat e = state-append o acts ((seat, e) ∷ [])

-- the seat's own events and one more
pub own-entered : {E : Type 0} (seat : ℕ) (acts : List (ℕ × E)) (e : E) → own seat (acts ++ (seat, e) ∷ []) ≡ own seat acts ++ e ∷ []
own-entered seat acts e = own-append seat acts ((seat, e) ∷ []) ∙ ap (λ b. own seat acts ++ (if b then (e ∷ []) else [])) (eq-itself seat)
