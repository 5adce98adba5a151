-- Where nothing is ready and nothing runs all is finished.
use Rattle.std.proofs.Common.{◌≡◌, ◌≢◌, ◌<◌, ◌≤◌, ℕ, zero, suc, ◌+◌, List, [], ◌∷◌, length, refl, arith, Some, slice_get, below_more}
use Rattle.pure_text.specs.Lists.{Each}
use Rattle.pure_machine.specs.State.{Progress, Waiting, Running, Closed, Promise, Standing, Ready, Taken, Settled, Cancelled, theory_at, parents_at}
use Rattle.pure_machine.specs.Step.{IsShape, IsReadyIn, IsClosed, IsOver, value_of, closed_values, NoPromiseReadyBelow}
use Rattle.pure_machine.proofs.ReadyLaws.{theory_at-number}
use Rattle.std.proofs.lemmas.Option.{slice_get_within}

pub element_there : {A : Type 0} (xs : List A) (k : ℕ) → k < length xs → (x : A) × (slice_get xs k ≡ Some x)
element_there [] k within = absurd (omega (arith, within))
element_there (x ∷ xs) zero within = (x, refl)
element_there (x ∷ xs) (suc k) within = element_there xs k (omega (arith, within))

pub each_element : {A : Type 0} (P : A → Type 0) (xs : List A) → ((k : ℕ) (x : A) → slice_get xs k ≡ Some x → P x) → Each P xs
each_element P [] h = tt
each_element P (x ∷ xs) h = (h 0 x refl, each_element P xs (λ k y e. h (suc k) y e))

theory_there : {C : Type 0} (ts : List (Progress C)) (i : ℕ) → 0 < i → i ≤ length ts → (q : Progress C) × (theory_at ts i ≡ Some q)
theory_there ts zero low high = absurd (omega (arith, low))
theory_there ts (suc i) low high = element_there ts i (omega (arith, high))

parents_there : (shape : List (List ℕ)) (i : ℕ) → 0 < i → i ≤ length shape → (numbers : List ℕ) × (parents_at shape i ≡ Some numbers)
parents_there shape zero low high = absurd (omega (arith, low))
parents_there shape (suc i) low high = element_there shape i (omega (arith, high))

value_there : {C : Type 0} (q : Progress C) → IsClosed q → (c : C) × (value_of q ≡ Some c)
value_there Waiting none = absurd none
value_there (Running k) none = absurd none
value_there (Closed k c) tt = (c, refl)

-- the values of theories before one before which all are closed
values_there : {C : Type 0} (ts : List (Progress C)) (b : ℕ) → b ≤ length ts → ((i : ℕ) → i < b → (q : Progress C) → theory_at ts i ≡ Some q → IsClosed q) → (numbers : List ℕ) → Each (λ p. (0 < p) × (p < b)) numbers → (cs : List C) × (closed_values ts numbers ≡ Some cs)
values_there ts b high before [] each = ([], refl)
values_there ts b high before (p ∷ ps) each =
    let there = theory_there ts p each.0.0 (omega (arith, high, each.0.1)) in
    let value = value_there there.0 (before p each.0.1 there.0 there.1) in
    let rest = values_there ts b high before ps each.1 in
    (value.0 ∷ rest.0, rw (there.1, rest.1, value.1) refl)

-- a theory before which all are closed, where none is ready and none runs
closed_here : {C : Type 0} (shape : List (List ℕ)) (ts : List (Progress C)) (b : ℕ) → IsShape shape → length ts ≡ length shape → ((i : ℕ) (cs : List C) → ¬ IsReadyIn shape ts i cs) → ((i k : ℕ) → theory_at ts i ≢ Some (Running k))
    → ((i : ℕ) → i < b → (q : Progress C) → theory_at ts i ≡ Some q → IsClosed q) → (q : Progress C) → theory_at ts b ≡ Some q → IsClosed q
closed_here shape ts b formed same none still before (Closed k c) at = tt
closed_here shape ts b formed same none still before (Running k) at = absurd (still b k at)
closed_here shape ts b formed same none still before Waiting at =
    let number = theory_at-number ts b Waiting at in
    let parents = parents_there shape b number.0 (omega (arith, number.1, same)) in
    let values = values_there ts b number.1 before parents.0 (formed b parents.0 parents.1) in
    absurd (none b values.0 (record { waits = at; numbers = parents.0; parents_are = parents.1; closed = values.1 }))

closed_below : {C : Type 0} (shape : List (List ℕ)) (ts : List (Progress C)) → IsShape shape → length ts ≡ length shape → ((i : ℕ) (cs : List C) → ¬ IsReadyIn shape ts i cs) → ((i k : ℕ) → theory_at ts i ≢ Some (Running k))
    → (b : ℕ) → (i : ℕ) → i < b → (q : Progress C) → theory_at ts i ≡ Some q → IsClosed q
closed_below shape ts formed same none still zero i within q at = absurd (omega (arith, within))
closed_below shape ts formed same none still (suc b) i within q at =
    below_more _ _ (closed_below shape ts formed same none still b) (closed_here shape ts b formed same none still (closed_below shape ts formed same none still b)) i (omega (arith, within)) q at

-- all theories are closed
pub all_closed : {C : Type 0} (shape : List (List ℕ)) (ts : List (Progress C)) → IsShape shape → length ts ≡ length shape → ((i : ℕ) (cs : List C) → ¬ IsReadyIn shape ts i cs) → ((i k : ℕ) → theory_at ts i ≢ Some (Running k)) → Each IsClosed ts
all_closed shape ts formed same none still = each_element IsClosed ts (λ k q at. closed_below shape ts formed same none still (k + 2) (suc k) (omega arith) q at)

over_here : {O : Type 0} (s : Standing O) → s ≢ Ready → s ≢ Taken → IsOver s
over_here Ready other still = absurd (other refl)
over_here Taken other still = absurd (still refl)
over_here (Settled o) other still = tt
over_here Cancelled other still = tt

-- all promises are over
pub all_over : {G O : Type 0} (ps : List (Promise G O)) → NoPromiseReadyBelow ps (length ps) → ((n : ℕ) (p : Promise G O) → slice_get ps n ≡ Some p → p.standing ≢ Taken) → Each (λ p. IsOver p.standing) ps
all_over ps none still = each_element (λ p. IsOver p.standing) ps (λ k p at. over_here p.standing (none k (slice_get_within ps k p at) p at) (still k p at))
