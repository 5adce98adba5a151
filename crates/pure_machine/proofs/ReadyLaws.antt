-- Which theories are ready, by the values that closed their parents.
use Rattle.std.proofs.Common.{◌≡◌, ◌≢◌, ◌∙◌, ◌<◌, ◌≤◌, ℕ, zero, suc, ◌+◌, ◌-◌, List, [], ◌∷◌, ◌++◌, map, length, get_or, set, take, refl, sym, ap, subst, arith, Option, Some, None, slice_get, inl, inr, ◌⊎◌}
use Rattle.std.proofs.lemmas.Option.{same_Some, none-some, slice_get_within}
use Rattle.std.proofs.lemmas.List.{get_or_default, map-append}
use Rattle.pure_text.proofs.LoopLaws.{longer_by}
use Rattle.pure_machine.specs.State.{Progress, Waiting, Running, theory_at, parents_at, with_progress}
use Rattle.pure_machine.specs.Step.{value_of, closed_value, closed_values, joined_values, IsReadyIn, NoneReadyBelow}
use Rattle.pure_machine.proofs.PromiseLaws.{slice_get-set}

-- one value more behind the others
joined-more : {C : Type 0} (a : Option C) (b b' : Option (List C)) (cs : List C) (c : C) → joined_values a b ≡ Some cs → ((ds : List C) → b ≡ Some ds → b' ≡ Some (ds ++ c ∷ [])) → joined_values a b' ≡ Some (cs ++ c ∷ [])
joined-more None b b' cs c e h = absurd (none-some cs e)
joined-more (Some a) None b' cs c e h = absurd (none-some cs e)
joined-more (Some a) (Some ds) b' cs c e h = rw (h ds refl, ← same_Some (a ∷ ds) cs e) refl

pub closed_values-more : {C : Type 0} (ts : List (Progress C)) (is : List ℕ) (i : ℕ) (cs : List C) (c : C) → closed_values ts is ≡ Some cs → closed_value (theory_at ts i) ≡ Some c → closed_values ts (is ++ i ∷ []) ≡ Some (cs ++ c ∷ [])
closed_values-more ts [] i cs c these this = rw (this, ← same_Some [] cs these) refl
closed_values-more ts (j ∷ is) i cs c these this = joined-more (closed_value (theory_at ts j)) (closed_values ts is) (closed_values ts (is ++ i ∷ [])) cs c these (λ ds e. closed_values-more ts is i ds c e this)

-- one turn of a loop over the parents
pub closed_values-turn : {C : Type 0} (ts : List (Progress C)) (is : List ℕ) (k r : ℕ) (cs : List C) (c : C) → k < length is → r ≡ get_or is k 0 → closed_values ts (take k is) ≡ Some cs → closed_value (theory_at ts r) ≡ Some c → closed_values ts (take (k + 1) is) ≡ Some (cs ++ c ∷ [])
closed_values-turn ts is k r cs c within read these this = rw (longer_by is k r within (read ∙ get_or_default is k 0 r within)) (closed_values-more ts (take k is) r cs c these this)

joined-none : {C : Type 0} (a : Option C) → joined_values a None ≡ None
joined-none None = refl
joined-none (Some a) = refl

-- one parent that isn't closed
pub closed_values-none : {C : Type 0} (ts : List (Progress C)) (is : List ℕ) (k r : ℕ) → k < length is → r ≡ get_or is k 0 → closed_value (theory_at ts r) ≡ None → closed_values ts is ≡ None
closed_values-none ts [] k r within read none = absurd (omega (arith, within))
closed_values-none ts (i ∷ is) zero r within read none = ap (λ o. joined_values o (closed_values ts is)) (ap (λ n. closed_value (theory_at ts n)) (sym read) ∙ none)
closed_values-none ts (i ∷ is) (suc k) r within read none = ap (joined_values (closed_value (theory_at ts i))) (closed_values-none ts is k r (omega (arith, within)) read none) ∙ joined-none (closed_value (theory_at ts i))

-- what became of a theory, where one was changed: it is that one, or it was so before
pub theory_at-with : {C : Type 0} (ts : List (Progress C)) (i : ℕ) (p : Progress C) (j : ℕ) (q : Progress C) → theory_at (with_progress ts i p) j ≡ Some q → (p ≡ q) ⊎ (theory_at ts j ≡ Some q)
theory_at-with ts zero p j q e = inr e
theory_at-with ts (suc i) p zero q e = inr e
theory_at-with ts (suc i) p (suc j) q e = slice_get-set ts i p j q e

closed_value-from : {C : Type 0} (o : Option (Progress C)) (c : C) → closed_value o ≡ Some c → (q : Progress C) × (o ≡ Some q) × (value_of q ≡ Some c)
closed_value-from None c e = absurd (none-some c e)
closed_value-from (Some q) c e = (q, refl, e)

-- a theory that runs isn't closed, so who is closed was so before
closed_value-with : {C : Type 0} (ts : List (Progress C)) (i n j : ℕ) (c : C) → closed_value (theory_at (with_progress ts i (Running n)) j) ≡ Some c → closed_value (theory_at ts j) ≡ Some c
closed_value-with {C} ts i n j c e =
    let from = closed_value-from (theory_at (with_progress ts i (Running n)) j) c e in
    elim (theory_at-with ts i (Running n) j from.0 from.1) [
      | inl same ↦ absurd (none-some c (subst (λ x. value_of x ≡ Some c) (sym same) from.2))
      | inr old ↦ ap closed_value old ∙ from.2
    ]

joined-from : {C : Type 0} (a : Option C) (b : Option (List C)) (cs : List C) → joined_values a b ≡ Some cs → (c : C) × (ds : List C) × (a ≡ Some c) × (b ≡ Some ds) × (Some (c ∷ ds) ≡ Some cs)
joined-from None b cs e = absurd (none-some cs e)
joined-from (Some a) None cs e = absurd (none-some cs e)
joined-from (Some a) (Some ds) cs e = (a, ds, refl, refl, e)

closed_values-with : {C : Type 0} (ts : List (Progress C)) (i n : ℕ) (js : List ℕ) (cs : List C) → closed_values (with_progress ts i (Running n)) js ≡ Some cs → closed_values ts js ≡ Some cs
closed_values-with ts i n [] cs e = e
closed_values-with ts i n (j ∷ js) cs e =
    let from = joined-from (closed_value (theory_at (with_progress ts i (Running n)) j)) (closed_values (with_progress ts i (Running n)) js) cs e in
    rw (closed_value-with ts i n j from.0 from.2, closed_values-with ts i n js from.1 from.3) from.4

-- the theory doesn't wait
abbrev HasBegun : {C : Type 0} → Progress C → Type 0
HasBegun Waiting = ⊥
HasBegun _ = Unit {0}

pub no_wait : {C : Type 0} (n : ℕ) → ◌≡◌ {A = Progress C} (Running n) Waiting → ⊥
no_wait n e = subst HasBegun e tt

-- who is ready once a theory runs was ready before
pub none_ready-with : {C : Type 0} (shape : List (List ℕ)) (ts : List (Progress C)) (i n bound : ℕ) → NoneReadyBelow shape ts bound → NoneReadyBelow shape (with_progress ts i (Running n)) bound
none_ready-with {C} shape ts i n bound before j within cs r = before j within cs (record { waits = waiting; numbers = r.numbers; parents_are = r.parents_are; closed = closed_values-with ts i n r.numbers cs r.closed })
  where
    waiting : theory_at ts j ≡ Some Waiting
    waiting = elim (theory_at-with ts i (Running n) j Waiting r.waits) [ inl same ↦ absurd (no_wait n same) | inr old ↦ old ]

-- what became of a theory, as the code writes it
pub with_progress-at : {C : Type 0} (ts : List (Progress C)) (i : ℕ) (p : Progress C) → 0 < i → set ts (i - 1) p ≡ with_progress ts i p
with_progress-at ts zero p low = absurd (omega (arith, low))
with_progress-at ts (suc i) p low = let same : suc i - 1 ≡ i = omega arith in ap (λ k. set ts k p) same

-- the number of a theory that is ready
pub ready-number : {C : Type 0} (shape : List (List ℕ)) (ts : List (Progress C)) (i : ℕ) (cs : List C) → IsReadyIn shape ts i cs → (0 < i) × (i ≤ length ts) × (i ≤ length shape)
ready-number shape ts zero cs r = absurd (none-some Waiting r.waits)
ready-number shape ts (suc i) cs r = (omega arith, omega (arith, slice_get_within ts i Waiting r.waits), omega (arith, slice_get_within shape i r.numbers r.parents_are))

-- where none is ready up to the last, none is
pub none_ready-all : {C : Type 0} (shape : List (List ℕ)) (ts : List (Progress C)) (bound : ℕ) → length ts < bound → NoneReadyBelow shape ts bound → (i : ℕ) (cs : List C) → ¬ IsReadyIn shape ts i cs
none_ready-all shape ts bound past before i cs r = before i (omega (arith, past, (ready-number shape ts i cs r).1)) cs r

-- the values of the parents of a theory that is ready
pub ready-values : {C : Type 0} (shape : List (List ℕ)) (ts : List (Progress C)) (i : ℕ) (cs : List C) (numbers : List ℕ) (ds : List C) → IsReadyIn shape ts i cs → parents_at shape i ≡ Some numbers → closed_values ts numbers ≡ Some ds → IsReadyIn shape ts i ds
ready-values shape ts i cs numbers ds r at closed = record { waits = r.waits; numbers = numbers; parents_are = at; closed = closed }

-- they are there
pub ready-closed : {C : Type 0} (shape : List (List ℕ)) (ts : List (Progress C)) (i : ℕ) (cs : List C) (numbers : List ℕ) → IsReadyIn shape ts i cs → parents_at shape i ≡ Some numbers → closed_values ts numbers ≢ None
ready-closed shape ts i cs numbers r at none = none-some cs (sym (subst (λ n. closed_values ts n ≡ None) (same_Some numbers r.numbers (sym at ∙ r.parents_are)) none) ∙ r.closed)

-- the parents of a place are those of the number
pub parents-at : (shape : List (List ℕ)) (i : ℕ) (numbers : List ℕ) → 0 < i → slice_get shape (i - 1) ≡ Some numbers → parents_at shape i ≡ Some numbers
parents-at shape zero numbers low at = absurd (omega (arith, low))
parents-at shape (suc i) numbers low at = let same : suc i - 1 ≡ i = omega arith in subst (λ k. slice_get shape k ≡ Some numbers) same at

-- the number of a theory that is there
pub theory_at-number : {C : Type 0} (ts : List (Progress C)) (i : ℕ) (q : Progress C) → theory_at ts i ≡ Some q → (0 < i) × (i ≤ length ts)
theory_at-number ts zero q at = absurd (none-some q at)
theory_at-number ts (suc i) q at = (omega arith, omega (arith, slice_get_within ts i q at))

-- one turn of a loop that gathers the values of the parents
pub values-turn : {A C : Type 0} (f : A → C) (ts : List (Progress C)) (is : List ℕ) (k r : ℕ) (old new : List A) (v : A) (c : C) → k < length is → r ≡ get_or is k 0 → closed_values ts (take k is) ≡ Some (map f old) → closed_value (theory_at ts r) ≡ Some c → f v ≡ c → new ≡ old ++ v ∷ [] → closed_values ts (take (k + 1) is) ≡ Some (map f new)
values-turn f ts is k r old new v c within read these this same more = rw (more, map-append f old (v ∷ []), same) (closed_values-turn ts is k r (map f old) c within read these this)

-- no theory runs, by its place and by its number
pub none_runs : {C : Type 0} (ts : List (Progress C)) (b : ℕ) → length ts ≤ b → ((n : ℕ) → n < b → (q : Progress C) → slice_get ts n ≡ Some q → (k : ℕ) → q ≢ Running k) → (i k : ℕ) → theory_at ts i ≢ Some (Running k)
none_runs ts b past before zero k at = none-some (Running k) at
none_runs ts b past before (suc i) k at = before i (omega (arith, past, slice_get_within ts i (Running k) at)) (Running k) at k refl
