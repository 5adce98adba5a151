-- Which promises aren't ready, after each change.
use Rattle.std.proofs.Common.{◌≡◌, ◌≢◌, ◌∙◌, ◌<◌, ◌≤◌, ℕ, zero, suc, ◌+◌, List, [], ◌∷◌, ◌++◌, map, length, get_or, set, refl, sym, ap, subst, take, drop, arith, Bool, true, false, not, ◌&&◌, if◌then◌else◌, Option, Some, None, slice_get, slice_set, below_more, inl, inr, ◌⊎◌, eq-or-lt_of_le}
use Rattle.std.proofs.lemmas.Option.{slice_get_read, slice_get_within, same_Some, none-some}
use Rattle.std.proofs.lemmas.List.{length-map, take-append-le, take_all}
use Rattle.std.specs.Prelude.{MatchBool, MatchOption}
use Rattle.pure_machine.specs.Parts.{NoneTaken}
use Rattle.pure_machine.specs.State.{Promise, Standing, Ready, Taken, Settled, Cancelled, Marks, with_standing, restood, cancelled_promise, is_theory_cancelled, is_settled}
use Rattle.pure_machine.specs.Step.{NoPromiseReadyBelow, IsOver}

-- what stands at a place that was read
pub element_is : {A : Type 0} (xs : List A) (k : ℕ) (x y : A) → k < length xs → x ≡ get_or xs k x → slice_get xs k ≡ Some y → x ≡ y
element_is xs k x y within read at = same_Some x y (sym (slice_get_read xs (length xs) k x refl within read) ∙ at)

-- what holds of all elements before a place and of the one there holds of all before the next
pub all_more : {A : Type 0} (P : A → Type 0) (xs : List A) (k : ℕ) (x : A) → k < length xs → x ≡ get_or xs k x → P x → ((m : ℕ) → m < k → (y : A) → slice_get xs m ≡ Some y → P y) → (m : ℕ) → m < k + 1 → (y : A) → slice_get xs m ≡ Some y → P y
all_more P xs k x within read here before = below_more _ _ before (λ y at. subst P (element_is xs k x y within read at) here)

-- one place further
pub none_ready_more : {G O : Type 0} (ps : List (Promise G O)) (k : ℕ) (p : Promise G O) → k < length ps → p ≡ get_or ps k p → p.standing ≢ Ready → NoPromiseReadyBelow ps k → NoPromiseReadyBelow ps (k + 1)
none_ready_more ps k p within read other before = all_more (λ q. q.standing ≢ Ready) ps k p within read other before

-- the first that is ready, of a list that is another
pub found_ready : {G O : Type 0} (xs ys : List (Promise G O)) (n : ℕ) → ys ≡ xs → n < length ys → (n < length ys → (p : Promise G O) × (slice_get ys n ≡ Some p) × (p.standing ≡ Ready)) → NoPromiseReadyBelow ys n → (p : Promise G O) × (slice_get xs n ≡ Some p) × (p.standing ≡ Ready) × NoPromiseReadyBelow xs n
found_ready {G} {O} xs ys n same within at below = subst (λ zs. (p : Promise G O) × (slice_get zs n ≡ Some p) × (p.standing ≡ Ready) × NoPromiseReadyBelow zs n) same ((at within).0, (at within).1, (at within).2, below)

-- whether a proof runs, of a list that is another
pub runs_same : {G O : Type 0} (b : Bool) (xs ys : List (Promise G O)) → ys ≡ xs → MatchBool b ((n : ℕ) × (p : Promise G O) × (slice_get ys n ≡ Some p) × (p.standing ≡ Taken)) (NoneTaken ys) → MatchBool b ((n : ℕ) × (p : Promise G O) × (slice_get xs n ≡ Some p) × (p.standing ≡ Taken)) (NoneTaken xs)
runs_same {G} {O} b xs ys same h = subst (λ zs. MatchBool b ((n : ℕ) × (p : Promise G O) × (slice_get zs n ≡ Some p) × (p.standing ≡ Taken)) (NoneTaken zs)) same h

-- the next that is ready, of a list that is another
pub next_same : {G O : Type 0} (r : Option ℕ) (xs ys : List (Promise G O)) → ys ≡ xs → MatchOption r (NoPromiseReadyBelow ys (length ys)) (λ n. (p : Promise G O) × (slice_get ys n ≡ Some p) × (p.standing ≡ Ready) × NoPromiseReadyBelow ys n) → MatchOption r (NoPromiseReadyBelow xs (length xs)) (λ n. (p : Promise G O) × (slice_get xs n ≡ Some p) × (p.standing ≡ Ready) × NoPromiseReadyBelow xs n)
next_same {G} {O} r xs ys same h = subst (λ zs. MatchOption r (NoPromiseReadyBelow zs (length zs)) (λ n. (p : Promise G O) × (slice_get zs n ≡ Some p) × (p.standing ≡ Ready) × NoPromiseReadyBelow zs n)) same h

-- the promises with one of them standing otherwise, as the code writes them
pub restood-is : {G O : Type 0} (ps : List (Promise G O)) (k : ℕ) (p : Promise G O) (s : Standing O) → k < length ps → p ≡ get_or ps k p → set ps k (record { theory = p.theory; command = p.command; goal = p.goal; standing = s }) ≡ with_standing ps k s
restood-is ps k p s within read = sym (ap (λ o. restood ps k o s) (slice_get_read ps (length ps) k p refl within read))

-- what stands in a list with one element changed: that element, or what stood there
pub slice_get-set : {A : Type 0} (xs : List A) (k : ℕ) (x : A) (m : ℕ) (y : A) → slice_get (set xs k x) m ≡ Some y → (x ≡ y) ⊎ (slice_get xs m ≡ Some y)
slice_get-set [] zero x m y e = inr e
slice_get-set [] (suc k) x m y e = inr e
slice_get-set (z ∷ xs) zero x zero y e = inl (same_Some x y e)
slice_get-set (z ∷ xs) zero x (suc m) y e = inr e
slice_get-set (z ∷ xs) (suc k) x zero y e = inr e
slice_get-set (z ∷ xs) (suc k) x (suc m) y e = slice_get-set xs k x m y e

-- a promise that isn't ready now, in the place of another
pub none_ready-set : {G O : Type 0} (ps : List (Promise G O)) (k : ℕ) (p : Promise G O) (bound : ℕ) → p.standing ≢ Ready → NoPromiseReadyBelow ps bound → NoPromiseReadyBelow (set ps k p) bound
none_ready-set ps k p bound other before m within q at ready = elim (slice_get-set ps k p m q at) [
  | inl same ↦ other (ap (λ x. x.standing) same ∙ ready)
  | inr old ↦ before m within q old ready
]

-- what stands in a longer list within the shorter one
pub slice_get-front : {A : Type 0} (xs : List A) (x : A) (m : ℕ) (y : A) → m < length xs → slice_get (xs ++ x ∷ []) m ≡ Some y → slice_get xs m ≡ Some y
slice_get-front [] x m y within e = absurd (omega (arith, within))
slice_get-front (z ∷ xs) x zero y within e = e
slice_get-front (z ∷ xs) x (suc m) y within e = slice_get-front xs x m y (omega (arith, within)) e

-- one promise more
pub none_ready-push : {G O : Type 0} (ps : List (Promise G O)) (p : Promise G O) (bound : ℕ) → bound ≤ length ps → NoPromiseReadyBelow ps bound → NoPromiseReadyBelow (ps ++ p ∷ []) bound
none_ready-push ps p bound le before m within q at ready = before m within q (slice_get-front ps p m q (omega (arith, within, le)) at) ready

-- what is ready after a cancellation was ready before
pub ready-cancelled : {G O : Type 0} (b : Bool) (p : Promise G O) (q : Promise G O) → (if b then (record { theory = p.theory; command = p.command; goal = p.goal; standing = Cancelled }) else p) ≡ q → q.standing ≡ Ready → p.standing ≡ Ready
ready-cancelled true p q e ready = absurd (never (ap (λ x. x.standing) e ∙ ready))
  where
    never : {O : Type 0} → ◌≡◌ {A = Standing O} Cancelled Ready → ⊥
    never e = subst IsOver e tt
ready-cancelled false p q e ready = ap (λ x. x.standing) e ∙ ready

-- an element of a list that a function made
pub slice_get-mapped : {A B : Type 0} (f : A → B) (xs : List A) (m : ℕ) (y : B) → slice_get (map f xs) m ≡ Some y → (x : A) × (slice_get xs m ≡ Some x) × (f x ≡ y)
slice_get-mapped f [] m y e = absurd (none-some y e)
slice_get-mapped f (x ∷ xs) zero y e = (x, refl, same_Some (f x) y e)
slice_get-mapped f (x ∷ xs) (suc m) y e = slice_get-mapped f xs m y e

-- some groups cancelled
pub none_ready-cancel : {G O : Type 0} (marks : Marks) (ps : List (Promise G O)) (bound : ℕ) → NoPromiseReadyBelow ps bound → NoPromiseReadyBelow (map (cancelled_promise marks) ps) bound
none_ready-cancel marks ps bound before m within q at ready =
    let old = slice_get-mapped (cancelled_promise marks) ps m q at in
    before m within old.0 old.1 (ready-cancelled (is_theory_cancelled marks old.0.theory && not (is_settled old.0.standing)) old.0 q old.2 ready)

-- what a function made in place of a whole list is the list
written : {A : Type 0} (f : A → A) (xs new s : List A) (n : ℕ) → s ≡ xs → length s ≡ n → new ≡ map f s → take n (new ++ drop (length new) xs) ≡ map f xs
written f xs new s n same long made =
    let size : length new ≡ n = ap length made ∙ length-map s f ∙ long in
    take-append-le n new (drop (length new) xs) (omega (arith, size)) ∙ take_all n new (omega (arith, size)) ∙ made ∙ ap (map f) same

pub none_ready-written : {G O : Type 0} (marks : Marks) (xs new s : List (Promise G O)) (n bound : ℕ) → s ≡ xs → length s ≡ n → new ≡ map (cancelled_promise marks) s → NoPromiseReadyBelow xs bound → NoPromiseReadyBelow (take n (new ++ drop (length new) xs)) bound
none_ready-written marks xs new s n bound same long made before =
    subst (λ l. NoPromiseReadyBelow l bound) (sym (written (cancelled_promise marks) xs new s n same long made)) (none_ready-cancel marks xs bound before)
