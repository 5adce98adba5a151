-- Runs cut in two, where an element stands in a list, and the events of one seat.
use Rattle.std.proofs.Common.{◌≡◌, ◌∙◌, ℕ, ◌+◌, List, [], ◌∷◌, ◌++◌, refl, sym, ap, arith, nat_eq, Bool, true, false, if◌then◌else◌, inl, inr, ◌⊎◌}
use Rattle.std.proofs.lemmas.List.{map-append}
use Rattle.std.proofs.lemmas.Bool.{eqb-true, eq-eqb}
use Rattle.pure_text.specs.Lists.{IsIn}
use Rattle.pure_text.proofs.ListLaws.{in_split}
use Rattle.pure_machine.specs.State.{State, Event, TakeTheory, TakeProof, Fork, CloseTheory, Deliver, Stop}
use Rattle.pure_machine.specs.Step.{IsRunFrom, after, after_all, stops}
use Rattle.pure_core.proofs.RunLaws.{after_all-append}
use Rattle.pure_core_runs.specs.Seats.{events_of, own, state_of, forks_in}

-- where an element stands
pub split_in : {A : Type 0} (x : A) (xs : List A) → IsIn x xs → (before : List A) × (after : List A) × (xs ≡ before ++ x ∷ after)
split_in x [] m = absurd m
split_in x (y ∷ ys) m = elim m [
  | inl e ↦ ([], ys, ap (λ z. z ∷ ys) (sym e))
  | inr n ↦ (let r = split_in x ys n in (y ∷ r.0, r.1, ap (λ zs. y ∷ zs) r.2))
]

-- the element behind others is one of them or itself
pub in_last : {A : Type 0} (x y : A) (xs : List A) → IsIn x (xs ++ y ∷ []) → IsIn x xs ⊎ (x ≡ y)
in_last x y xs m = elim (in_split x xs (y ∷ []) m) [ inl old ↦ inl old | inr here ↦ elim here [ inl same ↦ inr same | inr none ↦ absurd none ] ]

-- a cut of a list with one element more is at that element, or a cut of the list
pub cut_last : {A : Type 0} (xs : List A) (y : A) (before after : List A) (x : A) → xs ++ y ∷ [] ≡ before ++ x ∷ after → ((before ≡ xs) × (x ≡ y)) ⊎ ((rest : List A) × (xs ≡ before ++ x ∷ rest))
cut_last [] y [] after x e = inl (refl, cc)
cut_last [] y (b ∷ []) after x e = absurd (cc)
cut_last [] y (b ∷ c ∷ bs) after x e = absurd (cc)
cut_last (z ∷ xs) y [] after x e = inr (xs, cc)
cut_last (z ∷ xs) y (b ∷ bs) after x e = elim (cut_last xs y bs after x (cc)) [
  | inl here ↦ inl (cc, here.1)
  | inr old ↦ inr (old.0, cc (old.1))
]

-- an element before another, both of which stand in a list, or behind it, or they are one
pub either_first : {A : Type 0} (x y : A) (before after : List A) → IsIn y (before ++ x ∷ after) → IsIn y before ⊎ ((y ≡ x) ⊎ IsIn y after)
either_first x y before after m = elim (in_split y before (x ∷ after) m) [ inl old ↦ inl old | inr new ↦ inr new ]

module _ {G C O : Type 0} (forks : ℕ → ℕ → ℕ → G → Type 0) (closes : ℕ → ℕ → C → Type 0) (may : G → O → Type 0) (is_fault : O → Bool) where
  pub run-front : (s : State G C O) (es fs : List (Event G C O)) → IsRunFrom forks closes may is_fault s (es ++ fs) → IsRunFrom forks closes may is_fault s es
  run-front s [] fs run = tt
  run-front s (e ∷ es) fs run = (run.0, run-front (after s e) es fs run.1)

  pub run-rest : (s : State G C O) (es fs : List (Event G C O)) → IsRunFrom forks closes may is_fault s (es ++ fs) → IsRunFrom forks closes may is_fault (after_all s es) fs
  run-rest s [] fs run = run
  run-rest s (e ∷ es) fs run = run-rest (after s e) es fs run.1

pub events-append : {E : Type 0} (acts more : List (ℕ × E)) → events_of (acts ++ more) ≡ events_of acts ++ events_of more
events-append acts more = map-append (λ a. a.1) acts more

pub events-in : {E : Type 0} (seat : ℕ) (e : E) (acts : List (ℕ × E)) → IsIn (seat, e) acts → IsIn e (events_of acts)
events-in seat e [] m = absurd m
events-in seat e (a ∷ acts) m = elim m [ inl same ↦ inl (ap (λ x. x.1) same) | inr n ↦ inr (events-in seat e acts n) ]

-- who entered an event
pub entered-by : {E : Type 0} (e : E) (acts : List (ℕ × E)) → IsIn e (events_of acts) → (seat : ℕ) × IsIn (seat, e) acts
entered-by e [] m = absurd m
entered-by e (a ∷ acts) m = elim m [
  | inl same ↦ (a.0, inl (ap (λ x. (a.0, x)) same))
  | inr n ↦ (let r = entered-by e acts n in (r.0, inr r.1))
]

own-append_by : {E : Type 0} (b : Bool) (e : E) (xs ys zs : List E) → zs ≡ xs ++ ys → (if b then (e ∷ zs) else zs) ≡ (if b then (e ∷ xs) else xs) ++ ys
own-append_by true e xs ys zs same = ap (λ l. e ∷ l) same
own-append_by false e xs ys zs same = same

pub own-append : {E : Type 0} (seat : ℕ) (acts more : List (ℕ × E)) → own seat (acts ++ more) ≡ own seat acts ++ own seat more
own-append seat [] more = refl
own-append seat (a ∷ acts) more = own-append_by (nat_eq a.0 seat) a.1 (own seat acts) (own seat more) (own seat (acts ++ more)) (own-append seat acts more)

in-if : {E : Type 0} (b : Bool) (x e : E) (xs : List E) → IsIn x (if b then (e ∷ xs) else xs) → ((b ≡ true) × (x ≡ e)) ⊎ IsIn x xs
in-if true x e xs m = elim m [ inl same ↦ inl (refl, same) | inr n ↦ inr n ]
in-if false x e xs m = inr m

if-in : {E : Type 0} (b : Bool) (x e : E) (xs : List E) → IsIn x xs → IsIn x (if b then (e ∷ xs) else xs)
if-in true x e xs m = inr m
if-in false x e xs m = m

if-here : {E : Type 0} (b : Bool) (x e : E) (xs : List E) → b ≡ true → x ≡ e → IsIn x (if b then (e ∷ xs) else xs)
if-here true x e xs b same = inl same
if-here false x e xs b same = absurd (cc)

entry-is : {E : Type 0} (a : ℕ × E) (seat : ℕ) (e : E) → a.0 ≡ seat → e ≡ a.1 → (seat, e) ≡ a
entry-is a seat e who what = λ i. (sym who i, what i)

-- what is among a seat's own events the seat entered, and back
pub own-in : {E : Type 0} (seat : ℕ) (e : E) (acts : List (ℕ × E)) → IsIn e (own seat acts) → IsIn (seat, e) acts
own-in seat e [] m = absurd m
own-in seat e (a ∷ acts) m = elim (in-if (nat_eq a.0 seat) e a.1 (own seat acts) m) [
  | inl here ↦ inl (entry-is a seat e (eqb-true a.0 seat here.0) here.1)
  | inr n ↦ inr (own-in seat e acts n)
]

pub in-own : {E : Type 0} (seat : ℕ) (e : E) (acts : List (ℕ × E)) → IsIn (seat, e) acts → IsIn e (own seat acts)
in-own seat e [] m = absurd m
in-own seat e (a ∷ acts) m = elim m [
  | inl same ↦ if-here (nat_eq a.0 seat) e a.1 (own seat acts) (eq-eqb a.0 seat (sym (ap (λ x. x.0) same))) (ap (λ x. x.1) same)
  | inr n ↦ if-in (nat_eq a.0 seat) e a.1 (own seat acts) (in-own seat e acts n)
]

-- the state after two lists of events
pub state-append : {G C O : Type 0} (o : _) (acts more : List (ℕ × Event G C O)) → state_of o (acts ++ more) ≡ after_all (state_of o acts) (events_of more)
state-append {G} {C} {O} o acts more = ap (after_all _) (events-append acts more) ∙ after_all-append _ (events_of acts) (events_of more)

-- stops and forks of lists of events, one after the other
pub stops-append : {G C O : Type 0} (es fs : List (Event G C O)) → stops (es ++ fs) ≡ stops es + stops fs
stops-append [] fs = omega arith
stops-append (TakeTheory i ∷ es) fs = stops-append es fs
stops-append (TakeProof n ∷ es) fs = stops-append es fs
stops-append (Fork i c g ∷ es) fs = stops-append es fs
stops-append (CloseTheory i c ∷ es) fs = stops-append es fs
stops-append (Deliver n o f ∷ es) fs = stops-append es fs
stops-append (Stop ∷ es) fs = let h = stops-append es fs in omega arith

forks-if : (b : Bool) (x y z : ℕ) → x ≡ y + z → (if b then (x + 1) else x) ≡ (if b then (y + 1) else y) + z
forks-if true x y z e = omega arith
forks-if false x y z e = e

pub forks-append : {G C O : Type 0} (i : ℕ) (es fs : List (Event G C O)) → forks_in i (es ++ fs) ≡ forks_in i es + forks_in i fs
forks-append i [] fs = omega arith
forks-append i (TakeTheory j ∷ es) fs = forks-append i es fs
forks-append i (TakeProof n ∷ es) fs = forks-append i es fs
forks-append i (Fork j c g ∷ es) fs = forks-if (nat_eq j i) (forks_in i (es ++ fs)) (forks_in i es) (forks_in i fs) (forks-append i es fs)
forks-append i (CloseTheory j c ∷ es) fs = forks-append i es fs
forks-append i (Deliver n o f ∷ es) fs = forks-append i es fs
forks-append i (Stop ∷ es) fs = forks-append i es fs
