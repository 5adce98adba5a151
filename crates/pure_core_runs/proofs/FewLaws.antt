-- Distinct numbers below a bound are no more than it says; so seats that stop the work, each once, are few.
use Rattle.std.proofs.Common.{◌≡◌, ◌≢◌, ◌∙◌, ◌<◌, ◌≤◌, ℕ, zero, suc, ◌+◌, List, [], ◌∷◌, length, refl, sym, ap, subst, arith, nat_eq, Bool, true, false, if◌then◌else◌, inl, inr}
use Rattle.std.proofs.lemmas.Bool.{eqb-true, eq-eqb}
use Rattle.pure_text.specs.Lists.{IsIn, Each, AreDistinct}
use Rattle.pure_machine.specs.State.{Event, TakeTheory, TakeProof, Fork, CloseTheory, Deliver, Stop}
use Rattle.pure_machine.specs.Parts.{is_stop}
use Rattle.pure_machine.specs.Step.{stops}
use Rattle.pure_core_runs.specs.Seats.{events_of, own}
use Rattle.pure_core_runs.proofs.SplitLaws.{stops-append}

-- a list without a number
abbrev without : ℕ → List ℕ → List ℕ
without w [] = []
without w (x ∷ xs) = if nat_eq x w then without w xs else x ∷ without w xs

without-none : (w : ℕ) (xs : List ℕ) → ¬ IsIn w xs → without w xs ≡ xs
without-none w [] none = refl
without-none w (x ∷ xs) none = by_flag (nat_eq x w) refl (without-none w xs (λ m. none (inr m)))
  where
    by_flag : (b : Bool) → nat_eq x w ≡ b → without w xs ≡ xs → (if b then without w xs else x ∷ without w xs) ≡ x ∷ xs
    by_flag true e rest = absurd (none (inl (sym (eqb-true x w e))))
    by_flag false e rest = ap (λ ys. x ∷ ys) rest

length-without : (w : ℕ) (xs : List ℕ) → AreDistinct xs → length xs ≤ length (without w xs) + 1
length-without w [] d = omega arith
length-without w (x ∷ xs) d = by_flag (nat_eq x w) refl (length-without w xs d.1)
  where
    by_flag : (b : Bool) → nat_eq x w ≡ b → length xs ≤ length (without w xs) + 1 → length (x ∷ xs) ≤ length (if b then without w xs else x ∷ without w xs) + 1
    by_flag true e rest = let same = ap length (without-none w xs (subst (λ y. ¬ IsIn y xs) (eqb-true x w e) d.0)) in omega arith
    by_flag false e rest = omega arith

in-without : (w y : ℕ) (xs : List ℕ) → IsIn y (without w xs) → IsIn y xs × (y ≢ w)
in-without w y [] m = absurd m
in-without w y (x ∷ xs) m = by_flag (nat_eq x w) refl (in-without w y xs) m
  where
    by_flag : (b : Bool) → nat_eq x w ≡ b → (IsIn y (without w xs) → IsIn y xs × (y ≢ w)) → IsIn y (if b then without w xs else x ∷ without w xs) → IsIn y (x ∷ xs) × (y ≢ w)
    by_flag true e old n = let rest = old n in (inr rest.0, rest.1)
    by_flag false e old n = elim n [
      | inl same ↦ (inl same, λ is. absurd (let found = eq-eqb x w (sym same ∙ is) in cc))
      | inr m ↦ (let rest = old m in (inr rest.0, rest.1))
    ]

distinct-without : (w : ℕ) (xs : List ℕ) → AreDistinct xs → AreDistinct (without w xs)
distinct-without w [] d = tt
distinct-without w (x ∷ xs) d = by_flag (nat_eq x w) (distinct-without w xs d.1)
  where
    by_flag : (b : Bool) → AreDistinct (without w xs) → AreDistinct (if b then without w xs else x ∷ without w xs)
    by_flag true rest = rest
    by_flag false rest = (λ m. d.0 (in-without w x xs m).0, rest)

-- distinct numbers below a bound are no more than it says
pub few_distinct : (w : ℕ) (xs : List ℕ) → AreDistinct xs → ((x : ℕ) → IsIn x xs → x < w) → length xs ≤ w
few_distinct zero [] d below = omega arith
few_distinct zero (x ∷ xs) d below = absurd (let low = below x (inl refl) in omega arith)
few_distinct (suc w) xs d below =
    let rest = few_distinct w (without w xs) (distinct-without w xs d) (λ x m. lower x (in-without w x xs m)) in
    let more = length-without w xs d in
    omega arith
  where
    lower : (x : ℕ) → IsIn x xs × (x ≢ w) → x < w
    lower x m = let low = below x m.0 in let other = m.1 in omega arith

module _ {G C O : Type 0} where
  -- the seats that stopped the work
  abbrev stoppers : List (ℕ × Event G C O) → List ℕ
  stoppers [] = []
  stoppers (a ∷ acts) = if is_stop a.1 then a.0 ∷ stoppers acts else stoppers acts

  one_stop : (e : Event G C O) (b : Bool) → is_stop e ≡ b → stops (e ∷ []) ≡ (if b then 1 else 0)
  one_stop (TakeTheory i) true is = absurd (cc)
  one_stop (TakeTheory i) false is = refl
  one_stop (TakeProof n) true is = absurd (cc)
  one_stop (TakeProof n) false is = refl
  one_stop (Fork i c g) true is = absurd (cc)
  one_stop (Fork i c g) false is = refl
  one_stop (CloseTheory i c) true is = absurd (cc)
  one_stop (CloseTheory i c) false is = refl
  one_stop (Deliver n o f) true is = absurd (cc)
  one_stop (Deliver n o f) false is = refl
  one_stop Stop true is = refl
  one_stop Stop false is = absurd (cc)

  length-stoppers : (acts : List (ℕ × Event G C O)) → length (stoppers acts) ≡ stops (events_of acts)
  length-stoppers [] = refl
  length-stoppers (a ∷ acts) = by_flag (is_stop a.1) refl (length-stoppers acts)
    where
      by_flag : (b : Bool) → is_stop a.1 ≡ b → length (stoppers acts) ≡ stops (events_of acts) → length (if b then a.0 ∷ stoppers acts else stoppers acts) ≡ stops (a.1 ∷ events_of acts)
      by_flag true is rest = let one = one_stop a.1 true is in let both = stops-append (a.1 ∷ []) (events_of acts) in omega arith
      by_flag false is rest = let one = one_stop a.1 false is in let both = stops-append (a.1 ∷ []) (events_of acts) in omega arith

  own-stops_more : (x : ℕ) (a : ℕ × Event G C O) (acts : List (ℕ × Event G C O)) → stops (own x acts) ≤ stops (own x (a ∷ acts))
  own-stops_more x a acts = by_flag (nat_eq a.0 x)
    where
      by_flag : (b : Bool) → stops (own x acts) ≤ stops (if b then a.1 ∷ own x acts else own x acts)
      by_flag true = let both = stops-append (a.1 ∷ []) (own x acts) in omega arith
      by_flag false = omega arith

  own-stops_here : (a : ℕ × Event G C O) (acts : List (ℕ × Event G C O)) → is_stop a.1 ≡ true → stops (own a.0 (a ∷ acts)) ≡ stops (own a.0 acts) + 1
  own-stops_here a acts is = by_flag (nat_eq a.0 a.0) (eq-eqb a.0 a.0 refl)
    where
      by_flag : (b : Bool) → b ≡ true → stops (if b then a.1 ∷ own a.0 acts else own a.0 acts) ≡ stops (own a.0 acts) + 1
      by_flag true e = let one = one_stop a.1 true is in let both = stops-append (a.1 ∷ []) (own a.0 acts) in omega arith
      by_flag false e = absurd (cc)

  stopper-stops : (x : ℕ) (acts : List (ℕ × Event G C O)) → IsIn x (stoppers acts) → 1 ≤ stops (own x acts)
  stopper-stops x [] m = absurd m
  stopper-stops x (a ∷ acts) m = by_flag (is_stop a.1) refl (stopper-stops x acts) m
    where
      by_flag : (b : Bool) → is_stop a.1 ≡ b → (IsIn x (stoppers acts) → 1 ≤ stops (own x acts)) → IsIn x (if b then a.0 ∷ stoppers acts else stoppers acts) → 1 ≤ stops (own x (a ∷ acts))
      by_flag true is before n = elim n [
        | inl same ↦ (let here = own-stops_here a acts is in subst (λ y. 1 ≤ stops (own y (a ∷ acts))) (sym same) (omega arith))
        | inr old ↦ (let rest = before old in let more = own-stops_more x a acts in omega arith)
      ]
      by_flag false is before n = let rest = before n in let more = own-stops_more x a acts in omega arith

  stoppers-distinct : (acts : List (ℕ × Event G C O)) → ((x : ℕ) → stops (own x acts) ≤ 1) → AreDistinct (stoppers acts)
  stoppers-distinct [] once = tt
  stoppers-distinct (a ∷ acts) once = by_flag (is_stop a.1) refl (stoppers-distinct acts (λ x. let more = own-stops_more x a acts in let one = once x in omega arith))
    where
      by_flag : (b : Bool) → is_stop a.1 ≡ b → AreDistinct (stoppers acts) → AreDistinct (if b then a.0 ∷ stoppers acts else stoppers acts)
      by_flag true is rest = (λ m. absurd (let old = stopper-stops a.0 acts m in let here = own-stops_here a acts is in let one = once a.0 in omega arith), rest)
      by_flag false is rest = rest

  stopper-below : (x w : ℕ) (acts : List (ℕ × Event G C O)) → Each (λ a. a.0 < w) acts → IsIn x (stoppers acts) → x < w
  stopper-below x w [] few m = absurd m
  stopper-below x w (a ∷ acts) few m = by_flag (is_stop a.1) (stopper-below x w acts few.1) m
    where
      by_flag : (b : Bool) → (IsIn x (stoppers acts) → x < w) → IsIn x (if b then a.0 ∷ stoppers acts else stoppers acts) → x < w
      by_flag true before n = elim n [ inl same ↦ subst (λ y. y < w) (sym same) few.0 | inr old ↦ before old ]
      by_flag false before n = before n

  -- where each of the seats stopped the work once at most, and one of them never did, there are fewer stops than seats
  pub few_stops : (w seat : ℕ) (acts : List (ℕ × Event G C O)) → Each (λ a. a.0 < w) acts → ((x : ℕ) → stops (own x acts) ≤ 1) → seat < w → stops (own seat acts) ≡ 0 → stops (events_of acts) < w
  few_stops w seat acts few once within none =
      let most = few_distinct w (seat ∷ stoppers acts) ((λ m. absurd (let some = stopper-stops seat acts m in omega arith)), stoppers-distinct acts once) below in
      let same = length-stoppers acts in
      omega arith
    where
      below : (x : ℕ) → IsIn x (seat ∷ stoppers acts) → x < w
      below x m = elim m [ inl is ↦ subst (λ y. y < w) (sym is) within | inr old ↦ stopper-below x w acts few old ]
