-- Promises in load order are one list, and what is counted and cut there is counted and cut in all promises.
use Rattle.std.proofs.Common.{◌≡◌, ◌≢◌, ◌∙◌, ◌≤◌, ◌<◌, ℕ, zero, suc, ◌+◌, List, [], ◌∷◌, ◌++◌, length, refl, sym, ap, subst, arith, nat_eq, Bool, true, false, cond, inl, inr}
use Rattle.std.specs.Prelude.{slice_index_or}
use Rattle.std.specs.List.Sorted.{IsNonDecreasingBy}
use Rattle.std.proofs.lemmas.Bool.{eqb-true, eq-eqb}
use Rattle.std.proofs.lemmas.List.Elements.{filter-append}
use Rattle.pure_text.specs.Lists.{IsIn, Each}
use Rattle.pure_text.proofs.ListLaws.{each_at, in_split}
use Rattle.pure_machine.specs.State.{Promise}
use Rattle.pure_core_end.specs.Promises.{promises_of, AreInOrder}
use Rattle.pure_core_runs.proofs.SeatLaws.{cut_append}
use Rattle.pure_policy_laws.proofs.CountLaws.{one_if, counted, counted-append}

-- the theory is one of the first so many
abbrev pub IsAmong : (count theory : ℕ) → Type 0
IsAmong count i = (1 ≤ i) × (i ≤ count)

module _ {G O : Type 0} where
  -- the promises of the first so many theories, one theory after the other
  abbrev pub by_theory : (count : ℕ) → List (Promise G O) → List (Promise G O)
  by_theory zero ps = []
  by_theory (suc i) ps = by_theory i ps ++ promises_of (suc i) ps

  -- the theories never fall
  abbrev pub Rises : List (Promise G O) → Type 0
  Rises [] = Unit {0}
  Rises (p ∷ ps) = Each (λ q. p.theory ≤ q.theory) ps × Rises ps

  above-from : (p : Promise G O) (qs : List (Promise G O)) → ((j : ℕ) → j < length qs → p.theory ≤ (slice_index_or qs j p).theory) → Each (λ q. p.theory ≤ q.theory) qs
  above-from p [] f = tt
  above-from p (q ∷ qs) f = (f zero (omega arith), above-from p qs (λ j within. f (suc j) (omega arith)))

  rises-from : (ps : List (Promise G O)) → IsNonDecreasingBy (λ (p : Promise G O). p.theory) ps → Rises ps
  rises-from [] h = tt
  rises-from (p ∷ ps) h = (above-from p ps (λ j within. h zero (suc j) p (omega arith) (omega arith)), rises-from ps (λ i j d low within. h (suc i) (suc j) d (omega arith) (omega arith)))

  -- a theory without promises
  none-of : (i : ℕ) (ps : List (Promise G O)) → ((q : Promise G O) → IsIn q ps → q.theory ≢ i) → promises_of i ps ≡ []
  none-of i [] h = refl
  none-of i (p ∷ ps) h = by_flag (nat_eq p.theory i) refl (none-of i ps (λ q m. h q (inr m)))
    where
      by_flag : (b : Bool) → nat_eq p.theory i ≡ b → promises_of i ps ≡ [] → cond b (p ∷ promises_of i ps) (promises_of i ps) ≡ []
      by_flag true is rest = absurd (h p (inl refl) (eqb-true p.theory i is))
      by_flag false is rest = rest

  none-by_theory : (n : ℕ) (ps : List (Promise G O)) → ((q : Promise G O) → IsIn q ps → n < q.theory) → by_theory n ps ≡ []
  none-by_theory zero ps h = refl
  none-by_theory (suc i) ps h = ap (λ l. l ++ promises_of (suc i) ps) (none-by_theory i ps (λ q m. let low = h q m in omega arith)) ∙ none-of (suc i) ps (λ q m same. absurd (let low = h q m in omega arith))

  skip-of : (i : ℕ) (p : Promise G O) (ps : List (Promise G O)) → p.theory ≢ i → promises_of i (p ∷ ps) ≡ promises_of i ps
  skip-of i p ps other = by_flag (nat_eq p.theory i) refl
    where
      by_flag : (b : Bool) → nat_eq p.theory i ≡ b → cond b (p ∷ promises_of i ps) (promises_of i ps) ≡ promises_of i ps
      by_flag true is = absurd (other (eqb-true p.theory i is))
      by_flag false is = refl

  take-of : (i : ℕ) (p : Promise G O) (ps : List (Promise G O)) → p.theory ≡ i → promises_of i (p ∷ ps) ≡ p ∷ promises_of i ps
  take-of i p ps same = ap (λ b. cond b (p ∷ promises_of i ps) (promises_of i ps)) (eq-eqb p.theory i same)

  skip-by_theory : (n : ℕ) (p : Promise G O) (ps : List (Promise G O)) → n < p.theory → by_theory n (p ∷ ps) ≡ by_theory n ps
  skip-by_theory zero p ps above = refl
  skip-by_theory (suc i) p ps above = ap (λ l. l ++ promises_of (suc i) (p ∷ ps)) (skip-by_theory i p ps (omega arith)) ∙ ap (λ l. by_theory i ps ++ l) (skip-of (suc i) p ps (λ same. absurd (omega arith)))

  -- the first of rising promises is the first in load order
  front-by_theory : (n : ℕ) (p : Promise G O) (ps : List (Promise G O)) → IsAmong n p.theory → Each (λ q. p.theory ≤ q.theory) ps → by_theory n (p ∷ ps) ≡ p ∷ by_theory n ps
  front-by_theory zero p ps among above = absurd (let low = among.0 in let high = among.1 in omega arith)
  front-by_theory (suc i) p ps among above = by_flag (nat_eq p.theory (suc i)) refl (λ lower. front-by_theory i p ps lower above)
    where
      by_flag : (b : Bool) → nat_eq p.theory (suc i) ≡ b → (IsAmong i p.theory → by_theory i (p ∷ ps) ≡ p ∷ by_theory i ps) → by_theory (suc i) (p ∷ ps) ≡ p ∷ by_theory (suc i) ps
      by_flag true is before =
          let same : p.theory ≡ suc i = eqb-true p.theory (suc i) is in
          ap (λ l. l ++ promises_of (suc i) (p ∷ ps)) (skip-by_theory i p ps (omega arith) ∙ none) ∙ take-of (suc i) p ps same ∙ ap (λ l. p ∷ (l ++ promises_of (suc i) ps)) (sym none)
        where
          none : by_theory i ps ≡ []
          none = none-by_theory i ps (λ q m. let low = each_at (λ q. p.theory ≤ q.theory) ps above q m in let same = eqb-true p.theory (suc i) is in omega arith)
      by_flag false is before =
          let other : p.theory ≢ suc i = (λ same. absurd (let found = eq-eqb p.theory (suc i) same in cc)) in
          let low = among.0 in let high = among.1 in
          ap (λ l. l ++ promises_of (suc i) (p ∷ ps)) (before (omega arith, omega arith)) ∙ ap (λ l. (p ∷ by_theory i ps) ++ l) (skip-of (suc i) p ps other)

  nothing-by_theory : (n : ℕ) → by_theory n [] ≡ []
  nothing-by_theory zero = refl
  nothing-by_theory (suc i) = ap (λ l. l ++ []) (nothing-by_theory i)

  -- rising promises are in load order
  pub rising-by_theory : (n : ℕ) (ps : List (Promise G O)) → Rises ps → ((q : Promise G O) → IsIn q ps → IsAmong n q.theory) → by_theory n ps ≡ ps
  rising-by_theory n [] rises among = nothing-by_theory n
  rising-by_theory n (p ∷ ps) rises among = front-by_theory n p ps (among p (inl refl)) rises.0 ∙ ap (λ l. p ∷ l) (rising-by_theory n ps rises.1 (λ q m. among q (inr m)))

  same-by_theory : (n : ℕ) (xs ys : List (Promise G O)) → ((i : ℕ) → promises_of i xs ≡ promises_of i ys) → by_theory n xs ≡ by_theory n ys
  same-by_theory zero xs ys same = refl
  same-by_theory (suc i) xs ys same = ap (λ l. l ++ promises_of (suc i) xs) (same-by_theory i xs ys same) ∙ ap (λ l. by_theory i ys ++ l) (same (suc i))

  in-of : (i : ℕ) (q : Promise G O) (ps : List (Promise G O)) → IsIn q (promises_of i ps) → IsIn q ps × (q.theory ≡ i)
  in-of i q [] m = absurd m
  in-of i q (p ∷ ps) m = by_flag (nat_eq p.theory i) refl (in-of i q ps) m
    where
      by_flag : (b : Bool) → nat_eq p.theory i ≡ b → (IsIn q (promises_of i ps) → IsIn q ps × (q.theory ≡ i)) → IsIn q (cond b (p ∷ promises_of i ps) (promises_of i ps)) → IsIn q (p ∷ ps) × (q.theory ≡ i)
      by_flag true is before n = elim n [
        | inl same ↦ (inl same, ap (λ x. x.theory) same ∙ eqb-true p.theory i is)
        | inr old ↦ (let rest = before old in (inr rest.0, rest.1))
      ]
      by_flag false is before n = let rest = before n in (inr rest.0, rest.1)

  of-in : (q : Promise G O) (ps : List (Promise G O)) → IsIn q ps → IsIn q (promises_of q.theory ps)
  of-in q [] m = absurd m
  of-in q (p ∷ ps) m = elim m [
    | inl same ↦ subst (IsIn q) (sym (take-of q.theory p ps (ap (λ x. x.theory) (sym same)))) (inl same)
    | inr old ↦ by_flag (nat_eq p.theory q.theory) (of-in q ps old)
  ]
    where
      by_flag : (b : Bool) → IsIn q (promises_of q.theory ps) → IsIn q (cond b (p ∷ promises_of q.theory ps) (promises_of q.theory ps))
      by_flag true n = inr n
      by_flag false n = n

  -- promises in load order are one list
  pub ordered-is : (n : ℕ) (ps ordered : List (Promise G O)) → AreInOrder ps ordered → ((q : Promise G O) → IsIn q ps → IsAmong n q.theory) → ordered ≡ by_theory n ps
  ordered-is n ps ordered h among = sym (rising-by_theory n ordered (rises-from ordered h.rise) (λ q m. among q (in-of q.theory q ps (subst (IsIn q) (h.same q.theory) (of-in q ordered m))).0)) ∙ same-by_theory n ordered ps h.same

  -- what is counted in load order is counted in all promises
  count-one : (f : Promise G O → Bool) (n : ℕ) (p : Promise G O) (ps : List (Promise G O)) → IsAmong n p.theory → counted f (by_theory n (p ∷ ps)) ≡ one_if (f p) + counted f (by_theory n ps)
  count-one f zero p ps among = absurd (let low = among.0 in let high = among.1 in omega arith)
  count-one f (suc i) p ps among = by_flag (nat_eq p.theory (suc i)) refl (count-one f i p ps)
    where
      by_flag : (b : Bool) → nat_eq p.theory (suc i) ≡ b → (IsAmong i p.theory → counted f (by_theory i (p ∷ ps)) ≡ one_if (f p) + counted f (by_theory i ps)) → counted f (by_theory (suc i) (p ∷ ps)) ≡ one_if (f p) + counted f (by_theory (suc i) ps)
      by_flag true is before =
          let same : p.theory ≡ suc i = eqb-true p.theory (suc i) is in
          let front = ap (counted f) (skip-by_theory i p ps (omega arith)) in
          let back = ap (counted f) (take-of (suc i) p ps same) in
          let one = counted-append f (by_theory i (p ∷ ps)) (promises_of (suc i) (p ∷ ps)) in
          let two = counted-append f (by_theory i ps) (promises_of (suc i) ps) in
          omega arith
      by_flag false is before =
          let other : p.theory ≢ suc i = (λ same. absurd (let found = eq-eqb p.theory (suc i) same in cc)) in
          let low = among.0 in let high = among.1 in
          let front = before (omega arith, omega arith) in
          let back = ap (counted f) (skip-of (suc i) p ps other) in
          let one = counted-append f (by_theory i (p ∷ ps)) (promises_of (suc i) (p ∷ ps)) in
          let two = counted-append f (by_theory i ps) (promises_of (suc i) ps) in
          omega arith

  pub count-by_theory : (f : Promise G O → Bool) (n : ℕ) (ps : List (Promise G O)) → ((q : Promise G O) → IsIn q ps → IsAmong n q.theory) → counted f (by_theory n ps) ≡ counted f ps
  count-by_theory f n [] among = ap (counted f) (nothing-by_theory n)
  count-by_theory f n (p ∷ ps) among = count-one f n p ps (among p (inl refl)) ∙ ap (λ k. one_if (f p) + k) (count-by_theory f n ps (λ q m. among q (inr m)))

  -- and what stands there is one of them
  pub in-by_theory : (n : ℕ) (q : Promise G O) (ps : List (Promise G O)) → IsIn q (by_theory n ps) → IsIn q ps × (q.theory ≤ n)
  in-by_theory zero q ps m = absurd m
  in-by_theory (suc i) q ps m = elim (in_split q (by_theory i ps) (promises_of (suc i) ps) m) [
    | inl old ↦ (let rest = in-by_theory i q ps old in let high = rest.1 in (rest.0, omega arith))
    | inr new ↦ (let rest = in-of (suc i) q ps new in let same = rest.1 in (rest.0, omega arith))
  ]

  -- a cut of a theory's promises is one of all
  cut-of : (i : ℕ) (ps before after : List (Promise G O)) (p : Promise G O) → promises_of i ps ≡ before ++ p ∷ after → (b : List (Promise G O)) × (a : List (Promise G O)) × (ps ≡ b ++ p ∷ a) × (before ≡ promises_of i b)
  cut-of i [] [] after p e = absurd (cc)
  cut-of i [] (b ∷ before) after p e = absurd (cc)
  cut-of i (q ∷ ps) before after p e = by_flag (nat_eq q.theory i) refl (λ bs. cut-of i ps bs after p) e
    where
      passed : q.theory ≢ i → ((bs : List (Promise G O)) → promises_of i ps ≡ bs ++ p ∷ after → (b : List (Promise G O)) × (a : List (Promise G O)) × (ps ≡ b ++ p ∷ a) × (bs ≡ promises_of i b)) → promises_of i ps ≡ before ++ p ∷ after → (b : List (Promise G O)) × (a : List (Promise G O)) × (q ∷ ps ≡ b ++ p ∷ a) × (before ≡ promises_of i b)
      passed other found same = let rest = found before same in (q ∷ rest.0, rest.1, ap (λ l. q ∷ l) rest.2, rest.3 ∙ sym (skip-of i q rest.0 other))

      met : q.theory ≡ i → ((bs : List (Promise G O)) → promises_of i ps ≡ bs ++ p ∷ after → (b : List (Promise G O)) × (a : List (Promise G O)) × (ps ≡ b ++ p ∷ a) × (bs ≡ promises_of i b)) → (front : List (Promise G O)) → before ≡ front → q ∷ promises_of i ps ≡ front ++ p ∷ after → (b : List (Promise G O)) × (a : List (Promise G O)) × (q ∷ ps ≡ b ++ p ∷ a) × (before ≡ promises_of i b)
      met same found [] is cut = let head : q ≡ p = cc in ([], ps, ap (λ x. x ∷ ps) head, is)
      met same found (f ∷ front) is cut =
          let head : q ≡ f = cc in
          let tail : promises_of i ps ≡ front ++ p ∷ after = cc in
          let rest = found front tail in
          (q ∷ rest.0, rest.1, ap (λ l. q ∷ l) rest.2, is ∙ ap (λ x. x ∷ front) (sym head) ∙ ap (λ l. q ∷ l) rest.3 ∙ sym (take-of i q rest.0 same))

      by_flag : (b : Bool) → nat_eq q.theory i ≡ b → ((bs : List (Promise G O)) → promises_of i ps ≡ bs ++ p ∷ after → (b : List (Promise G O)) × (a : List (Promise G O)) × (ps ≡ b ++ p ∷ a) × (bs ≡ promises_of i b)) → cond b (q ∷ promises_of i ps) (promises_of i ps) ≡ before ++ p ∷ after → (b : List (Promise G O)) × (a : List (Promise G O)) × (q ∷ ps ≡ b ++ p ∷ a) × (before ≡ promises_of i b)
      by_flag true is found cut = met (eqb-true q.theory i is) found before refl cut
      by_flag false is found cut = passed (λ same. absurd (let equal = eq-eqb q.theory i same in cc)) found cut

  twice-of : (i : ℕ) (ps : List (Promise G O)) → promises_of i (promises_of i ps) ≡ promises_of i ps
  twice-of i [] = refl
  twice-of i (p ∷ ps) = by_flag (nat_eq p.theory i) refl (twice-of i ps)
    where
      by_flag : (b : Bool) → nat_eq p.theory i ≡ b → promises_of i (promises_of i ps) ≡ promises_of i ps → promises_of i (cond b (p ∷ promises_of i ps) (promises_of i ps)) ≡ cond b (p ∷ promises_of i ps) (promises_of i ps)
      by_flag true is rest = take-of i p (promises_of i ps) (eqb-true p.theory i is) ∙ ap (λ l. p ∷ l) rest
      by_flag false is rest = rest

  -- a cut in load order is one of all promises, with as many of its theory before it
  pub cut-by_theory : (n : ℕ) (ps before after : List (Promise G O)) (p : Promise G O) → by_theory n ps ≡ before ++ p ∷ after → (b : List (Promise G O)) × (a : List (Promise G O)) × (ps ≡ b ++ p ∷ a) × (promises_of p.theory before ≡ promises_of p.theory b)
  cut-by_theory zero ps [] after p e = absurd (cc)
  cut-by_theory zero ps (b ∷ before) after p e = absurd (cc)
  cut-by_theory (suc i) ps before after p e = elim (cut_append (by_theory i ps) (promises_of (suc i) ps) before after p e) [
    | inl old ↦ cut-by_theory i ps before old.0 p old.1
    | inr new ↦ within new.0 new.1 new.2
  ]
    where
      within : (front : List (Promise G O)) → before ≡ by_theory i ps ++ front → promises_of (suc i) ps ≡ front ++ p ∷ after → (b : List (Promise G O)) × (a : List (Promise G O)) × (ps ≡ b ++ p ∷ a) × (promises_of p.theory before ≡ promises_of p.theory b)
      within front is cut =
          let at = cut-of (suc i) ps front after p cut in
          (at.0, at.1, at.2, subst (λ k. promises_of k before ≡ promises_of k at.0) (sym theory) (ap (promises_of (suc i)) is ∙ filter-append (λ (q : Promise G O). nat_eq q.theory (suc i)) (by_theory i ps) front ∙ ap (λ l. l ++ promises_of (suc i) front) none ∙ ap (promises_of (suc i)) at.3 ∙ twice-of (suc i) at.0))
        where
          theory : p.theory ≡ suc i
          theory = (in-of (suc i) p ps (subst (IsIn p) (sym cut) (last front))).1
            where
              last : (xs : List (Promise G O)) → IsIn p (xs ++ p ∷ after)
              last [] = inl refl
              last (x ∷ xs) = inr (last xs)

          none : promises_of (suc i) (by_theory i ps) ≡ []
          none = none-of (suc i) (by_theory i ps) (λ q m same. absurd (let high = (in-by_theory i q ps m).1 in omega arith))
