-- Promises that a stable sort puts into load order.
use Rattle.std.proofs.Common.{◌≡◌, ◌≢◌, ◌∙◌, ◌⊎◌, ◌<◌, ◌≤◌, ℕ, suc, List, [], ◌∷◌, ◌++◌, length, get_or, filter, cond, nat_eq, nat_lt, refl, sym, ap, arith, Bool, true, false, not, ◌&&◌, inl, inr, eq-or-lt_of_le}
use Rattle.std.specs.Ordering.{is_lt, nat_cmp}
use Rattle.std.specs.declared.cmp.Ordering.TheVariants.{Less, Equal, Greater}
use Rattle.std.specs.List.Sorted.{IsNonDecreasingBy, IsSortedByKey, IsStableByKey, ties}
use Rattle.std.proofs.lemmas.Bool.{le-ltb, lt-ltb, cases_lt}
use Rattle.std.proofs.lemmas.List.Elements.{filter_agree}
use Rattle.std.proofs.lemmas.List.Sorted.{IsNonDecreasingBy-from_sort}
use Rattle.pure_machine.specs.State.{Promise}
use Rattle.pure_core_end.specs.Promises.{promises_of, AreInOrder}
use Rattle.pure_core_end.proofs.OriginLaws.{same_or_not}

-- numbers tie where neither is less
nat_cmp-ltb : (m n : ℕ) → is_lt (nat_cmp m n) ≡ nat_lt m n
nat_cmp-ltb m n = by_tests (nat_lt m n) (nat_eq m n)
  where
    by_tests : (b c : Bool) → is_lt (cond b Less (cond c Equal Greater)) ≡ b
    by_tests true c = refl
    by_tests false true = refl
    by_tests false false = refl

tie-same : (m n : ℕ) → (not (is_lt (nat_cmp m n)) && not (is_lt (nat_cmp n m))) ≡ nat_eq n m
tie-same m n = elim (same_or_not n m) [
  | inl same ↦ (λ k. not ((nat_cmp-ltb m n ∙ le-ltb m n (omega (arith, same.1))) k) && not ((nat_cmp-ltb n m ∙ le-ltb n m (omega (arith, same.1))) k)) ∙ sym same.0
  | inr apart ↦ elim (cases_lt m n) [
    | inl less ↦ ap (λ b. not b && not (is_lt (nat_cmp n m))) (nat_cmp-ltb m n ∙ lt-ltb m n less) ∙ sym apart.0
    | inr most ↦ elim (eq-or-lt_of_le most) [
      | inl same ↦ absurd (apart.1 same)
      | inr less ↦ second (not (is_lt (nat_cmp m n))) (is_lt (nat_cmp n m)) (nat_cmp-ltb n m ∙ lt-ltb n m less) ∙ sym apart.0
    ]
  ]
]
  where
    second : (b c : Bool) → c ≡ true → (b && not c) ≡ false
    second true c e = ap not e
    second false c e = refl

-- a promise of the theory, or none
some_or_none : {G O : Type 0} (i : ℕ) (ps : List (Promise G O)) → ((p : Promise G O) × (p.theory ≡ i)) ⊎ (promises_of i ps ≡ [])
some_or_none i [] = inr refl
some_or_none {G} {O} i (p ∷ ps) = elim (same_or_not p.theory i) [
  | inl same ↦ inl (p, same.1)
  | inr apart ↦ elim (some_or_none i ps) [
    | inl there ↦ inl there
    | inr none ↦ inr (ap (λ b. cond b (p ∷ promises_of i ps) (promises_of i ps)) apart.0 ∙ none)
  ]
]

-- what ties with a promise of the theory is one of the theory
kept-by : {G O : Type 0} (xs ys : List (Promise G O)) → IsStableByKey (λ (p : Promise G O). p.theory) nat_cmp xs ys → (i : ℕ) (z : Promise G O) → z.theory ≡ i → promises_of i ys ≡ promises_of i xs
kept-by {G} {O} xs ys stable i z at = sym (agree ys) ∙ stable z ∙ agree xs
  where
    tie : Promise G O → Bool
    tie = ties (λ (x y : Promise G O). is_lt (nat_cmp x.theory y.theory)) z

    agree : (zs : List (Promise G O)) → filter (ties (λ (x y : Promise G O). is_lt (nat_cmp x.theory y.theory)) z) zs ≡ promises_of i zs
    agree zs = filter_agree (ties (λ (x y : Promise G O). is_lt (nat_cmp x.theory y.theory)) z) (λ p. nat_eq p.theory i) (λ y. tie-same z.theory y.theory ∙ ap (nat_eq y.theory) at) zs

-- a list that was sorted by theories and keeps those of one theory as they stood
pub in-order : {G O : Type 0} (xs ys : List (Promise G O)) → IsSortedByKey (λ (p : Promise G O). p.theory) nat_cmp ys → IsStableByKey (λ (p : Promise G O). p.theory) nat_cmp xs ys → AreInOrder xs ys
in-order {G} {O} xs ys sorted stable = record {
  rise = IsNonDecreasingBy-from_sort (λ (p : Promise G O). p.theory) ys sorted;
  same = λ i. elim (some_or_none i ys) [
    | inl there ↦ kept-by xs ys stable i there.0 there.1
    | inr none ↦ elim (some_or_none i xs) [
      | inl there ↦ kept-by xs ys stable i there.0 there.1
      | inr neither ↦ none ∙ sym neither
    ]
  ];
}

-- no theory comes before the number, nor before one that stands in front of it
abbrev pub Rises : {G O : Type 0} → (number : ℕ) → List (Promise G O) → Type 0
Rises i [] = Unit {0}
Rises i (p ∷ ps) = (i ≤ p.theory) × Rises p.theory ps

pub rises : {G O : Type 0} (i : ℕ) (ps : List (Promise G O)) → IsNonDecreasingBy (λ (p : Promise G O). p.theory) ps → ((d : Promise G O) → 0 < length ps → i ≤ (get_or ps 0 d).theory) → Rises i ps
rises i [] up low = tt
rises i (p ∷ ps) up low = (low p (omega arith), rises p.theory ps (λ a b d le within. up (suc a) (suc b) d (omega (arith, le)) (omega (arith, within))) (λ d within. up 0 1 d (omega arith) (omega (arith, within))))

lower : {G O : Type 0} (a b : ℕ) (ps : List (Promise G O)) → b ≤ a → Rises a ps → Rises b ps
lower a b [] le r = tt
lower a b (p ∷ ps) le r = (omega (arith, le, r.0), r.1)

none-above : {G O : Type 0} (i : ℕ) (ps : List (Promise G O)) → Rises (suc i) ps → promises_of i ps ≡ []
none-above i [] r = refl
none-above i (p ∷ ps) r = elim (same_or_not p.theory i) [
  | inl same ↦ absurd (omega (arith, same.1, r.0))
  | inr apart ↦ ap (λ b. cond b (p ∷ promises_of i ps) (promises_of i ps)) apart.0 ∙ none-above i ps (lower p.theory (suc i) ps r.0 r.1)
]

-- the promises of one theory stand in front of those of the next ones
pub cut : {G O : Type 0} (i : ℕ) (ps : List (Promise G O)) → Rises i ps
    → (own : List (Promise G O)) × (others : List (Promise G O)) × (ps ≡ own ++ others) × (promises_of i ps ≡ own) × Rises (suc i) others × ((j : ℕ) → i < j → promises_of j ps ≡ promises_of j others)
cut i [] r = ([], [], refl, refl, tt, λ j low. refl)
cut {G} {O} i (p ∷ ps) r = elim (same_or_not p.theory i) [
  | inl same ↦ (let rest = cut i ps (lower p.theory i ps (omega (arith, same.1)) r.1) in (
    p ∷ rest.0,
    rest.1,
    ap (λ xs. p ∷ xs) rest.2,
    ap (λ b. cond b (p ∷ promises_of i ps) (promises_of i ps)) same.0 ∙ ap (λ xs. p ∷ xs) rest.3,
    rest.4,
    λ j low. later j low (same_or_not p.theory j) same.1 ∙ rest.5 j low,
  ))
  | inr apart ↦ (let next : Rises (suc i) (p ∷ ps) = (above r.0 apart.1, r.1) in ([], p ∷ ps, refl, none-above i (p ∷ ps) next, next, λ j low. refl))
]
  where
    above : {a b : ℕ} → a ≤ b → b ≢ a → suc a ≤ b
    above le other = elim (eq-or-lt_of_le le) [ inl same ↦ absurd (other (sym same)) | inr less ↦ omega (arith, less) ]

    later : (j : ℕ) → i < j → ((nat_eq p.theory j ≡ true) × (p.theory ≡ j)) ⊎ ((nat_eq p.theory j ≡ false) × (p.theory ≢ j)) → p.theory ≡ i → promises_of j (p ∷ ps) ≡ promises_of j ps
    later j low (inl here) same = absurd (omega (arith, low, here.1, same))
    later j low (inr there) same = ap (λ b. cond b (p ∷ promises_of j ps) (promises_of j ps)) there.0
