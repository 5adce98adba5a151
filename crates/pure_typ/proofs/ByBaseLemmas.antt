-- The names that have a base, and a map that gives them.
use Rattle.std.proofs.Common.{◌≡◌, ◌↔◌, ℕ, zero, suc, ◌+◌, ◌<◌, ◌≤◌, List, [], ◌∷◌, ◌++◌, length, refl, ap, sym, ◌∙◌, inl, inr, arith, filter, append-nil, true≢false}
use Rattle.std.proofs.lemmas.List.Elements.{filter-append}
use Rattle.std.proofs.lemmas.List.FromFn.{length-range_with_len, get_or-range_with_len}
use Rattle.std.proofs.lemmas.List.Kept.{IsStrictlyIncreasing-filter}
use Rattle.std.proofs.lemmas.Bool.Decides.{eqb_tells}
use Rattle.std.proofs.lemmas.Option.{slice_get_within}
use Rattle.std.specs.List.{range_with_len}
use Rattle.std.specs.List.Sorted.{IsStrictlyIncreasing}
use Rattle.std.specs.Option.{option_map_or}
use Rattle.std.specs.Prelude.{Option, Some, None, Bool, true, false, cond, bytes_eq}
use Rattle.std.specs.Cmp.Lexicographic.{bytes_decides}
use Rattle.pure_text.specs.Lists.{IsIn}
use Rattle.pure_typ.specs.NameTexts.{name_texts, NameHasBase}
use Rattle.pure_typ.specs.NameBases.{name_base, has_base, names_with_base}
use Rattle.pure_typ.proofs.BaseLemmas.{name-has, name-is}

range-more : (a n : ℕ) → range_with_len a (n + 1) ≡ range_with_len a n ++ (a + n) ∷ []
range-more a zero = let e : a + 0 ≡ a = omega arith in rw e refl
range-more a (suc n) =
    let longer : suc n + 1 ≡ suc (n + 1) = omega arith in
    let last : a + 1 + n ≡ a + suc n = omega arith in
    rw longer (ap (λ xs. a ∷ xs) (range-more (a + 1) n ∙ ap (λ m. range_with_len (a + 1) n ++ m ∷ []) last))

-- one number more
pub with-more : (test : ℕ → Bool) (n : ℕ) → cond (test n) (filter test (range_with_len 0 n) ++ n ∷ []) (filter test (range_with_len 0 n)) ≡ filter test (range_with_len 0 (n + 1))
with-more test n =
    let last : 0 + n ≡ n = omega arith in
    let joined : filter test (range_with_len 0 (n + 1)) ≡ filter test (range_with_len 0 n) ++ cond (test n) (n ∷ []) [] =
    ap (filter test) (range-more 0 n ∙ ap (λ m. range_with_len 0 n ++ m ∷ []) last) ∙ filter-append test (range_with_len 0 n) (n ∷ []) in
    by (test n) (filter test (range_with_len 0 n)) ∙ sym joined
  where
    by : (b : Bool) (xs : List ℕ) → cond b (xs ++ n ∷ []) xs ≡ xs ++ cond b (n ∷ []) []
    by true xs = refl
    by false xs = sym (append-nil xs)

-- The numbers of a range that pass a test.
in-range : (test : ℕ → Bool) (a n m : ℕ) → IsIn m (filter test (range_with_len a n)) ↔ (a ≤ m) × (m < a + n) × (test m ≡ true)
in-range test a zero m = (λ i. absurd i, λ h. absurd (omega (arith, h.0, h.1)))
in-range test a (suc n) m = by (test a) refl (in-range test (a + 1) n m)
  where
    wider : (a + 1 ≤ m) × (m < a + 1 + n) × (test m ≡ true) → (a ≤ m) × (m < a + suc n) × (test m ≡ true)
    wider h = (omega (arith, h.0), omega (arith, h.1), h.2)

    by : (b : Bool) → test a ≡ b → (IsIn m (filter test (range_with_len (a + 1) n)) ↔ (a + 1 ≤ m) × (m < a + 1 + n) × (test m ≡ true))
        → IsIn m (cond (test a) (a ∷ filter test (range_with_len (a + 1) n)) (filter test (range_with_len (a + 1) n))) ↔ (a ≤ m) × (m < a + suc n) × (test m ≡ true)
    by true e rest = rw e (
      λ i. elim i [ inl s ↦ (omega (arith, s), omega (arith, s), ap test s ∙ e) | inr t ↦ wider (rest.0 t) ],
      λ h. elim (eqb_tells m a) [ inl w ↦ inl w.1 | inr w ↦ inr (rest.1 (omega (arith, h.0, w.1), omega (arith, h.1), h.2)) ],
    )
    by false e rest = rw e (
      λ i. wider (rest.0 i),
      λ h. elim (eqb_tells m a) [ inl w ↦ absurd (true≢false (sym h.2 ∙ ap test w.1 ∙ e)) | inr w ↦ rest.1 (omega (arith, h.0, w.1), omega (arith, h.1), h.2) ],
    )

own-base : (base : List ℕ) (o : Option (List ℕ)) → option_map_or (bytes_eq base) o false ≡ true → o ≡ Some base
own-base base None e = absurd (cc)
own-base base (Some own) e = ap Some (sym ((bytes_decides base own).0 e))

-- A name is among those with the base exactly where its text has it.
pub with_base-exact : (texts : List (List ℕ)) (base : List ℕ) (n : ℕ) → IsIn n (names_with_base texts base) ↔ NameHasBase texts base n
with_base-exact texts base n =
    let range = in-range (has_base texts base) 0 (length (name_texts texts)) n in (
      λ i. name-has texts base n (own-base base (name_base texts n) (range.0 i).2),
      λ h.
          let within = slice_get_within (name_texts texts) n h.0 h.1 in
          range.1 (omega arith, omega arith, ap (λ o. option_map_or (bytes_eq base) o false) (name-is texts base n h) ∙ (bytes_decides base base).1 refl),
    )

pub with_base-ascends : (texts : List (List ℕ)) (base : List ℕ) → IsStrictlyIncreasing (names_with_base texts base)
with_base-ascends texts base = IsStrictlyIncreasing-filter (has_base texts base) (range_with_len 0 (length (name_texts texts))) (rising (length (name_texts texts)))
  where
    rising : (n : ℕ) → IsStrictlyIncreasing (range_with_len 0 n)
    rising n = λ k h.
        let short : k + 1 < n = rw length-range_with_len at h in
        rw (get_or-range_with_len 0 n k 0 (omega arith), get_or-range_with_len 0 n (k + 1) 0 short) (omega arith)
