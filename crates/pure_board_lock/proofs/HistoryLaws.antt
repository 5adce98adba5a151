-- Beginnings of histories, and what stands in them of each seat.
use Rattle.std.proofs.Common.{◌≡◌, ◌≢◌, ◌⊎◌, ◌∙◌, ℕ, ◌≤◌, List, [], ◌∷◌, ◌++◌, length, Bool, true, false, if◌then◌else◌, nat_eq, nat_lt, refl, sym, ap, inl, inr, arith, append_assoc, append-nil, length-append, eq-eqb, ne_eqb, ltb-true, ltb-false, le_of_lt}
use mathlib.Core.List.{IsPrefix}
use Rattle.pure_text.specs.Lists.{Each}
use Rattle.pure_board_lock.specs.History.{entered_by, longer}

-- each list begins with itself
pub begins-itself : {A : Type 0} (xs : List A) → IsPrefix xs xs
begins-itself xs = ([], append-nil xs)

-- what begins a list begins the list with more behind it
pub begins-longer : {A : Type 0} (xs ys more : List A) → IsPrefix xs ys → IsPrefix xs (ys ++ more)
begins-longer xs ys more p = (p.0 ++ more, sym (append_assoc xs p.0 more) ∙ ap (λ w. w ++ more) p.1)

-- of two beginnings of one list the shorter begins the longer
pub shorter-begins : {A : Type 0} (xs ys zs : List A) → IsPrefix xs zs → IsPrefix ys zs → length xs ≤ length ys → IsPrefix xs ys
shorter-begins [] ys zs p q le = (ys, refl)
shorter-begins (x ∷ xs) [] zs p q le = absurd (omega arith)
shorter-begins (x ∷ xs) (y ∷ ys) [] p q le = absurd (cc (p.1))
shorter-begins (x ∷ xs) (y ∷ ys) (z ∷ zs) p q le =
    let heads : x ≡ y = cc (p.1, q.1) in
    let rest = shorter-begins xs ys zs (p.0, cc (p.1)) (q.0, cc (q.1)) (omega arith) in
    (rest.0, cc (heads, rest.1))

no-more : {A : Type 0} (xs ys : List A) → xs ++ ys ≡ xs → ys ≡ []
no-more xs [] e = refl
no-more xs (y ∷ ys) e = let n = ap length e in absurd (omega (arith, length-append xs (y ∷ ys), n))

first-empty : {A : Type 0} (us vs : List A) → us ++ vs ≡ [] → us ≡ []
first-empty [] vs e = refl
first-empty (u ∷ us) vs e = absurd (cc e)

module _ {E : Type 0} where
  entered-choice : (b : Bool) (e : E) (es more : List E) → (if b then (e ∷ es) else es) ++ more ≡ (if b then (e ∷ (es ++ more)) else (es ++ more))
  entered-choice true e es more = refl
  entered-choice false e es more = refl

  -- what a seat entered in one history and then in another
  pub entered-append : (n : ℕ) (xs ys : List (ℕ × E)) → entered_by n (xs ++ ys) ≡ entered_by n xs ++ entered_by n ys
  entered-append n [] ys = refl
  entered-append n (x ∷ xs) ys = ap (λ es. if nat_eq x.0 n then (x.1 ∷ es) else es) (entered-append n xs ys) ∙ sym (entered-choice (nat_eq x.0 n) x.1 (entered_by n xs) (entered_by n ys))

  -- an entry is one more of its seat
  pub entered-itself : (n : ℕ) (e : E) → entered_by n ((n, e) ∷ []) ≡ e ∷ []
  entered-itself n e = ap (λ b. if b then (e ∷ []) else []) (eq-eqb n n refl)

  -- and none of another
  pub entered-other : (m n : ℕ) (e : E) → m ≢ n → entered_by n ((m, e) ∷ []) ≡ []
  entered-other m n e other = ap (λ b. if b then (e ∷ []) else []) (ne_eqb m n other)

  pub entered-more : (n : ℕ) (e : E) (log : List (ℕ × E)) (own : List E) → entered_by n log ≡ own → entered_by n (log ++ (n, e) ∷ []) ≡ own ++ e ∷ []
  entered-more n e log own is = entered-append n log ((n, e) ∷ []) ∙ (λ i. is i ++ entered-itself n e i)

  pub entered-same : (m n : ℕ) (e : E) (log : List (ℕ × E)) (own : List E) → m ≢ n → entered_by n log ≡ own → entered_by n (log ++ (m, e) ∷ []) ≡ own
  entered-same m n e log own other is = entered-append n log ((m, e) ∷ []) ∙ ((λ i. is i ++ entered-other m n e other i) ∙ append-nil own)

  -- where a beginning has all entries of a seat, a longer one has them too
  pub entered-between : (n : ℕ) (xs ys zs : List (ℕ × E)) (own : List E) → IsPrefix xs ys → IsPrefix ys zs → entered_by n xs ≡ own → entered_by n zs ≡ own → entered_by n ys ≡ own
  entered-between n xs ys zs own p q first last =
      let front : entered_by n ys ≡ own ++ entered_by n p.0 = ap (entered_by n) (sym p.1) ∙ (entered-append n xs p.0 ∙ ap (λ w. w ++ entered_by n p.0) first) in
      let whole : own ≡ entered_by n ys ++ entered_by n q.0 = sym last ∙ (ap (entered_by n) (sym q.1) ∙ entered-append n ys q.0) in
      let both : own ++ (entered_by n p.0 ++ entered_by n q.0) ≡ own = sym (append_assoc own (entered_by n p.0) (entered_by n q.0)) ∙ (ap (λ w. w ++ entered_by n q.0) (sym front) ∙ sym whole) in
      front ∙ (ap (λ w. own ++ w) (first-empty (entered_by n p.0) (entered_by n q.0) (no-more own (entered_by n p.0 ++ entered_by n q.0) both)) ∙ append-nil own)

  -- where a beginning of a history has none of some seat's entries, nor has it entries of a seat that entered none
  pub entered-none : (n : ℕ) (xs ys : List (ℕ × E)) → IsPrefix xs ys → entered_by n ys ≡ [] → entered_by n xs ≡ []
  entered-none n xs ys p none' = first-empty (entered_by n xs) (entered_by n p.0) (sym (entered-append n xs p.0) ∙ (ap (entered_by n) p.1 ∙ none'))

  -- a history in which no seat entered anything is empty
  entered-nothing : (log : List (ℕ × E)) → ((n : ℕ) → entered_by n log ≡ []) → log ≡ []
  entered-nothing [] nothing = refl
  entered-nothing (x ∷ log) nothing = let e : entered_by x.0 (x ∷ log) ≡ x.1 ∷ entered_by x.0 log = ap (λ b. if b then (x.1 ∷ entered_by x.0 log) else entered_by x.0 log) (eq-eqb x.0 x.0 refl) in absurd (cc (e, nothing x.0))

  -- a beginning in which each seat's entries all stand is the whole
  pub begins-whole : (xs ys : List (ℕ × E)) → IsPrefix xs ys → ((n : ℕ) → entered_by n xs ≡ entered_by n ys) → ys ≡ xs
  begins-whole xs ys p same = sym p.1 ∙ (ap (λ w. xs ++ w) (entered-nothing p.0 (λ n. no-more (entered_by n xs) (entered_by n p.0) (sym (entered-append n xs p.0) ∙ (ap (entered_by n) p.1 ∙ sym (same n))))) ∙ append-nil xs)

  rest-empty : (b : Bool) (e : E) (es : List E) → (if b then (e ∷ es) else es) ≡ [] → es ≡ []
  rest-empty true e es h = absurd (cc h)
  rest-empty false e es h = h

  -- the number of each entry is one of which something was entered
  pub entered-numbers : (log : List (ℕ × E)) (P : ℕ → Type 0) → ((n : ℕ) → ((entered_by n log ≡ []) → ⊥) → P n) → Each (λ e. P e.0) log
  entered-numbers [] P all = tt
  entered-numbers (x ∷ log) P all = (
    all x.0 (λ e. let here : entered_by x.0 (x ∷ log) ≡ x.1 ∷ entered_by x.0 log = ap (λ b. if b then (x.1 ∷ entered_by x.0 log) else entered_by x.0 log) (eq-eqb x.0 x.0 refl) in absurd (cc (e, here))),
    entered-numbers log P (λ n some'. all n (λ e. some' (rest-empty (nat_eq x.0 n) x.1 (entered_by n log) e))),
  )

-- one of the two longer lists is it
pub longer-either : {A : Type 0} (xs ys : List A) → ((longer xs ys ≡ xs) × (length ys ≤ length xs)) ⊎ ((longer xs ys ≡ ys) × (length xs ≤ length ys))
longer-either xs ys = choose (nat_lt (length xs) (length ys)) refl
  where
    choose : (b : Bool) → nat_lt (length xs) (length ys) ≡ b → ((longer xs ys ≡ xs) × (length ys ≤ length xs)) ⊎ ((longer xs ys ≡ ys) × (length xs ≤ length ys))
    choose true e = inr (ap (λ b. if b then ys else xs) e, le_of_lt (ltb-true (length xs) (length ys) e))
    choose false e = inl (ap (λ b. if b then ys else xs) e, ltb-false (length xs) (length ys) e)
