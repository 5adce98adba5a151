-- Rows of marks.
use Rattle.std.proofs.Common.{◌≡◌, ◌⊎◌, ◌↔◌, inl, inr, ℕ, zero, suc, ◌+◌, ◌<◌, ◌≤◌, Bool, true, false, List, [], ◌∷◌, ◌++◌, length, get_or, set, take, take_all, replicate, refl, sym, ◌∙◌, ap, subst, arith, append_assoc, length-take, get_or-set_same, get_or-set_other}
use Rattle.std.specs.Global.{Vec}
use Rattle.std.proofs.lemmas.Bool.{cases_eq}
use Rattle.std.proofs.lemmas.List.{append-nil}
use Rattle.pure_text.specs.Lists.{EachTwo}
use Rattle.pure_text.proofs.ListLaws.{two-append}
use Rattle.pure_text.proofs.LoopLaws.{longer_by}
use Rattle.pure_session.specs.Places.{cells, is_marked, HasMark, IsMarked, IsJoined}

false_or_true : false ≡ true → ⊥
false_or_true e = cc

-- ---- one row
unmarked : (k i : ℕ) → HasMark (replicate k false) i → ⊥
unmarked zero i h = false_or_true h
unmarked (suc k) zero h = false_or_true h
unmarked (suc k) (suc i) h = unmarked k i h

marked-filled : (row : List Bool) (k i : ℕ) → HasMark (row ++ replicate k false) i ↔ HasMark row i
marked-filled [] k i = (λ h. absurd (unmarked k i h), λ h. absurd (false_or_true h))
marked-filled (r ∷ row) k zero = (λ h. h, λ h. h)
marked-filled (r ∷ row) k (suc i) = marked-filled row k i

pub lengthened : (row next : List Bool) (n k i : ℕ) → length row ≤ n → next ≡ take n row ++ replicate k false → HasMark next i ↔ HasMark row i
lengthened row next n k i short is = rw (is, take_all n row short) (marked-filled row k i)

pub marked-set : (row next : List Bool) (place i : ℕ) → place < length row → next ≡ set row place true → HasMark next i ↔ (HasMark row i ⊎ (i ≡ place))
marked-set row next place i within is = elim (cases_eq i place) [
  | inl same ↦ (λ h. inr same, λ w. ap (λ r. get_or r i false) is ∙ ap (λ k. get_or (set row place true) k false) same ∙ get_or-set_same row place true false within)
  | inr other ↦ (let kept : get_or next i false ≡ get_or row i false = ap (λ r. get_or r i false) is ∙ get_or-set_other row place i true false other in
      (λ h. inl (sym kept ∙ h), λ w. elim w [ inl h ↦ kept ∙ h | inr e ↦ absurd (other e) ]))
]

marked-end : (row : List Bool) (r : Bool) (i : ℕ) → HasMark (row ++ r ∷ []) i ↔ (HasMark row i ⊎ ((i ≡ length row) × (r ≡ true)))
marked-end [] r zero = (λ h. inr (refl, h), λ w. elim w [ inl n ↦ absurd (false_or_true n) | inr p ↦ p.1 ])
marked-end [] r (suc i) = (λ h. absurd (false_or_true h), λ w. elim w [ inl n ↦ n | inr p ↦ absurd (omega (arith, p.0)) ])
marked-end (y ∷ row) r zero = (λ h. inl h, λ w. elim w [ inl n ↦ n | inr p ↦ absurd (omega (arith, p.0)) ])
marked-end (y ∷ row) r (suc i) = (
  λ h. elim ((marked-end row r i).0 h) [ inl n ↦ inl n | inr p ↦ inr (ap suc p.0, p.1) ],
  λ w. elim w [ inl n ↦ (marked-end row r i).1 (inl n) | inr p ↦ (marked-end row r i).1 (inr (omega (arith, p.0), p.1)) ],
)

pub marked-front : (other : List Bool) (k i : ℕ) (r : Bool) → k < length other → r ≡ get_or other k r → HasMark (take (k + 1) other) i ↔ (HasMark (take k other) i ⊎ ((i ≡ k) × (r ≡ true)))
marked-front other k i r within read =
    let long : length (take k other) ≡ k = omega (arith, length-take k other) in
    subst (λ n. HasMark (take (k + 1) other) i ↔ (HasMark (take k other) i ⊎ ((i ≡ n) × (r ≡ true)))) long
    (subst (λ row. HasMark row i ↔ (HasMark (take k other) i ⊎ ((i ≡ length (take k other)) × (r ≡ true)))) (sym (longer_by other k r within read)) (marked-end (take k other) r i))

-- The row has what it had before, and the first marks of another.
pub record HasMarksOf (old other now : List Bool) : Type 0 where
  pub marks : (i : ℕ) → HasMark now i ↔ (HasMark old i ⊎ HasMark other i)

pub HasMarksOf-none : (old : List Bool) → HasMarksOf old [] old
HasMarksOf-none old = record { marks = λ i. (λ h. inl h, λ w. elim w [ inl h ↦ h | inr n ↦ absurd (false_or_true n) ]) }

pub HasMarksOf-turn : (old other now next : List Bool) (k : ℕ) (r : Bool) → k < length other → r ≡ get_or other k false → ((i : ℕ) → HasMark next i ↔ (HasMark now i ⊎ ((i ≡ k) × (r ≡ true)))) → HasMarksOf old (take k other) now
    → HasMarksOf old (take (k + 1) other) next
HasMarksOf-turn old other now next k r within read turn has = record {
  marks = λ i. let front = marked-front other k i r within (read ∙ get_or-any other k false r within) in (
    λ h. elim ((turn i).0 h) [
      | inl n ↦ elim ((has.marks i).0 n) [ inl o ↦ inl o | inr m ↦ inr (front.1 (inl m)) ]
      | inr p ↦ inr (front.1 (inr p))
    ],
    λ w. elim w [
      | inl o ↦ (turn i).1 (inl ((has.marks i).1 (inl o)))
      | inr m ↦ elim (front.0 m) [ inl f ↦ (turn i).1 (inl ((has.marks i).1 (inr f))) | inr p ↦ (turn i).1 (inr p) ]
    ],
  );
}
  where
    get_or-any : (xs : List Bool) (k : ℕ) (a b : Bool) → k < length xs → get_or xs k a ≡ get_or xs k b
    get_or-any [] k a b h = absurd (omega arith)
    get_or-any (x ∷ xs) zero a b h = refl
    get_or-any (x ∷ xs) (suc k) a b h = get_or-any xs k a b (omega arith)

pub HasMarksOf-all : (old other now : List Bool) (k : ℕ) → length other ≤ k → HasMarksOf old (take k other) now → (i : ℕ) → HasMark now i ↔ (HasMark old i ⊎ HasMark other i)
HasMarksOf-all old other now k past has i = subst (λ row. HasMark now i ↔ (HasMark old i ⊎ HasMark row i)) (take_all k other past) (has.marks i)

-- ---- the rows of a table
pub joined-yes : (through : ℕ) (other row all : List Bool) → get_or row through false ≡ true → ((i : ℕ) → HasMark all i ↔ (HasMark row i ⊎ HasMark other i)) → IsJoined through other row all
joined-yes through other row all leads has i = (
  λ h. elim ((has i).0 h) [ inl r ↦ inl r | inr o ↦ inr (leads, o) ],
  λ w. elim w [ inl r ↦ (has i).1 (inl r) | inr p ↦ (has i).1 (inr p.1) ],
)

pub joined-no : (through : ℕ) (other row : List Bool) → get_or row through false ≡ false → IsJoined through other row row
joined-no through other row apart i = (λ h. inl h, λ w. elim w [ inl r ↦ r | inr p ↦ absurd (false_or_true (sym apart ∙ p.0)) ])

pub rows-joined : (through : ℕ) (other : List Bool) (rows passed : List (Vec Bool)) → EachTwo (λ (r s : Vec Bool). IsJoined through other r.items s.items) rows passed → (i j : ℕ)
    → IsMarked (cells passed) i j ↔ (IsMarked (cells rows) i j ⊎ (IsMarked (cells rows) i through × HasMark other j))
rows-joined through other [] [] each i j = (λ h. absurd (false_or_true h), λ w. elim w [ inl h ↦ h | inr p ↦ absurd (false_or_true p.0) ])
rows-joined through other [] (s ∷ passed) each i j = absurd each
rows-joined through other (r ∷ rows) [] each i j = absurd each
rows-joined through other (r ∷ rows) (s ∷ passed) each zero j = each.0 j
rows-joined through other (r ∷ rows) (s ∷ passed) each (suc i) j = rows-joined through other rows passed each.1 i j

pub rows-passed : (through : ℕ) (other : List Bool) (rows passed : List (Vec Bool)) → ((i : ℕ) → get_or other i false ≡ is_marked (cells rows) through i)
    → EachTwo (λ (r s : Vec Bool). IsJoined through other r.items s.items) rows passed → (i j : ℕ)
    → IsMarked (cells passed) i j ↔ (IsMarked (cells rows) i j ⊎ (IsMarked (cells rows) i through × IsMarked (cells rows) through j))
rows-passed through other rows passed copied each i j =
    subst (λ b. IsMarked (cells passed) i j ↔ (IsMarked (cells rows) i j ⊎ (IsMarked (cells rows) i through × (b ≡ true)))) (copied j) (rows-joined through other rows passed each i j)

pub cells-at : (rows : List (Vec Bool)) (k : ℕ) (row : Vec Bool) → k < length rows → row ≡ get_or rows k row → get_or (cells rows) k [] ≡ row.items
cells-at [] k row within read = absurd (omega arith)
cells-at (r ∷ rows) zero row within read = ap (λ (v : Vec Bool). v.items) (sym read)
cells-at (r ∷ rows) (suc k) row within read = cells-at rows k row (omega arith) read

pub cells-past : (rows : List (Vec Bool)) (k : ℕ) → length rows ≤ k → get_or (cells rows) k [] ≡ []
cells-past [] k past = refl
cells-past (r ∷ rows) zero past = absurd (omega arith)
cells-past (r ∷ rows) (suc k) past = cells-past rows k (omega arith)

-- ---- a loop that takes the first of a list, again and again
-- Whatever goes with what is left goes, behind what is done, with the whole.
pub record GoesOn {A B : Type 0} (R : A → B → Type 0) (all left : List A) (done : List B) : Type 0 where
  pub whole : (more : List B) → EachTwo R left more → EachTwo R all (done ++ more)

pub goes-none : {A B : Type 0} (R : A → B → Type 0) (all left : List A) (done : List B) → done ≡ [] → left ≡ all → GoesOn R all left done
goes-none R all left done empty same = record { whole = λ more each. subst (λ d. EachTwo R all (d ++ more)) (sym empty) (subst (λ xs. EachTwo R xs more) same each) }

pub goes-turn : {A B : Type 0} (R : A → B → Type 0) (all left rest : List A) (x : A) (done longer : List B) (y : B) → left ≡ x ∷ rest → R x y → longer ≡ done ++ y ∷ [] → GoesOn R all left done → GoesOn R all rest longer
goes-turn R all left rest x done longer y first one is on = record {
  whole = λ more each. subst (λ d. EachTwo R all (d ++ more)) (sym is) (subst (EachTwo R all) (sym (append_assoc done (y ∷ []) more)) (on.whole (y ∷ more) (subst (λ xs. EachTwo R xs (y ∷ more)) (sym first) (one, each))));
}

pub goes-end : {A B : Type 0} (R : A → B → Type 0) (all left : List A) (done : List B) → length left ≡ 0 → GoesOn R all left done → EachTwo R all done
goes-end R all [] done none_left on = subst (EachTwo R all) (append-nil done) (on.whole [] tt)
goes-end R all (x ∷ left) done none_left on = absurd (omega arith)

-- ---- the row of imports
-- one row more is passed
pub two-turn : {A B : Type 0} (R : A → B → Type 0) (xs : List A) (i : ℕ) (x : A) (ys more : List B) (y : B) → i < length xs → x ≡ get_or xs i x → EachTwo R (take i xs) ys → R x y → more ≡ ys ++ y ∷ [] → EachTwo R (take (i + 1) xs) more
two-turn R xs i x ys more y within read each one longer =
    subst (EachTwo R (take (i + 1) xs)) (sym longer) (subst (λ zs. EachTwo R zs (ys ++ y ∷ [])) (sym (longer_by xs i x within read)) (two-append R (take i xs) (x ∷ []) ys (y ∷ []) each (one, tt)))

pub two-end : {A B : Type 0} (R : A → B → Type 0) (xs : List A) (i : ℕ) (ys : List B) → length xs ≤ i → EachTwo R (take i xs) ys → EachTwo R xs ys
two-end R xs i ys past each = subst (λ zs. EachTwo R zs ys) (take_all i xs past) each
