-- The classes above two of a sort, by rows of bits.
use Rattle.std.proofs.Common.{◌≡◌, ◌↔◌, ◌⊎◌, ℕ, ◌+◌, ◌<◌, ◌≤◌, ◌/◌, List, [], ◌∷◌, ◌++◌, length, get_or, take, take_all, refl, sym, ◌∙◌, inl, inr, arith, Bool, IsTrue}
use Rattle.std.specs.List.Sorted.{IsStrictlyIncreasing}
use Rattle.std.proofs.lemmas.Bool.Decides.{eqb_tells}
use Rattle.pure_text.specs.Lists.{IsIn}
use Rattle.pure_text.proofs.ListLaws.{any_some, any_of, any_split, any-append_left, any-append_right, in_split, in-append_left, in-append_right}
use Rattle.pure_text.proofs.AscendingLaws.{below_next}
use Rattle.pure_text.proofs.LoopLaws.{longer_by}
use Rattle.pure_definitions.specs.Types.Order.{Algebra, IsClassBelow, HasClassBelow, itself}
use Rattle.pure_order_tables.specs.Rows.{Holds}
use Rattle.pure_order_tables.specs.Classes.{Follows, IsAboveAnother, IsDeclared}
use Rattle.pure_order_tables.specs.ClassTable.{IsNumber, name_at}
use Rattle.pure_order_tables.specs.Uncovered.{IsUpRow}
use Rattle.pure_order_tables.specs.Twice.{AreRowsAbove, IsAboveTwo, IsTwiceRow}
use Rattle.pure_order_tables.proofs.BelowLaws.{declared_at, reaches}
use Rattle.pure_order_tables.proofs.ClassTableLaws.{declared_at_number}
use Rattle.pure_order_tables.proofs.SortLaws.{lower_declared}

-- One more class of a sort is below a class, or one of the others.
one_more : (A : Algebra) (s : List ℕ) (c d : ℕ) → HasClassBelow A (s ++ c ∷ []) d ↔ (HasClassBelow A s d ⊎ IsClassBelow A c d)
one_more A s c d = (
  λ h. elim (any_split (λ b. IsClassBelow A b d) s (c ∷ []) h) [ inl m ↦ inl m | inr n ↦ elim n [ inl k ↦ inr k | inr none ↦ absurd none ] ],
  λ h. elim h [ inl m ↦ any-append_left (λ b. IsClassBelow A b d) s (c ∷ []) m | inr k ↦ any-append_right (λ b. IsClassBelow A b d) s (c ∷ []) (inl k) ],
)

-- Two classes are below a class where two were, or one was and the new one is.
two_more : (A : Algebra) (s : List ℕ) (c d : ℕ) → ¬ IsIn c s → IsAboveTwo A (s ++ c ∷ []) d ↔ (IsAboveTwo A s d ⊎ (HasClassBelow A s d × IsClassBelow A c d))
two_more A s c d new = (there, back)
  where
    last : (x : ℕ) → IsIn x (c ∷ []) → x ≡ c
    last x m = elim m [ inl e ↦ e | inr none ↦ absurd none ]

    there : IsAboveTwo A (s ++ c ∷ []) d → IsAboveTwo A s d ⊎ (HasClassBelow A s d × IsClassBelow A c d)
    there w = elim (in_split w.0 s (c ∷ []) w.2) [
      | inl m ↦ elim (in_split w.1 s (c ∷ []) w.3) [
        | inl n ↦ inl (w.0, w.1, m, n, w.4, w.5, w.6)
        | inr n ↦ inr (any_of (λ b. IsClassBelow A b d) w.0 s m w.5, rw (last w.1 n) at w.6)
      ]
      | inr m ↦ elim (in_split w.1 s (c ∷ []) w.3) [
        | inl n ↦ inr (any_of (λ b. IsClassBelow A b d) w.1 s n w.6, rw (last w.0 m) at w.5)
        | inr n ↦ absurd (w.4 (last w.0 m ∙ sym (last w.1 n)))
      ]
    ]

    back : IsAboveTwo A s d ⊎ (HasClassBelow A s d × IsClassBelow A c d) → IsAboveTwo A (s ++ c ∷ []) d
    back h = elim h [
      | inl w ↦ (w.0, w.1, in-append_left w.0 s (c ∷ []) w.2, in-append_left w.1 s (c ∷ []) w.3, w.4, w.5, w.6)
      | inr w ↦ (let b = any_some (λ b. IsClassBelow A b d) s w.0 in (b.0, c, in-append_left b.0 s (c ∷ []) b.1, in-append_right c s (c ∷ []) (inl refl), λ e. new (rw e at b.1), b.2, w.1))
    ]

-- A declared class more.
pub above_put : (A : Algebra) (s once twice once' twice' row : List ℕ) (c number : ℕ) → ¬ IsIn c s → IsNumber A.classes c number → IsUpRow A (name_at A.classes number) row
    → ((n : ℕ) → Holds twice' n ↔ (Holds twice n ⊎ ((n / 64 < length twice) × Holds once n × Holds row n))) → length twice' ≡ length twice
    → ((n : ℕ) → Holds once' n ↔ (Holds once n ⊎ ((n / 64 < length once) × Holds row n))) → length once' ≡ length once
    → AreRowsAbove A s once twice → AreRowsAbove A (s ++ c ∷ []) once' twice'
above_put A s once twice once' twice' row c number new is up put_two count_two put_one count_one w = record {
  count = count_one ∙ w.count;
  count_twice = count_two ∙ w.count_twice;
  one = λ n within. (
    λ h. (one_more A s c (name_at A.classes n)).1 (elim ((put_one n).0 h) [ inl o ↦ inl ((w.one n within).0 o) | inr v ↦ inr (rw is.named at ((up n).0 v.1).1) ]),
    λ h. (put_one n).1 (elim ((one_more A s c (name_at A.classes n)).0 h) [ inl m ↦ inl ((w.one n within).1 m) | inr k ↦ inr (omega (arith, within, w.count), (up n).1 (within, rw is.named k)) ]),
  );
  two = λ n within. (
    λ h. (two_more A s c (name_at A.classes n) new).1 (elim ((put_two n).0 h) [ inl o ↦ inl ((w.two n within).0 o) | inr v ↦ inr ((w.one n within).0 v.1, rw is.named at ((up n).0 v.2).1) ]),
    λ h. (put_two n).1 (elim ((two_more A s c (name_at A.classes n) new).0 h) [ inl m ↦ inl ((w.two n within).1 m) | inr k ↦ inr (omega (arith, within, w.count_twice), (w.one n within).1 k.0, (up n).1 (within, rw is.named k.1)) ]),
  );
}

-- A class that isn't declared is below no declared one.
pub above_kept : (A : Algebra) (s once twice : List ℕ) (c : ℕ) → ¬ IsIn c s → ¬ IsDeclared A.classes c → AreRowsAbove A s once twice → AreRowsAbove A (s ++ c ∷ []) once twice
above_kept A s once twice c new not w = record {
  count = w.count;
  count_twice = w.count_twice;
  one = λ n within. (
    λ h. (one_more A s c (name_at A.classes n)).1 (inl ((w.one n within).0 h)),
    λ h. elim ((one_more A s c (name_at A.classes n)).0 h) [ inl m ↦ (w.one n within).1 m | inr k ↦ absurd (never n within k) ],
  );
  two = λ n within. (
    λ h. (two_more A s c (name_at A.classes n) new).1 (inl ((w.two n within).0 h)),
    λ h. elim ((two_more A s c (name_at A.classes n) new).0 h) [ inl m ↦ (w.two n within).1 m | inr k ↦ absurd (never n within k.1) ],
  );
}
  where
    never : (n : ℕ) → n < length A.classes → ¬ IsClassBelow A c (name_at A.classes n)
    never n within k = elim (lower_declared A c (name_at A.classes n) k) [ inl e ↦ not (declared_at A.classes (name_at A.classes n) c (sym e) (declared_at_number A.classes n within)) | inr m ↦ not m ]

-- No classes.
pub above_start : (A : Algebra) (s once twice : List ℕ) → length once ≡ length A.classes / 64 + 1 → length twice ≡ length A.classes / 64 + 1 → ((n : ℕ) → ¬ Holds once n) → ((n : ℕ) → ¬ Holds twice n) → AreRowsAbove A (take 0 s) once twice
above_start A s once twice count count_two none none_two = record {
  count = count;
  count_twice = count_two;
  one = λ n within. (λ h. absurd (none n h), λ m. absurd m);
  two = λ n within. (λ h. absurd (none_two n h), λ w. absurd w.2);
}

-- One turn of the loop over the sort.
pub above_turn : (A : Algebra) (s once twice once' twice' : List ℕ) (i c : ℕ) → IsStrictlyIncreasing s → i < length s → c ≡ get_or s i c
    → ((r : List ℕ) → ¬ IsIn c r → AreRowsAbove A r once twice → AreRowsAbove A (r ++ c ∷ []) once' twice') → AreRowsAbove A (take i s) once twice → AreRowsAbove A (take (i + 1) s) once' twice'
above_turn A s once twice once' twice' i c up within read put w = rw (longer_by s i c within read) (put (take i s) new w)
  where
    new : ¬ IsIn c (take i s)
    new m = absurd (let less = below_next s i c c up within read m in omega arith)

pub above_all : (A : Algebra) (s t once twice : List ℕ) (i : ℕ) → t ≡ s → length t ≤ i → AreRowsAbove A (take i t) once twice → IsTwiceRow A s twice
above_all A s t once twice i same end w = record { two = λ some. (rw (take_all i t end, same) at w).two }

-- no row
pub above_none : (A : Algebra) (s twice : List ℕ) → twice ≡ [] → IsTwiceRow A s twice
above_none A s twice empty = rw empty (record { two = λ some. absurd (omega arith) })

-- A class of the sort is above another one of it exactly where it is above two of it, itself among them.
pub another_by_number : (A : Algebra) (s words : List ℕ) (c number : ℕ) (b : Bool) → IsIn c s → IsTwiceRow A s words → 0 < length words → IsNumber A.classes c number → (IsTrue b ↔ Holds words number) → IsTrue b ↔ IsAboveAnother A s c
another_by_number A s words c number b member w some is test = (λ t. there ((at.0) (test.0 t)), λ h. test.1 (at.1 (back h)))
  where
    at : Holds words number ↔ IsAboveTwo A s c
    at = rw is.named at (w.two some number is.within)

    there : IsAboveTwo A s c → IsAboveAnother A s c
    there v = elim (eqb_tells v.0 c) [
      | inl same ↦ any_of (λ b. (¬ (b ≡ c)) × IsClassBelow A b c) v.1 s v.3 (λ e. v.4 (same.1 ∙ sym e), v.6)
      | inr other ↦ any_of (λ b. (¬ (b ≡ c)) × IsClassBelow A b c) v.0 s v.2 (other.1, v.5)
    ]

    back : IsAboveAnother A s c → IsAboveTwo A s c
    back h = let b = any_some (λ b. (¬ (b ≡ c)) × IsClassBelow A b c) s h in (b.0, c, b.1, member, b.2.0, b.2.1, itself)

pub another_by_none : (A : Algebra) → Follows [] A.classes → (s : List ℕ) (c : ℕ) → ¬ IsDeclared A.classes c → ¬ IsAboveAnother A s c
another_by_none A f s c not h =
    let b = any_some (λ b. (¬ (b ≡ c)) × IsClassBelow A b c) s h in
    elim (reaches A f b.2.1) [ inl e ↦ b.2.0 e | inr m ↦ not m ]
