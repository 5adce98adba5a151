-- One turn of the loop that reduces a sort.
use Rattle.std.proofs.Common.{◌≡◌, ℕ, ◌+◌, ◌<◌, List, [], ◌∷◌, ◌++◌, length, get_or, take, inl, inr, ◌↔◌}
use Rattle.std.specs.List.Sorted.{IsStrictlyIncreasing}
use Rattle.pure_text.specs.Lists.{IsIn}
use Rattle.pure_text.proofs.ListLaws.{in-append_left, in-append_right, in_split}
use Rattle.pure_text.proofs.AscendingLaws.{below_next, push_ascends}
use Rattle.pure_text.proofs.LoopLaws.{in_turn}

-- These are the elements of an ascending list that have the property, in order.
pub record AreKept (P : ℕ → Type 0) (xs kept : List ℕ) : Type 0 where
  pub ascend : IsStrictlyIncreasing kept
  pub are : (c : ℕ) → IsIn c kept ↔ (IsIn c xs × P c)

pub kept_one : (P : ℕ → Type 0) (xs kept : List ℕ) (i r : ℕ) → IsStrictlyIncreasing xs → i < length xs → r ≡ get_or xs i r → P r → AreKept P (take i xs) kept → AreKept P (take (i + 1) xs) (kept ++ r ∷ [])
kept_one P xs kept i r up within read p k = record {
  ascend = push_ascends kept r k.ascend (λ x m. below_next xs i r x up within read ((k.are x).0 m).0);
  are = λ c. (there c, back c);
}
  where
    there : (c : ℕ) → IsIn c (kept ++ r ∷ []) → IsIn c (take (i + 1) xs) × P c
    there c m = elim (in_split c kept (r ∷ []) m) [
      | inl old ↦ (let w = (k.are c).0 old in ((in_turn c xs i r within read).1 (inl w.0), w.1))
      | inr v ↦ elim v [ inl e ↦ ((in_turn c xs i r within read).1 (inr e), rw e p) | inr nothing ↦ absurd nothing ]
    ]

    back : (c : ℕ) → IsIn c (take (i + 1) xs) × P c → IsIn c (kept ++ r ∷ [])
    back c w = elim ((in_turn c xs i r within read).0 w.0) [
      | inl old ↦ in-append_left c kept (r ∷ []) ((k.are c).1 (old, w.1))
      | inr e ↦ in-append_right c kept (r ∷ []) (inl e)
    ]

pub dropped_one : (P : ℕ → Type 0) (xs kept : List ℕ) (i r : ℕ) → i < length xs → r ≡ get_or xs i r → ¬ P r → AreKept P (take i xs) kept → AreKept P (take (i + 1) xs) kept
dropped_one P xs kept i r within read not k = record {
  ascend = k.ascend;
  are = λ c. (
    λ m. (let w = (k.are c).0 m in ((in_turn c xs i r within read).1 (inl w.0), w.1)),
    λ w. elim ((in_turn c xs i r within read).0 w.0) [ inl old ↦ (k.are c).1 (old, w.1) | inr e ↦ absurd (not (rw e at w.1)) ],
  );
}
