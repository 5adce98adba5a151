-- The union of two sorts is their merge.
use Rattle.std.proofs.Common.{◌≡◌, ℕ, List, [], ◌∷◌, length, Bool, ◌==◌, eqb-true, inl, inr, refl, sym, subst, ◌∙◌, arith}
use Rattle.std.specs.Prelude.{true}
use Rattle.std.specs.declared.cmp.Ordering.TheVariants.{Equal}
use Rattle.std.specs.Ordering.{nat_cmp}
use Rattle.std.specs.Set.{sorted_merge}
use Rattle.std.specs.Cmp.{ranks, nat_cmp_total}
use Rattle.std.specs.List.Sorted.{IsStrictlyIncreasing}
use Rattle.std.proofs.lemmas.Map.Keys.{IsStrictlyIncreasing-from_sorted, sorted_from_strictly_increasing}
use Rattle.pure_text.proofs.MergeLaws.{in-merged, merged-ascends}
use Rattle.pure_typ.specs.SortUnion.{IsSortUnion}

equal_numbers : (x y : ℕ) → nat_cmp x y ≡ Equal → x ≡ y
equal_numbers x y h = rw h at (ranks x y)

ascends : (xs ys : List ℕ) → IsStrictlyIncreasing xs → IsStrictlyIncreasing ys → IsStrictlyIncreasing (sorted_merge nat_cmp true xs ys)
ascends xs ys a b =
    IsStrictlyIncreasing-from_sorted (sorted_merge nat_cmp true xs ys) (merged-ascends nat_cmp nat_cmp_total equal_numbers xs ys (sorted_from_strictly_increasing xs a) (sorted_from_strictly_increasing ys b))

pub union-of : (left right a b classes : List ℕ) → a ≡ left → b ≡ right → classes ≡ sorted_merge nat_cmp true a b → IsStrictlyIncreasing left → IsStrictlyIncreasing right → IsSortUnion left right classes
union-of left right a b classes e f g h k =
    let is : classes ≡ sorted_merge nat_cmp true left right = rw (g, e, f) refl in
    record { ascend = subst IsStrictlyIncreasing (sym is) (ascends left right h k); members = λ c. rw is (in-merged nat_cmp equal_numbers c left right) }

no_classes : (classes : List ℕ) (t : Bool) → t ≡ (length classes == 0) → t ≡ true → classes ≡ []
no_classes [] t test told = refl
no_classes (c ∷ classes) t test told = absurd (let long = eqb-true (length (c ∷ classes)) 0 (sym test ∙ told) in omega arith)

-- The union with the sort without classes.
pub union-none : (left right b s : List ℕ) (t : Bool) → b ≡ right → IsStrictlyIncreasing left → t ≡ (length b == 0) → t ≡ true → s ≡ left → IsSortUnion left right s
union-none left right b s t are up test told same = rw (same, sym are ∙ no_classes b t test told) (record { ascend = up; members = λ c. (λ m. inl m, λ w. elim w [ inl m ↦ m | inr none ↦ absurd none ]) })

pub none-union : (left right a s : List ℕ) (t : Bool) → a ≡ left → IsStrictlyIncreasing right → t ≡ (length a == 0) → t ≡ true → s ≡ right → IsSortUnion left right s
none-union left right a s t are up test told same = rw (same, sym are ∙ no_classes a t test told) (record { ascend = up; members = λ c. (λ m. inr m, λ w. elim w [ inl none ↦ absurd none | inr m ↦ m ]) })
