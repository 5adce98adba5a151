-- Sets of labels are told by their elements.
use Rattle.std.proofs.Common.{◌≡◌, ◌↔◌, List, [], ◌∷◌, ◌++◌, inl, inr, refl, sym, ◌∙◌, Ordering}
use Rattle.std.specs.declared.cmp.Ordering.TheVariants.{Less, Equal, Greater}
use Rattle.std.specs.Ordering.{ordering_reverse}
use Rattle.std.specs.List.{AllByRecursion}
use Rattle.std.specs.List.Sorted.{IsStrictlySortedBy}
use Rattle.std.proofs.lemmas.Map.Keys.{sorted_head, sorted_tail}
use Rattle.pure_text.specs.Lists.{IsIn}
use Rattle.pure_definitions.specs.Names.{Label}
use Rattle.pure_theorem.specs.Sets.{label_cmp, IsLabelSet}
use Rattle.pure_theorem.proofs.SetLaws.{label_cmp-total}

reversed : (o : Ordering) → o ≡ Less → ordering_reverse o ≡ Greater
reversed Less h = refl
reversed Equal h = absurd cc
reversed Greater h = absurd cc

less-greater : Less ≡ Greater → ⊥
less-greater h = absurd cc

-- of two labels one alone is before the other
pub not_both : (k l : Label) → label_cmp k l ≡ Less → label_cmp l k ≡ Less → ⊥
not_both k l a b = less-greater (sym a ∙ label_cmp-total.antisymm k l ∙ reversed (label_cmp l k) b)

pub not_itself : (l : Label) → label_cmp l l ≡ Less → ⊥
not_itself l h = not_both l l h h

-- the first label of a set is before each other one
pub first_below : (l : Label) (ls : List Label) → IsLabelSet (l ∷ ls) → (k : Label) → IsIn k ls → label_cmp l k ≡ Less
first_below l ls h k m = at ls (sorted_head label_cmp l ls h) m
  where
    at : (ks : List Label) → AllByRecursion (λ y. label_cmp l y ≡ Less) ks → IsIn k ks → label_cmp l k ≡ Less
    at [] a n = absurd n
    at (x ∷ xs) a n = elim n [ inl e ↦ rw e a.0 | inr o ↦ at xs a.1 o ]

pub rest_is_set : (l : Label) (ls : List Label) → IsLabelSet (l ∷ ls) → IsLabelSet ls
rest_is_set l ls h = sorted_tail label_cmp l ls h

-- the first labels of two sets with the same elements are one
heads : (x : Label) (xs : List Label) (y : Label) (ys : List Label) → IsLabelSet (x ∷ xs) → IsLabelSet (y ∷ ys) → IsIn x (y ∷ ys) → IsIn y (x ∷ xs) → x ≡ y
heads x xs y ys a b m n = elim m [
  | inl e ↦ e
  | inr later ↦ elim n [
    | inl e ↦ sym e
    | inr other ↦ absurd (not_both x y (first_below x xs a y other) (first_below y ys b x later))
  ]
]

-- Two sets of labels with the same elements are one list.
pub set_once : (xs ys : List Label) → IsLabelSet xs → IsLabelSet ys → ((k : Label) → IsIn k xs ↔ IsIn k ys) → xs ≡ ys
set_once [] [] a b same = refl
set_once [] (y ∷ ys) a b same = absurd ((same y).1 (inl refl))
set_once (x ∷ xs) [] a b same = absurd ((same x).0 (inl refl))
set_once (x ∷ xs) (y ∷ ys) a b same =
    let e : x ≡ y = heads x xs y ys a b ((same x).0 (inl refl)) ((same y).1 (inl refl)) in
    let tails : xs ≡ ys = set_once xs ys (rest_is_set x xs a) (rest_is_set y ys b) (λ k. (
      λ m. elim ((same k).0 (inr m)) [ inl s ↦ absurd (not_itself x (rw (s ∙ sym e) at (first_below x xs a k m))) | inr n ↦ n ],
      λ m. elim ((same k).1 (inr m)) [ inl s ↦ absurd (not_itself y (rw (s ∙ e) at (first_below y ys b k m))) | inr n ↦ n ],
    )) in
    λ i. e i ∷ tails i

-- a set with one label more, which each of it is before
pub snoc_is_set : (ls : List Label) (k : Label) → IsLabelSet ls → ((l : Label) → IsIn l ls → label_cmp l k ≡ Less) → IsLabelSet (ls ++ k ∷ [])
unfolding IsStrictlySortedBy
snoc_is_set [] k h below = (tt, tt)
snoc_is_set (l ∷ ls) k h below = (above ls h.0 (λ x m. below x m), snoc_is_set ls k h.1 (λ x m. below x (inr m)))
  where
    above : (xs : List Label) → AllByRecursion (λ y. label_cmp l y ≡ Less) xs → ((x : Label) → IsIn x (l ∷ xs) → label_cmp x k ≡ Less) → AllByRecursion (λ y. label_cmp l y ≡ Less) (xs ++ k ∷ [])
    above [] a b = (b l (inl refl), tt)
    above (x ∷ xs) a b = (a.0, above xs a.1 (λ y m. b y (elim m [ inl e ↦ inl e | inr n ↦ inr (inr n) ])))
