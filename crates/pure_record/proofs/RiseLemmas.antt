-- Texts that ascend, by their places.
use Rattle.std.proofs.Common.{◌≡◌, ℕ, zero, suc, ◌<◌, List, [], ◌∷◌, length, get_or, arith}
use Rattle.std.specs.declared.cmp.Ordering.TheVariants.{Less}
use Rattle.std.specs.List.{AllByRecursion}
use Rattle.std.specs.List.Sorted.{IsStrictlySortedBy}
use Rattle.std.proofs.lemmas.Map.Keys.{sorted_head, sorted_tail}
use Rattle.pure_text.proofs.AscendingTexts.{byte_order}

below-at : (x : List ℕ) (xs : List (List ℕ)) (k : ℕ) (d : List ℕ) → AllByRecursion (λ y. byte_order x y ≡ Less) xs → k < length xs → byte_order x (get_or xs k d) ≡ Less
below-at x [] k d below h = absurd (omega arith)
below-at x (y ∷ ys) zero d below h = below.0
below-at x (y ∷ ys) (suc k) d below h = below-at x ys k d below.1 (omega arith)

pub pairs_ascend : (xs : List (List ℕ)) (i j : ℕ) (d : List ℕ) → IsStrictlySortedBy byte_order xs → i < j → j < length xs → byte_order (get_or xs i d) (get_or xs j d) ≡ Less
pairs_ascend [] i j d sorted less h = absurd (omega arith)
pairs_ascend (x ∷ xs) i zero d sorted less h = absurd (omega arith)
pairs_ascend (x ∷ xs) zero (suc j) d sorted less h = below-at x xs j d (sorted_head byte_order x xs sorted) (omega arith)
pairs_ascend (x ∷ xs) (suc i) (suc j) d sorted less h = pairs_ascend xs i j d (sorted_tail byte_order x xs sorted) (omega arith) (omega arith)
