-- The first pair that isn't one of patterns.
use Rattle.std.proofs.Common.{◌≡◌, ℕ, ◌<◌, List, length, get_or, take}
use Rattle.pure_text.specs.Lists.{Each}
use Rattle.pure_text.proofs.ListLaws.{each_imply}
use Rattle.pure_definitions.specs.Terms.Limits.{cut_off}
use Rattle.pure_theorem.specs.First.{IsFirstWith}
use Rattle.pure_theorem.proofs.FirstLaws.{first-at}

pub first-failing : {A : Type 0} (P : A → Type 0) (xs : List A) (i : ℕ) (r : A) (which : ℕ) → i < length xs → r ≡ get_or xs i r → Each P (take i xs) → (¬ P r) → which ≡ cut_off i → IsFirstWith (λ x. ¬ P x) xs which
first-failing P xs i r which within read each fails place =
    first-at (λ x. ¬ P x) xs i r which within read (each_imply P (λ x. ¬ (¬ P x)) (take i xs) (λ x p n. n p) each) fails place
