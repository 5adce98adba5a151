-- The first element with a property, found by a loop.
use Rattle.std.proofs.Common.{◌≡◌, ◌∙◌, ℕ, ◌+◌, ◌<◌, List, length, get_or, take, drop, ap, sym, arith, inl, inr}
use Rattle.std.proofs.lemmas.List.{length-take-le}
use Rattle.pure_text.specs.Lists.{Each}
use Rattle.pure_text.proofs.ListLaws.{split_at, each_imply}
use Rattle.pure_text.proofs.LoopLaws.{each_turn}
use Rattle.pure_definitions.specs.Terms.Term.{Term}
use Rattle.pure_definitions.specs.Terms.Bounds.{Occurs}
use Rattle.pure_definitions.specs.Terms.Limits.{cut_off}
use Rattle.pure_logic.specs.Derivable.{Pair}
use Rattle.pure_logic.specs.Laws.Inferences.{IsFreshInPairs}
use Rattle.pure_theorem.specs.First.{IsFirstWith, OccursInPair}

pub first-at : {A : Type 0} (P : A → Type 0) (xs : List A) (i : ℕ) (r : A) (which : ℕ) → i < length xs → r ≡ get_or xs i r → Each (λ x. ¬ P x) (take i xs) → P r → which ≡ cut_off i → IsFirstWith P xs which
first-at P xs i r which within read lacking has place = record {
  front = take i xs;
  element = r;
  rest = drop (i + 1) xs;
  is = split_at xs i r within read;
  lacking = lacking;
  has = has;
  place = place ∙ ap cut_off (sym (length-take-le i xs (omega arith)));
}

-- one turn more without the property
pub lacking-turn : {A : Type 0} (P : A → Type 0) (xs : List A) (i : ℕ) (r : A) → i < length xs → r ≡ get_or xs i r → Each (λ x. ¬ P x) (take i xs) → ¬ P r → Each (λ x. ¬ P x) (take (i + 1) xs)
lacking-turn P xs i r within read each not = each_turn (λ x. ¬ P x) xs i r within read each not

pub fresh_in_pairs : (v : Term) (pairs : List Pair) → Each (λ p. ¬ OccursInPair v p) pairs → IsFreshInPairs v pairs
fresh_in_pairs v pairs h = each_imply (λ p. ¬ OccursInPair v p) (λ p. (¬ Occurs v p.left) × (¬ Occurs v p.right)) pairs (λ p n. (λ o. n (inl o), λ o. n (inr o))) h
