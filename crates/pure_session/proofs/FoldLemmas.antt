-- Loops that build a list from the front of another.
use Rattle.std.proofs.Common.{◌≡◌, ℕ, zero, suc, ◌+◌, ◌<◌, List, [], ◌∷◌, ◌++◌, length, get_or, drop, sym, ◌∙◌, ap, arith, append_assoc}
use Rattle.std.proofs.lemmas.List.{append-nil}

pub rest_at : {A : Type 0} (xs : List A) (i : ℕ) (x : A) → i < length xs → x ≡ get_or xs i x → drop i xs ≡ x ∷ drop (i + 1) xs
rest_at [] i x within read = absurd (omega arith)
rest_at (y ∷ ys) zero x within read = ap (λ z. z ∷ ys) (sym read)
rest_at (y ∷ ys) (suc i) x within read = let next : suc i + 1 ≡ suc (i + 1) = omega arith in rw next (rest_at ys i x (omega arith) read)

pub fold-step : {B : Type 0} (items more : List B) (y : B) (old rest whole : List B) → old ≡ y ∷ rest → items ++ old ≡ whole → more ≡ items ++ y ∷ [] → more ++ rest ≡ whole
fold-step items more y old rest whole front so_far longer =
    ap (λ xs. xs ++ rest) longer ∙ append_assoc items (y ∷ []) rest ∙ ap (λ xs. items ++ xs) (sym front) ∙ so_far

pub fold-end : {B : Type 0} (items rest whole : List B) → rest ≡ [] → items ++ rest ≡ whole → items ≡ whole
fold-end items rest whole none_left so_far = sym (append-nil items) ∙ ap (λ xs. items ++ xs) (sym none_left) ∙ so_far
