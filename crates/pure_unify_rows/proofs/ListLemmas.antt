-- A list as far as a loop has come.
use Rattle.std.proofs.Common.{◌≡◌, ℕ, zero, suc, ◌+◌, ◌<◌, ◌≤◌, List, [], ◌∷◌, length, get_or, take, sym, subst, arith}
use Rattle.pure_text.specs.Lists.{Each}

pub each_more : {A : Type 0} (P : A → Type 0) (xs : List A) (i : ℕ) (x : A) → i < length xs → x ≡ get_or xs i x → Each P (take i xs) → P x → Each P (take (i + 1) xs)
each_more P [] i x h e k p = absurd (omega arith)
each_more P (y ∷ ys) zero x h e k p = (subst P e p, tt)
each_more P (y ∷ ys) (suc i) x h e k p =
    let next : suc i + 1 ≡ suc (i + 1) = omega arith in
    rw next (k.0, each_more P ys i x (omega arith) e k.1 p)

pub each_all : {A : Type 0} (P : A → Type 0) (xs : List A) (i : ℕ) → length xs ≤ i → Each P (take i xs) → Each P xs
each_all P [] i h k = tt
each_all P (y ∷ ys) zero h k = absurd (omega arith)
each_all P (y ∷ ys) (suc i) h k = (k.0, each_all P ys i (omega arith) k.1)
