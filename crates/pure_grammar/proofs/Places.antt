-- Places of tokens, and fronts of a list.
use Rattle.std.proofs.Common.{◌≡◌, ℕ, zero, suc, ◌<◌, List, [], ◌∷◌, ◌++◌, length, get_or, inl, inr, refl, sym, ◌∙◌, ap, subst, arith}
use Rattle.std.proofs.lemmas.Bool.{cases_lt}
use Rattle.pure_grammar.specs.declared.token.Token.{Token}
use Rattle.pure_grammar.specs.Tokens.Spelling.{IsSlice, AreSlices}
use Rattle.pure_grammar.specs.Theories.Outer.{place_of}

-- the longer front goes on behind the shorter one
pub record GoesOnBehind {A : Type 0} (b c : List A) (x : A) : Type 0 where
  pub more : List A
  pub is : c ≡ b ++ x ∷ more

pub goes-on-behind : {A : Type 0} (b c : List A) (x y : A) (r q : List A) → b ++ x ∷ r ≡ c ++ y ∷ q → length b < length c → GoesOnBehind b c x
goes-on-behind [] [] x y r q e l = absurd (omega (arith, l))
goes-on-behind [] (z ∷ c) x y r q e l = let same : z ≡ x = cc in record { more = c; is = ap (λ w. w ∷ c) same }
goes-on-behind (u ∷ b) [] x y r q e l = absurd (omega (arith, l))
goes-on-behind (u ∷ b) (z ∷ c) x y r q e l =
    let first : z ≡ u = cc in
    let others : b ++ x ∷ r ≡ c ++ y ∷ q = cc in
    let m = goes-on-behind b c x y r q others (omega (arith, l)) in
    record { more = m.more; is = ap (λ w. w ∷ c) first ∙ ap (λ w. u ∷ w) m.is }

pub same-number : (m n : ℕ) → (m < n → ⊥) → (n < m → ⊥) → m ≡ n
same-number m n up down = elim (cases_lt m n) [
  | inl less ↦ absurd (up less)
  | inr at_least ↦ elim (cases_lt n m) [ inl more ↦ absurd (down more) | inr at_most ↦ omega (arith, at_least, at_most) ]
]

pub place_of-token : (ts : List Token) (len i : ℕ) (d t : Token) → i < length ts → t ≡ get_or ts i d → t.from ≡ place_of ts len i
place_of-token [] len i d t below at = absurd (omega (arith, below))
place_of-token (u ∷ ts) len zero d t below at = ap (λ (z : Token). z.from) at
place_of-token (u ∷ ts) len (suc i) d t below at = place_of-token ts len i d t (omega (arith, below)) at

pub place_of-end : (ts : List Token) (len i : ℕ) → i ≡ length ts → len ≡ place_of ts len i
place_of-end [] len zero is = refl
place_of-end [] len (suc i) is = refl
place_of-end (u ∷ ts) len zero is = absurd (omega (arith, is))
place_of-end (u ∷ ts) len (suc i) is = place_of-end ts len i (omega (arith, is))

pub slice-at : (source : List ℕ) (to : ℕ) (ts : List Token) (from i : ℕ) (d t : Token) → AreSlices source from to ts → i < length ts → t ≡ get_or ts i d → IsSlice source t
slice-at source to [] from i d t are below at = absurd (omega (arith, below))
slice-at source to (u ∷ ts) from zero d t are below at = subst (IsSlice source) (sym at) are.1
slice-at source to (u ∷ ts) from (suc i) d t are below at = slice-at source to ts u.to i d t are.2 (omega (arith, below)) at
