-- What the answer of a test says.
use Rattle.std.proofs.Common.{◌≡◌, ◌∙◌, ℕ, nat_eq, refl, sym, Result, Ok, Err, OnOk, Bool, true, false, IsTrue, inl, inr, ◌⊎◌, ◌↔◌}
use Rattle.std.proofs.lemmas.Bool.{eq-eqb, eqb-true}

-- a test of numbers for being equal
pub test_eq : (m n : ℕ) (b : Bool) → b ≡ nat_eq m n → IsTrue b ↔ (m ≡ n)
test_eq m n b e = (λ t. eqb-true m n (sym e ∙ t), λ h. e ∙ eq-eqb m n h)

-- a test that answered false
pub test_fails : (P : Type 0) (b : Bool) → (IsTrue b ↔ P) → b ≡ false → ¬ P
test_fails P b h e p = let t = h.1 p in cc

-- an answer given at once
pub yes_as : (P : Type 0) → P → IsTrue true ↔ P
yes_as P p = (λ t. p, λ q. refl)

pub no_as : (P : Type 0) → ¬ P → IsTrue false ↔ P
no_as P n = (λ t. absurd (false_true t), λ p. absurd (n p))
  where
    false_true : IsTrue false → ⊥
    false_true t = cc

pub on_ok_then : {T E : Type 0} (r : Result T E) (P Q : Type 0) → (P → Q) → OnOk r P → OnOk r Q
on_ok_then (Ok x) P Q f h = f h
on_ok_then (Err e) P Q f h = h

pub in_other_words : (N O R S : Type 0) → R ↔ S → N ↔ (R ⊎ O) → N ↔ (S ⊎ O)
in_other_words N O R S rs n =
    (λ m. elim (n.0 m) [ inl r ↦ inl (rs.0 r) | inr o ↦ inr o ], λ m. elim m [ inl s ↦ n.1 (inl (rs.1 s)) | inr o ↦ n.1 (inr o) ])
