-- Two ways to cut one list.
use Rattle.std.proofs.Common.{◌≡◌, ℕ, List, [], ◌∷◌, ◌++◌, refl, sym, ap, ◌⊎◌, inl, inr, Bool, true, ◌==◌}
use Rattle.std.proofs.lemmas.Bool.{and_parts, eqb-true}
use Rattle.pure_grammar.specs.Tokens.Bytes.{marked}

-- the first cut is within the second, and `more` lies between them
pub record Within (a b c d : List ℕ) : Type 0 where
  pub more : List ℕ
  pub longer : c ≡ a ++ more
  pub shorter : b ≡ more ++ d

-- of two fronts of one list, one is a front of the other
pub cuts : (a b c d : List ℕ) → a ++ b ≡ c ++ d → (Within a b c d) ⊎ (Within c d a b)
cuts [] b c d e = inl (record { more = c; longer = refl; shorter = e })
cuts (x ∷ a) b [] d e = inr (record { more = x ∷ a; longer = refl; shorter = sym e })
cuts (x ∷ a) b (y ∷ c) d e =
    let heads : x ≡ y = cc in
    let tails : a ++ b ≡ c ++ d = cc in
    elim (cuts a b c d tails) [
      | inl w ↦ (let longer : c ≡ a ++ w.more = w.longer in inl (record { more = w.more; longer = cc; shorter = w.shorter }))
      | inr w ↦ (let longer : a ≡ c ++ w.more = w.longer in inr (record { more = w.more; longer = cc; shorter = w.shorter }))
    ]

pub record IsMarked (mark : ℕ) (test : List ℕ → Bool) (bs : List ℕ) : Type 0 where
  pub rest : List ℕ
  pub is : bs ≡ mark ∷ rest
  pub passes : test rest ≡ true

pub marked-is : (mark : ℕ) (test : List ℕ → Bool) (bs : List ℕ) → marked mark test bs ≡ true → IsMarked mark test bs
marked-is mark test [] p = cc
marked-is mark test (b ∷ bs) p =
    let parts = and_parts (b == mark) (test bs) p in
    let same : b ≡ mark = eqb-true b mark parts.0 in
    record { rest = bs; is = ap (λ x. x ∷ bs) same; passes = parts.1 }
