-- What stands before a text's first dot, and what behind it.
use Rattle.std.proofs.Common.{◌≡◌, ◌≢◌, ℕ, zero, suc, ◌+◌, ◌-◌, ◌<◌, ◌≤◌, List, [], ◌∷◌, ◌++◌, length, get_or, take, drop, refl, ap, ◌∙◌, inl, inr, arith}
use Rattle.std.proofs.lemmas.List.{take_all, length-drop}
use Rattle.std.proofs.lemmas.Bool.Decides.{eqb_tells}
use Rattle.pure_record.specs.Lexemes.{before_dot, behind_dot}

-- ---- a byte that is none
past-before : (byte : ℕ) (rest : List ℕ) → byte ≢ 46 → before_dot (byte ∷ rest) ≡ byte ∷ before_dot rest
past-before byte rest other = elim (eqb_tells byte 46) [ inl w ↦ absurd (other w.1) | inr w ↦ rw w.0 refl ]

past-behind : (byte : ℕ) (rest : List ℕ) → byte ≢ 46 → behind_dot (byte ∷ rest) ≡ behind_dot rest
past-behind byte rest other = elim (eqb_tells byte 46) [ inl w ↦ absurd (other w.1) | inr w ↦ rw w.0 refl ]

-- ---- before the dot
pub before-at : (text : List ℕ) (at : ℕ) → at < length text → get_or text at 0 ≡ 46 → take at text ++ before_dot (drop at text) ≡ take at text
before-at [] at h e = absurd (omega arith)
before-at (x ∷ xs) zero h e = let same : x ≡ 46 = e in rw same refl
before-at (x ∷ xs) (suc at) h e = ap (λ z. x ∷ z) (before-at xs at (omega arith) e)

pub before-next : (text : List ℕ) (at : ℕ) → at < length text → get_or text at 0 ≢ 46 → take at text ++ before_dot (drop at text) ≡ take (at + 1) text ++ before_dot (drop (at + 1) text)
before-next [] at h other = absurd (omega arith)
before-next (x ∷ xs) zero h other = past-before x xs other
before-next (x ∷ xs) (suc at) h other =
    let next : suc at + 1 ≡ suc (at + 1) = omega arith in
    rw next (ap (λ z. x ∷ z) (before-next xs at (omega arith) other))

pub before-end : (text : List ℕ) (at : ℕ) → length text ≤ at → take at text ++ before_dot (drop at text) ≡ text
before-end [] zero h = refl
before-end [] (suc at) h = refl
before-end (x ∷ xs) zero h = absurd (omega arith)
before-end (x ∷ xs) (suc at) h = ap (λ z. x ∷ z) (before-end xs at (omega arith))

-- ---- behind it
pub behind-next : (text : List ℕ) (at : ℕ) → at < length text → get_or text at 0 ≢ 46 → behind_dot (drop at text) ≡ behind_dot (drop (at + 1) text)
behind-next [] at h other = absurd (omega arith)
behind-next (x ∷ xs) zero h other = past-behind x xs other
behind-next (x ∷ xs) (suc at) h other =
    let next : suc at + 1 ≡ suc (at + 1) = omega arith in
    rw next (behind-next xs at (omega arith) other)

pub behind-at : (text : List ℕ) (at : ℕ) → at < length text → get_or text at 0 ≡ 46 → take (length text - (at + 1)) (drop (at + 1) text) ≡ behind_dot (drop at text)
behind-at text at h e = take_all (length text - (at + 1)) (drop (at + 1) text) (rw length-drop (omega arith)) ∙ found text at h e
  where
    found : (text : List ℕ) (at : ℕ) → at < length text → get_or text at 0 ≡ 46 → drop (at + 1) text ≡ behind_dot (drop at text)
    found [] at h e = absurd (omega arith)
    found (x ∷ xs) zero h e = let same : x ≡ 46 = e in rw same refl
    found (x ∷ xs) (suc at) h e =
        let next : suc at + 1 ≡ suc (at + 1) = omega arith in
        rw next (found xs at (omega arith) e)
