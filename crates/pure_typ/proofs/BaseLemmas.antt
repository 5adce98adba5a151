-- The base of a text: what stands behind its first dot.
use Rattle.std.proofs.Common.{◌≡◌, ◌≢◌, ℕ, zero, suc, ◌+◌, ◌-◌, ◌<◌, List, [], ◌∷◌, ◌++◌, length, get_or, take, drop, refl, ap, sym, ◌∙◌, inl, inr, arith, length-drop}
use Rattle.std.proofs.lemmas.List.{take_all}
use Rattle.std.proofs.lemmas.Bool.Decides.{eqb_tells}
use Rattle.std.specs.Prelude.{Option, Some, None, MatchOption, option_map, slice_get}
use Rattle.std.specs.Option.{option_and_then}
use Rattle.pure_text.specs.Lists.{IsIn}
use Rattle.pure_typ.specs.NameTexts.{name_texts, HasBase, NameHasBase}
use Rattle.pure_typ.specs.NameBases.{base_of, name_base}

-- one byte of the text
past-dot : (byte : ℕ) (rest : List ℕ) → byte ≢ 46 → base_of (byte ∷ rest) ≡ base_of rest
past-dot byte rest other = elim (eqb_tells byte 46) [ inl w ↦ absurd (other w.1) | inr w ↦ rw w.0 refl ]

pub base-next : (text : List ℕ) (at : ℕ) → at < length text → get_or text at 0 ≢ 46 → base_of (drop at text) ≡ base_of (drop (at + 1) text)
base-next [] at h other = absurd (omega arith)
base-next (x ∷ xs) zero h other = past-dot x xs other
base-next (x ∷ xs) (suc at) h other =
    let next : suc at + 1 ≡ suc (at + 1) = omega arith in
    rw next (base-next xs at (omega arith) other)

pub base-at : (text : List ℕ) (at : ℕ) → at < length text → get_or text at 0 ≡ 46 → Some (take (length text - (at + 1)) (drop (at + 1) text)) ≡ base_of (drop at text)
base-at text at h e = ap Some (take_all (length text - (at + 1)) (drop (at + 1) text) (rw length-drop (omega arith))) ∙ found text at h e
  where
    found : (text : List ℕ) (at : ℕ) → at < length text → get_or text at 0 ≡ 46 → Some (drop (at + 1) text) ≡ base_of (drop at text)
    found [] at h e = absurd (omega arith)
    found (x ∷ xs) zero h e = let same : x ≡ 46 = e in rw same refl
    found (x ∷ xs) (suc at) h e =
        let next : suc at + 1 ≡ suc (at + 1) = omega arith in
        rw next (found xs at (omega arith) e)

-- The text has a base exactly where the base is what stands behind its first dot.
base-is : (base text : List ℕ) → HasBase base text → base_of text ≡ Some base
base-is base text (theory, clean, e) = rw e (behind theory clean)
  where
    behind : (theory : List ℕ) → (¬ IsIn 46 theory) → base_of (theory ++ 46 ∷ base) ≡ Some base
    behind [] clean = refl
    behind (x ∷ xs) clean = past-dot x (xs ++ 46 ∷ base) (λ e. clean (inl (sym e))) ∙ behind xs (λ m. clean (inr m))

base-has : (base text : List ℕ) → base_of text ≡ Some base → HasBase base text
base-has base [] e = absurd (cc)
base-has base (x ∷ xs) e = elim (eqb_tells x 46) [
  | inl w ↦ (let same : xs ≡ base = cc (rw w.0 at e) in ([], λ m. m, rw (w.1, same) refl))
  | inr w ↦ (let rest = base-has base xs (rw w.0 at e) in (x ∷ rest.0, λ m. elim m [ inl f ↦ w.1 (sym f) | inr n ↦ rest.1 n ], ap (λ ys. x ∷ ys) rest.2))
]

-- The name has a base exactly where the base is that of its text.
pub name-is : (texts : List (List ℕ)) (base : List ℕ) (n : ℕ) → NameHasBase texts base n → name_base texts n ≡ Some base
name-is texts base n (text, has, is) = ap (option_and_then base_of) has ∙ base-is base text is

pub name-has : (texts : List (List ℕ)) (base : List ℕ) (n : ℕ) → name_base texts n ≡ Some base → NameHasBase texts base n
name-has texts base n = behind (slice_get (name_texts texts) n)
  where
    behind : (o : Option (List ℕ)) → option_and_then base_of o ≡ Some base → (text : List ℕ) × (o ≡ Some text) × HasBase base text
    behind None e = absurd (cc)
    behind (Some text) e = (text, refl, base-has base text e)

-- An answer that is the base of the name's text, where it has one, tells which base the name has.
pub name-told : {A : Type 0} (now : A → List ℕ) (texts : List (List ℕ)) (n : ℕ) (answer : Option A) → option_map now answer ≡ name_base texts n
    → MatchOption answer ((other : List ℕ) → ¬ NameHasBase texts other n) (λ base. NameHasBase texts (now base) n)
name-told now texts n None e = λ other h. let is = name-is texts other n h in absurd (cc)
name-told now texts n (Some base) e = name-has texts (now base) n (sym e)
