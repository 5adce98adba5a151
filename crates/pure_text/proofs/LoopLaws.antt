-- Lists that a loop goes through: what it has read of them, and what one more turn adds.
use Rattle.std.proofs.Common.{◌≡◌, ℕ, ◌+◌, ◌<◌, ◌≤◌, List, [], ◌∷◌, ◌++◌, length, get_or, take, take_all, refl, arith, inl, inr, ◌⊎◌, ◌↔◌}
use Rattle.std.proofs.lemmas.List.{take_more}
use Rattle.pure_text.specs.Lists.{IsIn, Each, AnyOf, EachTwo}
use Rattle.pure_text.proofs.ListLaws.{in-append_left, in-append_right, in_split, any_split, any-append_left, any-append_right, each-append, two-append}

pub longer_by : {A : Type 0} (xs : List A) (i : ℕ) (r : A) → i < length xs → r ≡ get_or xs i r → take (i + 1) xs ≡ take i xs ++ r ∷ []
longer_by xs i r within read = rw (take_more xs i r within, ← read) refl

-- one turn of a loop over a list
pub any_turn : {A : Type 0} (P : A → Type 0) (xs : List A) (i : ℕ) (r : A) → i < length xs → r ≡ get_or xs i r → AnyOf P (take (i + 1) xs) ↔ (AnyOf P (take i xs) ⊎ P r)
any_turn {A} P xs i r within read = (there, back)
  where
    longer : take (i + 1) xs ≡ take i xs ++ r ∷ []
    longer = longer_by xs i r within read

    there : AnyOf P (take (i + 1) xs) → AnyOf P (take i xs) ⊎ P r
    there m = elim (any_split P (take i xs) (r ∷ []) (rw longer at m)) [ inl a ↦ inl a | inr b ↦ elim b [ inl p ↦ inr p | inr none ↦ absurd none ] ]

    back : AnyOf P (take i xs) ⊎ P r → AnyOf P (take (i + 1) xs)
    back w = rw longer (elim w [ inl a ↦ any-append_left P (take i xs) (r ∷ []) a | inr p ↦ any-append_right P (take i xs) (r ∷ []) (inl p) ])

pub in_turn : {A : Type 0} (x : A) (xs : List A) (i : ℕ) (r : A) → i < length xs → r ≡ get_or xs i r → IsIn x (take (i + 1) xs) ↔ (IsIn x (take i xs) ⊎ (x ≡ r))
in_turn {A} x xs i r within read = (there, back)
  where
    longer : take (i + 1) xs ≡ take i xs ++ r ∷ []
    longer = longer_by xs i r within read

    there : IsIn x (take (i + 1) xs) → IsIn x (take i xs) ⊎ (x ≡ r)
    there m = elim (in_split x (take i xs) (r ∷ []) (rw longer at m)) [ inl a ↦ inl a | inr b ↦ elim b [ inl p ↦ inr p | inr none ↦ absurd none ] ]

    back : IsIn x (take i xs) ⊎ (x ≡ r) → IsIn x (take (i + 1) xs)
    back w = rw longer (elim w [ inl a ↦ in-append_left x (take i xs) (r ∷ []) a | inr p ↦ in-append_right x (take i xs) (r ∷ []) (inl p) ])

pub each_turn : {A : Type 0} (P : A → Type 0) (xs : List A) (i : ℕ) (r : A) → i < length xs → r ≡ get_or xs i r → Each P (take i xs) → P r → Each P (take (i + 1) xs)
each_turn P xs i r within read each p = rw (longer_by xs i r within read) (each-append P (take i xs) (r ∷ []) each (p, tt))

pub two_turn : {A B : Type 0} (R : A → B → Type 0) (xs : List A) (ys : List B) (i : ℕ) (a : A) (b : B) → length xs ≡ length ys → i < length xs → a ≡ get_or xs i a → b ≡ get_or ys i b → EachTwo R (take i xs) (take i ys) → R a b → EachTwo R (take (i + 1) xs) (take (i + 1) ys)
two_turn R xs ys i a b same within ra rb h r =
    let other : i < length ys = omega arith in
    rw (longer_by xs i a within ra, longer_by ys i b other rb) (two-append R (take i xs) (a ∷ []) (take i ys) (b ∷ []) h (r, tt))

pub two_full : {A B : Type 0} (R : A → B → Type 0) (xs : List A) (ys : List B) (i : ℕ) → length xs ≡ length ys → length xs ≤ i → EachTwo R (take i xs) (take i ys) → EachTwo R xs ys
two_full R xs ys i same full h = rw (take_all i xs full, take_all i ys (omega arith)) at h

-- While a list is gone through: each element passed is kept or has the property.
pub kept_turn : {A : Type 0} (P : A → Type 0) (xs kept kept' : List A) (i : ℕ) (r : A) → i < length xs → r ≡ get_or xs i r → (kept' ≡ kept ++ r ∷ []) ⊎ ((kept' ≡ kept) × P r)
    → ((x : A) → IsIn x (take i xs) → IsIn x kept ⊎ P x) → (x : A) → IsIn x (take (i + 1) xs) → IsIn x kept' ⊎ P x
kept_turn P xs kept kept' i r within read way before x m = elim ((in_turn x xs i r within read).0 m) [
  | inl old ↦ elim (before x old) [
    | inl k ↦ inl (elim way [ inl e ↦ rw e (in-append_left x kept (r ∷ []) k) | inr w ↦ rw w.0 k ])
    | inr p ↦ inr p
  ]
  | inr here ↦ elim way [ inl e ↦ inl (rw (e, here) (in-append_right r kept (r ∷ []) (inl refl))) | inr w ↦ inr (rw here w.1) ]
]

-- a set that grows by what is read
pub grown_put : {A : Type 0} (x : A) (now now' old xs ys : List A) → now' ≡ now ++ x ∷ [] → ys ≡ xs ++ x ∷ [] → ((k : A) → IsIn k now ↔ (IsIn k old ⊎ IsIn k xs)) → (k : A) → IsIn k now' ↔ (IsIn k old ⊎ IsIn k ys)
grown_put x now now' old xs ys longer read has k = rw (longer, read) (
  λ n. elim (in_split k now (x ∷ []) n) [
    | inl t ↦ elim ((has k).0 t) [ inl o ↦ inl o | inr s ↦ inr (in-append_left k xs (x ∷ []) s) ]
    | inr v ↦ inr (in-append_right k xs (x ∷ []) v)
  ],
  λ n. elim n [
    | inl o ↦ in-append_left k now (x ∷ []) ((has k).1 (inl o))
    | inr t ↦ elim (in_split k xs (x ∷ []) t) [
      | inl s ↦ in-append_left k now (x ∷ []) ((has k).1 (inr s))
      | inr v ↦ in-append_right k now (x ∷ []) v
    ]
  ],
)

-- what is there after a turn: new or old, and old as it was before
pub turned : (N R S T U O : Type 0) → U ↔ (T ⊎ R) → N ↔ (R ⊎ S) → S ↔ (T ⊎ O) → N ↔ (U ⊎ O)
turned N R S T U O u n s = (
  λ m. elim (n.0 m) [ inl r ↦ inl (u.1 (inr r)) | inr o ↦ elim (s.0 o) [ inl t ↦ inl (u.1 (inl t)) | inr p ↦ inr p ] ],
  λ m. elim m [ inl v ↦ elim (u.0 v) [ inl t ↦ n.1 (inr (s.1 (inl t))) | inr r ↦ n.1 (inl r) ] | inr o ↦ n.1 (inr (s.1 (inr o))) ],
)
