-- Buckets: empty ones, and one value more.
use Rattle.std.proofs.Common.{◌≡◌, ◌≢◌, ◌⊎◌, ◌∙◌, ◌<◌, ◌%◌, ℕ, zero, suc, List, [], ◌∷◌, ◌++◌, length, get_or, set, refl, sym, ap, subst, inl, inr, mod-lt, ⊎_elim}
use Rattle.std.proofs.lemmas.List.{length-set, get_or-set_same, get_or-set_other, get_or_default}
use Rattle.std.proofs.lemmas.Bool.{cases_eq}
use Rattle.pure_text.specs.Lists.{IsIn}
use Rattle.pure_text.proofs.ListLaws.{in-append_left, in-append_right}
use Rattle.pure_machine.specs.Buckets.{bucket, IsPut}

-- no bucket
pub none_empty : {A : Type 0} (bs : List (List A)) → bs ≡ [] → (k : ℕ) → get_or bs k [] ≡ []
none_empty bs none k = rw none refl

-- one empty bucket more
pub empty_more : {A : Type 0} (bs bs' : List (List A)) (b : List A) → b ≡ [] → bs' ≡ bs ++ b ∷ [] → ((k : ℕ) → get_or bs k [] ≡ []) → (k : ℕ) → get_or bs' k [] ≡ []
empty_more {A} bs bs' b none is h k = rw (is, none) (further bs h k)
  where
    further : (bs : List (List A)) → ((k : ℕ) → get_or bs k [] ≡ []) → (k : ℕ) → get_or (bs ++ [] ∷ []) k [] ≡ []
    further [] h zero = refl
    further [] h (suc k) = refl
    further (b ∷ bs) h zero = h zero
    further (b ∷ bs) h (suc k) = further bs (λ j. h (suc j)) k

-- one value more in the bucket of a key
pub put-there : {A : Type 0} (bs : List (List A)) (key place : ℕ) (old new : List A) (x : A) → 0 < length bs → place ≡ key % length bs → old ≡ get_or bs place old → new ≡ old ++ x ∷ [] → IsPut bs (set bs place new) key x
put-there {A} bs key place old new x some is read put k = ⊎_elim here other (cases_eq (k % length bs) place)
  where
    within : place < length bs
    within = subst (λ n. n < length bs) (sym is) (mod-lt key some)

    same_length : bucket (set bs place new) k ≡ get_or (set bs place new) (k % length bs) []
    same_length = ap (λ n. get_or (set bs place new) (k % n) []) (length-set bs place new)

    old_is : get_or bs place [] ≡ old
    old_is = sym (read ∙ get_or_default bs place old [] within)

    here : k % length bs ≡ place → (bucket (set bs place new) k ≡ bucket bs k ++ x ∷ []) ⊎ ((bucket (set bs place new) k ≡ bucket bs k) × (k ≢ key))
    here e = inl (same_length ∙ ap (λ n. get_or (set bs place new) n []) e ∙ get_or-set_same bs place new [] within ∙ put ∙ ap (λ l. l ++ x ∷ []) (sym (ap (λ n. get_or bs n []) e ∙ old_is)))

    other : k % length bs ≢ place → (bucket (set bs place new) k ≡ bucket bs k ++ x ∷ []) ⊎ ((bucket (set bs place new) k ≡ bucket bs k) × (k ≢ key))
    other ne = inr (same_length ∙ get_or-set_other bs place (k % length bs) new [] ne, λ e. ne (ap (λ n. n % length bs) e ∙ sym is))

-- what stood in a bucket stands there still
pub put-keeps : {A : Type 0} (old new : List (List A)) (key : ℕ) (x : A) → IsPut old new key x → (y : A) (k : ℕ) → IsIn y (bucket old k) → IsIn y (bucket new k)
put-keeps old new key x put y k m = elim (put k) [
  | inl more ↦ rw more (in-append_left y (bucket old k) (x ∷ []) m)
  | inr same ↦ rw same.0 m
]

-- the value that was put stands in the bucket of its key
pub put-in : {A : Type 0} (old new : List (List A)) (key : ℕ) (x : A) → IsPut old new key x → IsIn x (bucket new key)
put-in old new key x put = elim (put key) [
  | inl more ↦ rw more (in-append_right x (bucket old key) (x ∷ []) (inl refl))
  | inr same ↦ absurd (same.1 refl)
]
