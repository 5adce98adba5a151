-- Elements of lists: what some, each, or each two of them have.
use Rattle.std.proofs.Common.{map, ap, sym, ◌≡◌, ◌∙◌, ℕ, ◌+◌, ◌<◌, List, [], ◌∷◌, ◌++◌, length, get_or, take, drop, drop-cons, take-append-drop, add-one, zero, suc, inl, inr, ◌⊎◌, ◌↔◌, Bool, true, false, ◌||◌, refl, nat_eq, arith, subst}
use Rattle.std.proofs.lemmas.Bool.{eq-eqb, eqb-true}
use Rattle.std.proofs.lemmas.Bool.Decides.{eqb_tells}
use Rattle.pure_text.specs.Lists.{IsIn, Each, AnyOf, EachTwo, AreDistinct}

pub each_of : {A : Type 0} (P : A → Type 0) (xs : List A) → ((x : A) → IsIn x xs → P x) → Each P xs
each_of P [] h = tt
each_of P (x ∷ xs) h = (h x (inl refl), each_of P xs (λ y m. h y (inr m)))

pub any_of : {A : Type 0} (P : A → Type 0) (x : A) (xs : List A) → IsIn x xs → P x → AnyOf P xs
any_of P x [] m h = m
any_of P x (y ∷ ys) m h = elim m [ inl e ↦ inl (rw (← e) h) | inr n ↦ inr (any_of P x ys n h) ]

pub in-append_left : {A : Type 0} (x : A) (xs ys : List A) → IsIn x xs → IsIn x (xs ++ ys)
in-append_left x [] ys m = absurd m
in-append_left x (z ∷ xs) ys m = elim m [ inl e ↦ inl e | inr n ↦ inr (in-append_left x xs ys n) ]

pub in-append_right : {A : Type 0} (x : A) (xs ys : List A) → IsIn x ys → IsIn x (xs ++ ys)
in-append_right x [] ys m = m
in-append_right x (z ∷ xs) ys m = inr (in-append_right x xs ys m)

pub in-map : {A B : Type 0} (f : A → B) (x : A) (xs : List A) → IsIn x xs → IsIn (f x) (map f xs)
in-map f x [] m = m
in-map f x (y ∷ ys) m = elim m [ inl e ↦ inl (ap f e) | inr n ↦ inr (in-map f x ys n) ]

pub in_split : {A : Type 0} (x : A) (xs ys : List A) → IsIn x (xs ++ ys) → IsIn x xs ⊎ IsIn x ys
in_split x [] ys m = inr m
in_split x (z ∷ xs) ys m = elim m [ inl e ↦ inl (inl e) | inr n ↦ elim (in_split x xs ys n) [ inl a ↦ inl (inr a) | inr b ↦ inr b ] ]

pub any_split : {A : Type 0} (P : A → Type 0) (xs ys : List A) → AnyOf P (xs ++ ys) → AnyOf P xs ⊎ AnyOf P ys
any_split P [] ys m = inr m
any_split P (z ∷ xs) ys m = elim m [ inl e ↦ inl (inl e) | inr n ↦ elim (any_split P xs ys n) [ inl a ↦ inl (inr a) | inr b ↦ inr b ] ]

pub any-append_left : {A : Type 0} (P : A → Type 0) (xs ys : List A) → AnyOf P xs → AnyOf P (xs ++ ys)
any-append_left P [] ys m = absurd m
any-append_left P (z ∷ xs) ys m = elim m [ inl e ↦ inl e | inr n ↦ inr (any-append_left P xs ys n) ]

pub any-append_right : {A : Type 0} (P : A → Type 0) (xs ys : List A) → AnyOf P ys → AnyOf P (xs ++ ys)
any-append_right P [] ys m = m
any-append_right P (z ∷ xs) ys m = inr (any-append_right P xs ys m)

pub each-append : {A : Type 0} (P : A → Type 0) (xs ys : List A) → Each P xs → Each P ys → Each P (xs ++ ys)
each-append P [] ys a b = b
each-append P (x ∷ xs) ys a b = (a.0, each-append P xs ys a.1 b)

pub any_some : {A : Type 0} (P : A → Type 0) (xs : List A) → AnyOf P xs → (x : A) × IsIn x xs × P x
any_some P [] h = absurd h
any_some P (x ∷ xs) h = elim h [ inl p ↦ (x, inl refl, p) | inr t ↦ (let w = any_some P xs t in (w.0, inr w.1, w.2)) ]

pub any_imply : {A : Type 0} (P Q : A → Type 0) (xs : List A) → ((x : A) → P x → Q x) → AnyOf P xs → AnyOf Q xs
any_imply P Q [] f h = h
any_imply P Q (x ∷ xs) f h = elim h [ inl p ↦ inl (f x p) | inr t ↦ inr (any_imply P Q xs f t) ]

pub each_imply : {A : Type 0} (P Q : A → Type 0) (xs : List A) → ((x : A) → P x → Q x) → Each P xs → Each Q xs
each_imply P Q [] f h = h
each_imply P Q (x ∷ xs) f h = (f x h.0, each_imply P Q xs f h.1)

pub each_at : {A : Type 0} (P : A → Type 0) (xs : List A) → Each P xs → (x : A) → IsIn x xs → P x
each_at P [] h x m = absurd m
each_at P (y ∷ ys) h x m = elim m [ inl e ↦ rw e h.0 | inr n ↦ each_at P ys h.1 x n ]

pub any-map : {A B : Type 0} (f : A → B) (P : B → Type 0) (xs : List A) → AnyOf P (map f xs) ↔ AnyOf (λ x. P (f x)) xs
any-map f P [] = (λ h. h, λ h. h)
any-map f P (x ∷ xs) = let t = any-map f P xs in (λ h. elim h [ inl p ↦ inl p | inr n ↦ inr (t.0 n) ], λ h. elim h [ inl p ↦ inl p | inr n ↦ inr (t.1 n) ])

pub two_long : {A B : Type 0} (R : A → B → Type 0) (xs : List A) (ys : List B) → EachTwo R xs ys → length xs ≡ length ys
two_long R [] [] h = refl
two_long R [] (y ∷ ys) h = absurd h
two_long R (x ∷ xs) [] h = absurd h
two_long R (x ∷ xs) (y ∷ ys) h = ap suc (two_long R xs ys h.1)

pub two-append : {A B : Type 0} (R : A → B → Type 0) (xs us : List A) (ys vs : List B) → EachTwo R xs ys → EachTwo R us vs → EachTwo R (xs ++ us) (ys ++ vs)
two-append R [] us [] vs h k = k
two-append R [] us (y ∷ ys) vs h k = absurd h
two-append R (x ∷ xs) us [] vs h k = absurd h
two-append R (x ∷ xs) us (y ∷ ys) vs h k = (h.0, two-append R xs us ys vs h.1 k)

pub split_at : {A : Type 0} (xs : List A) (i : ℕ) (r : A) → i < length xs → r ≡ get_or xs i r → xs ≡ take i xs ++ r ∷ drop (i + 1) xs
split_at xs i r within read = sym (take-append-drop i xs) ∙ ap (λ ys. take i xs ++ ys) (rest_at xs i r within read)
  where
    rest_at : {A : Type 0} (xs : List A) (i : ℕ) (r : A) → i < length xs → r ≡ get_or xs i r → drop i xs ≡ r ∷ drop (i + 1) xs
    rest_at xs i r within read = drop-cons xs i r within ∙ rw (← read, add-one) refl

pub read_in : {A : Type 0} (xs : List A) (i : ℕ) (r : A) → i < length xs → r ≡ get_or xs i r → IsIn r xs
read_in [] i r within read = absurd (omega arith)
read_in (x ∷ xs) zero r within read = inl read
read_in (x ∷ xs) (suc i) r within read = inr (read_in xs i r (omega arith) read)

pub any_read : {A : Type 0} (P : A → Type 0) (xs : List A) (i : ℕ) (r : A) → i < length xs → r ≡ get_or xs i r → P r → AnyOf P xs
any_read P xs i r within read p = any_of P r xs (read_in xs i r within read) p

pub each_read : {A : Type 0} (P : A → Type 0) (xs : List A) (i : ℕ) (r : A) → i < length xs → r ≡ get_or xs i r → Each P xs → P r
each_read P xs i r within read each = each_at P xs each r (read_in xs i r within read)

pub two_read : {A B : Type 0} (R : A → B → Type 0) (xs : List A) (ys : List B) (i : ℕ) (a : A) (b : B) → i < length xs → a ≡ get_or xs i a → b ≡ get_or ys i b → EachTwo R xs ys → R a b
two_read R [] ys i a b within ra rb h = absurd (omega arith)
two_read R (x ∷ xs) [] i a b within ra rb h = absurd h
two_read R (x ∷ xs) (y ∷ ys) zero a b within ra rb h = rw (ra, rb) h.0
two_read R (x ∷ xs) (y ∷ ys) (suc i) a b within ra rb h = two_read R xs ys i a b (omega arith) ra rb h.1

pub in_or_not : (n : ℕ) (ms : List ℕ) → IsIn n ms ⊎ ¬ IsIn n ms
in_or_not n [] = inr (λ h. h)
in_or_not n (m ∷ ms) = elim (eqb_tells n m) [
  | inl w ↦ inl (inl w.1)
  | inr w ↦ elim (in_or_not n ms) [ inl k ↦ inl (inr k) | inr k ↦ inr (λ h. elim h [ inl e ↦ w.1 e | inr l ↦ k l ]) ]
]

pub any_decided : {A : Type 0} (P : A → Type 0) → ((x : A) → P x ⊎ ¬ P x) → (xs : List A) → AnyOf P xs ⊎ ¬ AnyOf P xs
any_decided P d [] = inr (λ h. h)
any_decided P d (x ∷ xs) = elim (d x) [ inl p ↦ inl (inl p) | inr n ↦ elim (any_decided P d xs) [ inl t ↦ inl (inr t) | inr m ↦ inr (λ h. elim h [ inl p ↦ n p | inr t ↦ m t ]) ] ]

pub each_decided : {A : Type 0} (P : A → Type 0) → ((x : A) → P x ⊎ ¬ P x) → (xs : List A) → Each P xs ⊎ ¬ Each P xs
each_decided P d [] = inl tt
each_decided P d (x ∷ xs) = elim (d x) [ inl p ↦ elim (each_decided P d xs) [ inl t ↦ inl (p, t) | inr m ↦ inr (λ h. m h.1) ] | inr n ↦ inr (λ h. n h.0) ]

-- A list whose elements are all among none is empty.
pub none_in : {A : Type 0} (xs : List A) → Each (λ x. IsIn x []) xs → xs ≡ []
none_in [] h = refl
none_in (x ∷ xs) h = absurd h.0

pub each-left : {A : Type 0} (P : A → Type 0) (xs ys : List A) → Each P (xs ++ ys) → Each P xs
each-left P [] ys h = tt
each-left P (x ∷ xs) ys h = (h.0, each-left P xs ys h.1)

pub each-right : {A : Type 0} (P : A → Type 0) (xs ys : List A) → Each P (xs ++ ys) → Each P ys
each-right P [] ys h = h
each-right P (x ∷ xs) ys h = each-right P xs ys h.1

-- A premise may stand in front of the others or behind them.
pub moved : {A : Type 0} (x : A) (xs ys : List A) (y : A) → IsIn y (xs ++ x ∷ ys) → IsIn y (x ∷ (xs ++ ys))
moved x xs ys y m = elim (in_split y xs (x ∷ ys) m) [
  | inl n ↦ inr (in-append_left y xs ys n)
  | inr n ↦ elim n [ inl same ↦ inl same | inr o ↦ inr (in-append_right y xs ys o) ]
]

pub moved_back : {A : Type 0} (x : A) (xs ys : List A) (y : A) → IsIn y (x ∷ (xs ++ ys)) → IsIn y (xs ++ x ∷ ys)
moved_back x xs ys y (inl same) = in-append_right y xs (x ∷ ys) (inl same)
moved_back x xs ys y (inr m) = elim (in_split y xs ys m) [ inl n ↦ in-append_left y xs (x ∷ ys) n | inr n ↦ in-append_right y xs (x ∷ ys) (inr n) ]

-- whether a number is in a list
abbrev pub is_in : ℕ → List ℕ → Bool
is_in n [] = false
is_in n (m ∷ ms) = nat_eq n m || is_in n ms

pub in-is_in : (n : ℕ) (ms : List ℕ) → IsIn n ms → is_in n ms ≡ true
in-is_in n [] h = absurd h
in-is_in n (m ∷ ms) h = elim h [ inl e ↦ rw (eq-eqb n m e) | inr k ↦ rw (in-is_in n ms k) (or_true (nat_eq n m)) ]
  where
    or_true : (b : Bool) → (b || true) ≡ true
    or_true true = refl
    or_true false = refl

pub is_in-in : (n : ℕ) (ms : List ℕ) → is_in n ms ≡ true → IsIn n ms
is_in-in n [] h = absurd (cc)
is_in-in n (m ∷ ms) h = by (nat_eq n m) refl (is_in-in n ms) h
  where
    by : (b : Bool) → nat_eq n m ≡ b → (is_in n ms ≡ true → IsIn n ms) → (b || is_in n ms) ≡ true → IsIn n (m ∷ ms)
    by true e later k = inl (eqb-true n m e)
    by false e later k = inr (later k)

-- one element more that is new
pub distinct-snoc : {A : Type 0} (xs : List A) (x : A) → AreDistinct xs → (¬ IsIn x xs) → AreDistinct (xs ++ x ∷ [])
distinct-snoc [] x d new = ((λ m. m), tt)
distinct-snoc (y ∷ ys) x d new = (
  λ m. elim (in_split y ys (x ∷ []) m) [ inl n ↦ d.0 n | inr n ↦ elim n [ inl e ↦ new (inl (sym e)) | inr none ↦ absurd none ] ],
  distinct-snoc ys x d.1 (λ m. new (inr m)),
)

-- and the same of the images under a function
pub distinct-map_snoc : {A B : Type 0} (f : A → B) (xs : List A) (x : A) → AreDistinct (map f xs) → (¬ IsIn (f x) (map f xs)) → AreDistinct (map f (xs ++ x ∷ []))
distinct-map_snoc f xs x d new = subst AreDistinct (sym (ends f xs x)) (distinct-snoc (map f xs) (f x) d new)
  where
    ends : {A B : Type 0} (f : A → B) (xs : List A) (x : A) → map f (xs ++ x ∷ []) ≡ map f xs ++ f x ∷ []
    ends f [] x = refl
    ends f (y ∷ ys) x = ap (λ zs. f y ∷ zs) (ends f ys x)
