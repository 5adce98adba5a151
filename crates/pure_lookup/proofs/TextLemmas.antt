-- A text is that of one name at most, and is cut at its first dot in one way.
use Rattle.std.proofs.Common.{◌≡◌, ◌≢◌, ℕ, zero, suc, ◌+◌, ◌<◌, List, [], ◌∷◌, ◌++◌, get_or, Bool, true, false, not, ◌&&◌, ◌||◌, refl, ap, sym, ◌∙◌, inl, inr, arith, true≢false}
use Rattle.std.proofs.lemmas.Bool.{cases_lt}
use Rattle.std.proofs.lemmas.Option.{get_or_from_slice_get, slice_get_within}
use Rattle.std.proofs.Math.Nat.{eq-or-lt_of_le}
use Rattle.std.specs.Prelude.{Some, slice_get, bytes_eq}
use Rattle.std.specs.List.{list_any}
use Rattle.std.specs.Cmp.{first_so, second_so, tied_itself}
use Rattle.std.specs.declared.cmp.Ordering.TheVariants.{Less, Equal}
use Rattle.std.specs.Ordering.{nat_cmp}
use Rattle.std.specs.Cmp.Lexicographic.{slice_cmp, nat_list_cmp_total, bytes_decides}
use Rattle.pure_text.specs.Lists.{IsIn}
use Rattle.pure_text.proofs.ListLaws.{in-is_in}
use Rattle.pure_typ.specs.NameTexts.{builtin_texts, name_texts, DoAscend, AreSessionTexts}
use Rattle.pure_typ.proofs.NamesLemmas.{none-joined, slice_get-left, slice_get-builtin, length-builtin_texts}
use Rattle.pure_lookup.specs.Meaning.{pure_text, built_texts, full_text}

-- Each text stands at one place at most.
abbrev pub StandOnce : List (List ℕ) → Type 0
StandOnce texts = (w : List ℕ) (m n : ℕ) → slice_get texts m ≡ Some w → slice_get texts n ≡ Some w → m ≡ n

once-tail : (x : List ℕ) (xs : List (List ℕ)) → StandOnce (x ∷ xs) → StandOnce xs
once-tail x xs h w m n e f = let same = h w (suc m) (suc n) e f in cc

once-joined : (xs ys : List (List ℕ)) → StandOnce xs → ((m n : ℕ) (w : List ℕ) → slice_get xs m ≡ Some w → slice_get ys n ≢ Some w) → StandOnce ys → StandOnce (xs ++ ys)
once-joined [] ys h apart k w m n e f = k w m n e f
once-joined (x ∷ xs) ys h apart k w zero zero e f = refl
once-joined (x ∷ xs) ys h apart k w zero (suc n) e f = absurd (none-joined xs ys w (λ i g. zero_suc i (h w zero (suc i) e g)) (λ i g. apart zero i w e g) n f)
  where
    zero_suc : (i : ℕ) → zero ≡ suc i → ⊥
    zero_suc i s = cc
once-joined (x ∷ xs) ys h apart k w (suc m) zero e f = absurd (none-joined xs ys w (λ i g. zero_suc i (h w zero (suc i) f g)) (λ i g. apart zero i w f g) m e)
  where
    zero_suc : (i : ℕ) → zero ≡ suc i → ⊥
    zero_suc i s = cc
once-joined (x ∷ xs) ys h apart k w (suc m) (suc n) e f = ap suc (once-joined xs ys (once-tail x xs h) (λ i j v. apart (suc i) j v) k w m n e f)

-- Texts that ascend stand once.
less-place : (texts : List (List ℕ)) (w : List ℕ) (m n : ℕ) → DoAscend texts → slice_get texts m ≡ Some w → slice_get texts n ≡ Some w → m < n → ⊥
less-place texts w m n ascend e f h =
    let first : get_or texts m w ≡ w = get_or_from_slice_get texts m w w e in
    let second : get_or texts n w ≡ w = get_or_from_slice_get texts n w w f in
    let less : slice_cmp nat_cmp w w ≡ Less = rw (first, second) at (ascend m n w h (slice_get_within texts n w f)) in
    let itself : slice_cmp nat_cmp w w ≡ Equal = tied_itself nat_list_cmp_total w in
    absurd (cc)

ascending-once : (texts : List (List ℕ)) → DoAscend texts → StandOnce texts
ascending-once texts ascend w m n e f = elim (cases_lt m n) [
  | inl h ↦ absurd (less-place texts w m n ascend e f h)
  | inr h ↦ elim (eq-or-lt_of_le h) [ inl s ↦ sym s | inr l ↦ absurd (less-place texts w n m ascend f e l) ]
]

-- whether no text of the list stands in it twice
abbrev pub all_once : List (List ℕ) → Bool
all_once [] = true
all_once (x ∷ xs) = not (list_any (bytes_eq x) xs) && all_once xs

any-at : (x : List ℕ) (xs : List (List ℕ)) (n : ℕ) → slice_get xs n ≡ Some x → list_any (bytes_eq x) xs ≡ true
any-at x [] n e = absurd (cc)
any-at x (y ∷ ys) zero e = let same : x ≡ y = cc in let yes = (bytes_decides x y).1 same in rw yes refl
any-at x (y ∷ ys) (suc n) e = let later = any-at x ys n e in by (bytes_eq x y) later
  where
    by : (b : Bool) → list_any (bytes_eq x) ys ≡ true → (b || list_any (bytes_eq x) ys) ≡ true
    by true h = refl
    by false h = h

twice : (x : List ℕ) (xs : List (List ℕ)) (n : ℕ) → not (list_any (bytes_eq x) xs) ≡ true → slice_get xs n ≡ Some x → ⊥
twice x xs n h e = let yes = any-at x xs n e in let no : not true ≡ true = rw yes at h in absurd (cc)

pub tested-once : (xs : List (List ℕ)) → all_once xs ≡ true → StandOnce xs
tested-once [] h w m n e f = absurd (cc)
tested-once (x ∷ xs) h w zero zero e f = refl
tested-once (x ∷ xs) h w zero (suc n) e f = absurd (twice x xs n (first_so (not (list_any (bytes_eq x) xs)) (all_once xs) h) (f ∙ sym e))
tested-once (x ∷ xs) h w (suc m) zero e f = absurd (twice x xs m (first_so (not (list_any (bytes_eq x) xs)) (all_once xs) h) (e ∙ sym f))
tested-once (x ∷ xs) h w (suc m) (suc n) e f = ap suc (tested-once xs (second_so (not (list_any (bytes_eq x) xs)) (all_once xs) h) w m n e f)

builtin-once : StandOnce builtin_texts
unfolding builtin_texts
builtin-once = tested-once builtin_texts refl

built-once : StandOnce (builtin_texts ++ built_texts)
unfolding builtin_texts built_texts
built-once = tested-once (builtin_texts ++ built_texts) refl

-- The text of a name of Pure isn't that of a built fact, and built facts have different texts.
pub builtin-not_built : (m n : ℕ) (w : List ℕ) → slice_get builtin_texts m ≡ Some w → slice_get built_texts n ≡ Some w → ⊥
builtin-not_built m n w e f =
    let same : m ≡ n + 6 = built-once w m (n + 6) (slice_get-left builtin_texts built_texts m w e) (slice_get-builtin built_texts n ∙ f) in
    let few = slice_get_within builtin_texts m w e in
    let six = length-builtin_texts in
    absurd (omega arith)

pub one_built : StandOnce built_texts
one_built w m n e f =
    let same : m + 6 ≡ n + 6 = built-once w (m + 6) (n + 6) (slice_get-builtin built_texts m ∙ e) (slice_get-builtin built_texts n ∙ f) in
    omega arith

pub one_builtin : StandOnce builtin_texts
one_builtin = builtin-once

-- Each text is that of one name at most.
pub one_name : (texts : List (List ℕ)) → AreSessionTexts texts → StandOnce (name_texts texts)
one_name texts session = once-joined builtin_texts texts builtin-once (λ m n w. session.others m n w) (ascending-once texts session.ascend)

-- The text of Pure has no dot.
pub pure-has_no_dot : ¬ IsIn 46 pure_text
unfolding pure_text
pure-has_no_dot m = true≢false (sym (in-is_in 46 pure_text m))

-- A full name is cut at its first dot in one way.
pub one_cut : (t u b c : List ℕ) → (¬ IsIn 46 t) → (¬ IsIn 46 u) → full_text t b ≡ full_text u c → (t ≡ u) × (b ≡ c)
one_cut [] [] b c clean other e = (refl, cc)
one_cut [] (y ∷ ys) b c clean other e = let same : 46 ≡ y = cc in absurd (other (inl same))
one_cut (x ∷ xs) [] b c clean other e = let same : 46 ≡ x = cc in absurd (clean (inl same))
one_cut (x ∷ xs) (y ∷ ys) b c clean other e =
    let first : x ≡ y = cc in
    let rest : full_text xs b ≡ full_text ys c = cc in
    let later = one_cut xs ys b c (λ m. clean (inr m)) (λ m. other (inr m)) rest in
    (λ l. first l ∷ later.0 l, later.1)
