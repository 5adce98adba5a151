-- The number of a name that was found by its text.
use Rattle.std.proofs.Common.{◌≡◌, ◌≢◌, ℕ, zero, suc, ◌<◌, List, [], ◌∷◌, ◌++◌, get_or, Bool, true, false, refl, ap, sym, ◌∙◌, inl, inr, arith}
use Rattle.std.proofs.lemmas.Bool.{cases_lt}
use Rattle.std.proofs.lemmas.Option.{get_or_from_slice_get, slice_get_within}
use Rattle.std.proofs.Math.Nat.{eq-or-lt_of_le}
use Rattle.std.specs.Prelude.{Some, slice_get, codes}
use Rattle.std.specs.Cmp.{tied_itself}
use Rattle.std.specs.declared.cmp.Ordering.TheVariants.{Less, Equal}
use Rattle.std.specs.Ordering.{nat_cmp}
use Rattle.std.specs.Cmp.Lexicographic.{slice_cmp, nat_list_cmp_total, nat_list_eq_equiv, same_text}
use Rattle.pure_grammar.specs.Theories.Lexeme.{same}
use Rattle.pure_typ.specs.NameTexts.{builtin_texts, name_texts, DoAscend, AreSessionTexts}
use Rattle.pure_record.specs.Lexemes.{place_in, number_of}

-- Each text stands at one place at most.
abbrev StandOnce : List (List ℕ) → Type 0
StandOnce texts = (w : List ℕ) (m n : ℕ) → slice_get texts m ≡ Some w → slice_get texts n ≡ Some w → m ≡ n

-- Texts that ascend stand once.
less-place : (texts : List (List ℕ)) (w : List ℕ) (m n : ℕ) → DoAscend texts → slice_get texts m ≡ Some w → slice_get texts n ≡ Some w → m < n → ⊥
less-place texts w m n ascend e f h =
    let first : get_or texts m w ≡ w = get_or_from_slice_get texts m w w e in
    let second : get_or texts n w ≡ w = get_or_from_slice_get texts n w w f in
    let less : slice_cmp nat_cmp w w ≡ Less = rw (first, second) at (ascend m n w h (slice_get_within texts n w f)) in
    let itself : slice_cmp nat_cmp w w ≡ Equal = tied_itself nat_list_cmp_total w in
    absurd (cc)

ascending-once : (texts : List (List ℕ)) → DoAscend texts → StandOnce texts
ascending-once texts ascend w m n e f = elim (cases_lt m n) [
  | inl h ↦ absurd (less-place texts w m n ascend e f h)
  | inr h ↦ elim (eq-or-lt_of_le h) [ inl s ↦ sym s | inr l ↦ absurd (less-place texts w n m ascend f e l) ]
]

-- No text of the list stands at an earlier place of it.
abbrev IsFirstAt : List (List ℕ) → ℕ → List ℕ → Type 0
IsFirstAt texts n w = (m : ℕ) → m < n → slice_get texts m ≢ Some w

first-place : (texts : List (List ℕ)) (n : ℕ) (w : List ℕ) → slice_get texts n ≡ Some w → IsFirstAt texts n w → n ≡ place_in texts w
first-place [] n w e first = absurd (cc)
first-place (x ∷ xs) zero w e first = let is : x ≡ w = cc in let yes : same x w ≡ true = rw is (nat_list_eq_equiv.refl w) in rw yes refl
first-place (x ∷ xs) (suc n) w e first = tell (same x w) refl (first-place xs n w e (λ m l. first (suc m) (omega arith)))
  where
    tell : (b : Bool) → same x w ≡ b → n ≡ place_in xs w → suc n ≡ place_in (x ∷ xs) w
    tell true h further = absurd (first zero (omega arith) (ap Some (same_text x w (sym h))))
    tell false h further = rw h (ap suc further)

-- ---- the names of Pure, and the others behind them
joined-first : (xs ys : List (List ℕ)) (n : ℕ) (w : List ℕ) → ((m k : ℕ) (v : List ℕ) → slice_get xs m ≡ Some v → slice_get ys k ≢ Some v) → StandOnce xs → StandOnce ys
    → slice_get (xs ++ ys) n ≡ Some w → IsFirstAt (xs ++ ys) n w
joined-first [] ys n w apart once other e m l f = absurd (less-than m n l (other w m n f e))
  where
    less-than : (m n : ℕ) → m < n → m ≡ n → ⊥
    less-than m n l e = omega arith
joined-first (x ∷ xs) ys zero w apart once other e m l f = absurd (omega arith)
joined-first (x ∷ xs) ys (suc n) w apart once other e (suc m) l f = joined-first xs ys n w (λ i k v. apart (suc i) k v) (λ v i j p q. let s = once v (suc i) (suc j) p q in cc) other e m (omega arith) f
joined-first (x ∷ xs) ys (suc n) w apart once other e zero l f = behind xs ys n w (λ i g. zero_suc i (once w zero (suc i) f g)) (λ i g. apart zero i w f g) e
  where
    zero_suc : (i : ℕ) → zero ≡ suc i → ⊥
    zero_suc i s = cc

    behind : (xs ys : List (List ℕ)) (n : ℕ) (w : List ℕ) → ((i : ℕ) → slice_get xs i ≢ Some w) → ((i : ℕ) → slice_get ys i ≢ Some w) → slice_get (xs ++ ys) n ≡ Some w → ⊥
    behind [] ys n w no_x no_y g = no_y n g
    behind (z ∷ zs) ys zero w no_x no_y g = no_x zero g
    behind (z ∷ zs) ys (suc n) w no_x no_y g = behind zs ys n w (λ i. no_x (suc i)) no_y g

builtin-place : (n : ℕ) (w : List ℕ) → slice_get builtin_texts n ≡ Some w → n ≡ place_in builtin_texts w
unfolding builtin_texts
builtin-place zero w e = let is : codes "Pure.fun" ≡ w = cc in rw (← is) refl
builtin-place (suc zero) w e = let is : codes "Pure.prop" ≡ w = cc in rw (← is) refl
builtin-place (suc (suc zero)) w e = let is : codes "Pure.all" ≡ w = cc in rw (← is) refl
builtin-place (suc (suc (suc zero))) w e = let is : codes "Pure.imp" ≡ w = cc in rw (← is) refl
builtin-place (suc (suc (suc (suc zero)))) w e = let is : codes "Pure.eq" ≡ w = cc in rw (← is) refl
builtin-place (suc (suc (suc (suc (suc zero))))) w e = let is : codes "Pure.protect" ≡ w = cc in rw (← is) refl
builtin-place (suc (suc (suc (suc (suc (suc n)))))) w e = absurd (cc)

builtin-once : StandOnce builtin_texts
builtin-once w m n e f = builtin-place m w e ∙ sym (builtin-place n w f)

pub number-found : (texts : List (List ℕ)) (text : List ℕ) (n : ℕ) → AreSessionTexts texts → slice_get (name_texts texts) n ≡ Some text → n ≡ number_of texts text
number-found texts text n session e = first-place (name_texts texts) n text e (joined-first builtin_texts texts n text (λ m k v. session.others m k v) builtin-once (ascending-once texts session.ascend) e)
