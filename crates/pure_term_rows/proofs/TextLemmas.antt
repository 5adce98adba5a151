-- Which texts are those of a session, by tests of each of them.
use Rattle.std.proofs.Common.{◌≡◌, ℕ, zero, suc, ◌+◌, ◌<◌, Bool, true, false, List, [], ◌∷◌, ◌++◌, length, get_or, take, refl, sym, ap, ◌∙◌, subst, inl, inr, arith}
use Rattle.std.proofs.lemmas.Bool.{cases_lt}
use Rattle.std.proofs.lemmas.List.{append-nil, get_or-take, get_or_default, length-take-le}
use Rattle.std.proofs.lemmas.Option.{slice_get_within, get_or_from_slice_get}
use Rattle.std.specs.Prelude.{slice_get, Option, Some, None, is_some}
use Rattle.std.specs.declared.cmp.Ordering.{Ordering}
use Rattle.std.specs.declared.cmp.Ordering.TheVariants.{Less, Equal, Greater}
use Rattle.std.specs.Ordering.{nat_cmp, is_lt}
use Rattle.std.specs.Cmp.Lexicographic.{slice_cmp}
use Rattle.pure_text.specs.Lists.{Each}
use Rattle.pure_typ.specs.NameTexts.{AreSessionTexts, DoAscend, IsFound, builtin_texts, name_texts}
use Rattle.pure_term_rows.specs.Texts.{IsBelow, IsOther, AscendTo}

less_is : (o : Ordering) → is_lt o ≡ true → o ≡ Less
less_is Less p = refl
less_is Equal p = cc
less_is Greater p = cc

pub below_true : (text lower : List ℕ) (answer : Bool) → answer ≡ is_lt (slice_cmp nat_cmp lower text) → answer ≡ true → IsBelow text lower
unfolding IsBelow
below_true text lower answer e h = less_is (slice_cmp nat_cmp lower text) (sym e ∙ h)

each_at : {A : Type 0} (P : A → Type 0) (xs : List A) (n : ℕ) (d : A) → n < length xs → Each P xs → P (get_or xs n d)
each_at P [] n d h each = absurd (omega arith)
each_at P (x ∷ xs) zero d h each = each.0
each_at P (x ∷ xs) (suc n) d h each = each_at P xs n d (omega arith) each.1

pub ascend_more : (ts : List (List ℕ)) (k : ℕ) (x : List ℕ) → k < length ts → x ≡ get_or ts k x → AscendTo k ts → Each (IsBelow x) (take k ts) → AscendTo (k + 1) ts
unfolding IsBelow
ascend_more ts k x inside is before each i j d low high = elim (cases_lt j k) [
  | inl less ↦ before i j d low less
  | inr least ↦ (
      let same : j ≡ k = omega arith in
      let count : length (take k ts) ≡ k = length-take-le k ts (omega arith) in
      let below = each_at (IsBelow x) (take k ts) i d (omega arith) each in
      let here : get_or ts j d ≡ x = ap (λ n. get_or ts n d) same ∙ get_or_default ts k d x inside ∙ sym is in
      ap (λ t. slice_cmp nat_cmp t (get_or ts j d)) (sym (get_or-take k ts i d (omega arith))) ∙ ap (λ t. slice_cmp nat_cmp (get_or (take k ts) i d) t) here ∙ below
      )
]

pub other_unfound : (own : List (List ℕ)) (text : List ℕ) (found : Option ℕ) → own ≡ [] → IsFound (name_texts own) text found → is_some found ≡ false → IsOther text
unfolding IsOther
other_unfound own text None e h n = λ m p. h m (ap (λ l. slice_get (builtin_texts ++ l) m) e ∙ ap (λ l. slice_get l m) (append-nil builtin_texts) ∙ p)
other_unfound own text (Some k) e h n = cc

other_at : (ts : List (List ℕ)) (n : ℕ) (text : List ℕ) → Each IsOther ts → slice_get ts n ≡ Some text → IsOther text
other_at ts n text each found = subst IsOther (get_or_from_slice_get ts n text [] found) (each_at IsOther ts n [] (slice_get_within ts n text found) each)

pub session_texts : (ts : List (List ℕ)) → length ts < 2147483648 → DoAscend ts → Each IsOther ts → AreSessionTexts ts
unfolding IsOther
session_texts ts few ascends each = record {
  ascend = ascends;
  others = λ m n text p found. other_at ts n text each found m p;
  few = few;
}
