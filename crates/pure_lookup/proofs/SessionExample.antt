-- The example's content is one that a session may give.
use Rattle.std.proofs.Common.{◌≡◌, ◌≢◌, ℕ, zero, suc, ◌+◌, List, ◌++◌, length, refl, sym, ◌∙◌, inl, inr, arith, true≢false, false}
use Rattle.std.proofs.lemmas.Option.{slice_get_within}
use Rattle.std.specs.Prelude.{codes, bytes_eq}
use Rattle.std.specs.Cmp.Lexicographic.{bytes_decides}
use Rattle.pure_text.specs.Lists.{IsIn}
use Rattle.pure_typ.specs.NameTexts.{builtin_texts, HasText, DoAscend, AreSessionTexts}
use Rattle.pure_typ.proofs.NamesLemmas.{slice_get-left, slice_get-builtin, length-builtin_texts, Some-inj}
use Rattle.pure_logic.specs.Content.{TheoryId}
use Rattle.pure_logic.specs.Beginning.{theories_of, HasTheoriesApart}
use Rattle.pure_lookup.specs.Meaning.{pure_text}
use Rattle.pure_lookup.specs.Laws.{IsInSession}
use Rattle.pure_lookup.specs.Examples.{example_texts, over_two}
use Rattle.pure_lookup.proofs.TextLemmas.{StandOnce, tested-once}
use Rattle.pure_lookup.proofs.ExampleLemmas.{no_dot, text-A, text-B}

four_texts : length example_texts ≡ 4
unfolding example_texts
four_texts = refl

ascends : DoAscend example_texts
unfolding example_texts
ascends zero zero d h k = absurd (omega arith)
ascends zero (suc zero) d h k = refl
ascends zero (suc (suc zero)) d h k = refl
ascends zero (suc (suc (suc zero))) d h k = refl
ascends zero (suc (suc (suc (suc j)))) d h k = let four = four_texts in absurd (omega arith)
ascends (suc zero) zero d h k = absurd (omega arith)
ascends (suc zero) (suc zero) d h k = absurd (omega arith)
ascends (suc zero) (suc (suc zero)) d h k = refl
ascends (suc zero) (suc (suc (suc zero))) d h k = refl
ascends (suc zero) (suc (suc (suc (suc j)))) d h k = let four = four_texts in absurd (omega arith)
ascends (suc (suc zero)) zero d h k = absurd (omega arith)
ascends (suc (suc zero)) (suc zero) d h k = absurd (omega arith)
ascends (suc (suc zero)) (suc (suc zero)) d h k = absurd (omega arith)
ascends (suc (suc zero)) (suc (suc (suc zero))) d h k = refl
ascends (suc (suc zero)) (suc (suc (suc (suc j)))) d h k = let four = four_texts in absurd (omega arith)
ascends (suc (suc (suc i))) j d h k = let four = four_texts in absurd (omega arith)

all-once : StandOnce (builtin_texts ++ example_texts)
unfolding builtin_texts example_texts
all-once = tested-once (builtin_texts ++ example_texts) refl

names : AreSessionTexts example_texts
names = record {
  ascend = ascends;
  others = λ m n text e f. (
      let same : m ≡ n + 6 = all-once text m (n + 6) (slice_get-left builtin_texts example_texts m text e) (slice_get-builtin example_texts n ∙ f) in
      let few = slice_get_within builtin_texts m text e in
      let six = length-builtin_texts in
      absurd (omega arith)
      );
  few = let four = four_texts in omega arith;
}

other_text : (w : List ℕ) → bytes_eq w pure_text ≡ false → w ≢ pure_text
other_text w h e = true≢false (sym ((bytes_decides w pure_text).1 e) ∙ h)

other-A : bytes_eq (codes "A") pure_text ≡ false
unfolding pure_text
other-A = refl

other-B : bytes_eq (codes "B") pure_text ≡ false
unfolding pure_text
other-B = refl

theories : (t : TheoryId) (text : List ℕ) → IsIn t (theories_of (over_two 1 2)) → HasText example_texts t.name text → (¬ IsIn 46 text) × (text ≢ pure_text)
theories t text (inl e) has =
    let name : t.name ≡ 6 = cc in
    let same : text ≡ codes "A" = Some-inj (sym (rw name at has) ∙ text-A) in
    rw same (no_dot (codes "A") refl, other_text (codes "A") other-A)
theories t text (inr (inl e)) has =
    let name : t.name ≡ 8 = cc in
    let same : text ≡ codes "B" = Some-inj (sym (rw name at has) ∙ text-B) in
    rw same (no_dot (codes "B") refl, other_text (codes "B") other-B)
theories t text (inr (inr i)) has = absurd i

apart : HasTheoriesApart (over_two 1 2)
apart = record { ancestors = record { by_name = named; by_index = indexed }; own = λ theory e. absurd (cc) }
  where
    named : (t u : TheoryId) → IsIn t ((over_two 1 2).ancestors) → IsIn u ((over_two 1 2).ancestors) → t.name ≡ u.name → t ≡ u
    named t u (inl e) (inl f) h = e ∙ sym f
    named t u (inl e) (inr (inl f)) h = let first : t.name ≡ 6 = cc in let second : u.name ≡ 8 = cc in absurd (omega arith)
    named t u (inl e) (inr (inr i)) h = absurd i
    named t u (inr (inl e)) (inl f) h = let first : t.name ≡ 8 = cc in let second : u.name ≡ 6 = cc in absurd (omega arith)
    named t u (inr (inl e)) (inr (inl f)) h = e ∙ sym f
    named t u (inr (inl e)) (inr (inr i)) h = absurd i
    named t u (inr (inr i)) m h = absurd i

    indexed : (t u : TheoryId) → IsIn t ((over_two 1 2).ancestors) → IsIn u ((over_two 1 2).ancestors) → t.index ≡ u.index → t ≡ u
    indexed t u (inl e) (inl f) h = e ∙ sym f
    indexed t u (inl e) (inr (inl f)) h = let first : t.index ≡ 1 = cc in let second : u.index ≡ 2 = cc in absurd (omega arith)
    indexed t u (inl e) (inr (inr i)) h = absurd i
    indexed t u (inr (inl e)) (inl f) h = let first : t.index ≡ 2 = cc in let second : u.index ≡ 1 = cc in absurd (omega arith)
    indexed t u (inr (inl e)) (inr (inl f)) h = e ∙ sym f
    indexed t u (inr (inl e)) (inr (inr i)) h = absurd i
    indexed t u (inr (inr i)) m h = absurd i

pub session_example : IsInSession example_texts (over_two 1 2)
session_example = record { names = names; apart = apart; theories = theories }
