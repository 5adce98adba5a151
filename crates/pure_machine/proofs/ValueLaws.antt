-- The values that closed theories, one theory further.
use Rattle.std.proofs.Common.{◌≡◌, ◌∙◌, ℕ, ◌+◌, ◌<◌, List, [], ◌∷◌, ◌++◌, take, length, get_or, refl, sym, ap, Option, Some, None, filter_map, option_to_list}
use Rattle.std.proofs.lemmas.List.Elements.{filter_map-append}
use Rattle.std.specs.List.{cons_option}
use Rattle.pure_text.proofs.LoopLaws.{longer_by}
use Rattle.pure_machine.specs.State.{Progress}
use Rattle.pure_machine.specs.Step.{value_of}

one_mapped : {A B : Type 0} (f : A → Option B) (x : A) → filter_map f (x ∷ []) ≡ option_to_list (f x)
one_mapped {A} {B} f x = by_option (f x)
  where
    by_option : (o : Option B) → cons_option o [] ≡ option_to_list o
    by_option None = refl
    by_option (Some y) = refl

pub values-more : {C : Type 0} (ts : List (Progress C)) (k : ℕ) (t : Progress C) → k < length ts → (old new : List C) → old ≡ filter_map value_of (take k ts) → new ≡ old ++ option_to_list (value_of t) → t ≡ get_or ts k t → new ≡ filter_map value_of (take (k + 1) ts)
values-more ts k t within old new before put read =
    put ∙ ap (λ xs. xs ++ option_to_list (value_of t)) before ∙ ap (λ ys. filter_map value_of (take k ts) ++ ys) (sym (one_mapped value_of t)) ∙ sym (filter_map-append value_of (take k ts) (t ∷ [])) ∙ ap (filter_map value_of) (sym (longer_by ts k t within read))
