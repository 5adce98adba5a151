-- The example of a fact that is local to a lemma.
use Rattle.std.proofs.Common.{◌≡◌, ℕ, zero, suc, List, [], ◌∷◌, false, true≢false, bytes_eq, inl, inr, refl, sym, subst, ◌∙◌}
use Rattle.std.specs.Prelude.{codes, Some, None, slice_get}
use Rattle.std.proofs.lemmas.Option.{same_Some}
use Rattle.std.proofs.lemmas.Slice.Eq.{bytes_eq-Decides}
use Rattle.pure_text.specs.Lists.{Each}
use Rattle.pure_definitions.specs.Types.Typ.{Typ}
use Rattle.pure_definitions.specs.Terms.Term.{Term, Free, App}
use Rattle.pure_typ.specs.NameTexts.{builtin_texts, HasText}
use Rattle.pure_grammar.specs.Theories.TheoryText.{Unfold}
use Rattle.pure_lookup.specs.Meaning.{facts, pure_text, built_texts, full_text, Meaning, Declared, Built, IsVisible}
use Rattle.pure_lookup.specs.LookUps.{PromisedFact, IsFoundFact, IsLocal, local}
use Rattle.pure_lookup.proofs.ExampleLemmas.{no_dot}
use Rattle.pure_unfold.specs.Unfold.{IsNoDefinition}
use Rattle.pure_method.specs.Facts.{theorem}
use Rattle.pure_method.specs.Unfolding.{TakesFact, ComesByFacts, UnfoldStep}
use Rattle.pure_method.specs.Proof.{ByFactsOf, EndsBy, IsProofBy}
use Rattle.pure_method.specs.Examples.{premise, local_texts, local_content, LocalExample}
use Rattle.pure_method.proofs.ExampleLaws.{begins}

-- A text that differs from each of a list has no place in it.
no_place : (w : List ℕ) (xs : List (List ℕ)) → Each (λ x. bytes_eq x w ≡ false) xs → (n : ℕ) → slice_get xs n ≡ Some w → ⊥
no_place w [] h n e = absurd (cc)
no_place w (x ∷ xs) h zero e = true≢false (sym ((bytes_eq-Decides x w).1 (same_Some x w e)) ∙ h.0)
no_place w (x ∷ xs) h (suc n) e = no_place w xs h.1 n e

not-builtin : (n : ℕ) → slice_get builtin_texts n ≡ Some (full_text pure_text (codes "h")) → ⊥
unfolding builtin_texts pure_text
not-builtin = no_place (full_text pure_text (codes "h")) builtin_texts (refl, (refl, (refl, (refl, (refl, (refl, tt))))))

not-built : (n : ℕ) → slice_get built_texts n ≡ Some (full_text pure_text (codes "h")) → ⊥
unfolding built_texts pure_text
not-built = no_place (full_text pure_text (codes "h")) built_texts (refl, (refl, (refl, (refl, (refl, (refl, tt))))))

-- Over the content alone the name means nothing: no theory but Pure is visible.
hidden : (place : ℕ) (theory : List ℕ) (m : Meaning) → IsVisible local_texts local_content facts place theory (codes "h") m → ⊥
hidden place theory (Declared n) (inl h) = not-builtin n (subst (λ (t : List ℕ). slice_get builtin_texts n ≡ Some (full_text t (codes "h"))) h.1 h.2.1)
hidden place theory (Built n) (inl h) = not-built n (subst (λ (t : List ℕ). slice_get built_texts n ≡ Some (full_text t (codes "h"))) h.1 h.2.1)
hidden place theory m (inr h) = absurd h.1

unknown : IsFoundFact local_texts local_content (codes "h") None
unknown m (inl (dot, h)) = no_dot (codes "h") refl dot
unknown m (inr (clean, h)) = hidden h.place h.theory m h.visible

-- In the lemma it means the promise.
lemma-text : HasText local_texts 6 (codes "V.k")
unfolding builtin_texts local_texts
lemma-text = refl

full-text : HasText local_texts 7 (full_text (codes "V.k") (codes "h"))
unfolding builtin_texts local_texts
full-text = refl

is_local : IsLocal local_texts local_content 6 (codes "h") 7 (record { theory = 0; command = 0; part = 0 }) premise
is_local = record { text = codes "V.k"; lemma_text = lemma-text; base = no_dot (codes "h") refl; full = full-text; promised = inl refl }

-- A variable is no definition.
variable-other : (T : Typ) (f a : Term) → Free 0 T ≡ App f a → ⊥
variable-other T f a e = cc

no-definition : IsNoDefinition premise
no-definition name typ body d = variable-other _ _ _ d.equates

pub local_example : LocalExample
local_example = (
  IsProofBy.failed begins (EndsBy.refused {step = Unfold (codes "h" ∷ [])} (ByFactsOf.known {facts = theorem premise (record { theory = 0; command = 0; part = 0 } ∷ []) ∷ []}
      (record { fact = PromisedFact 7 (record { theory = 0; command = 0; part = 0 }) premise; found = local is_local; is = refl }, tt)
      (UnfoldStep.refused refl (ComesByFacts.fails (TakesFact.no_definition no-definition))))),
  IsProofBy.failed begins (EndsBy.refused {step = Unfold (codes "h" ∷ [])} (ByFactsOf.unknown (inl unknown))),
)
