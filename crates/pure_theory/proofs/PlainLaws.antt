-- Theories whose texts look-ups tell from others.
use Rattle.std.proofs.Common.{◌≡◌, ◌≢◌, ◌↔◌, ℕ, ◌+◌, ◌<◌, List, ◌∷◌, length, get_or, take, drop, Bool, IsTrue, inl, inr, refl, sym, subst, ◌∙◌}
use Rattle.std.proofs.lemmas.Option.{same_Some, none-some}
use Rattle.std.specs.Prelude.{Option, Some, None, codes, slice_get}
use Rattle.pure_text.specs.Lists.{IsIn, Each}
use Rattle.pure_text.proofs.ListLaws.{in-append_right, each_at, each_of}
use Rattle.pure_typ.specs.NameTexts.{AreSessionTexts, HasText, name_texts}
use Rattle.pure_logic.specs.Content.{TheoryId, Content}
use Rattle.pure_logic.specs.Beginning.{HasTheoriesApart}
use Rattle.pure_logic.proofs.AncestorLaws.{in-theories, theories-in}
use Rattle.pure_lookup.specs.Meaning.{pure_text}
use Rattle.pure_lookup.specs.Laws.{IsInSession}
use Rattle.pure_lookup.proofs.PlaceLemmas.{dot-split}
use Rattle.pure_theory.specs.Plain.{IsPlain, IsPlainlyNamed}

-- A dot at a place of the text.
pub dot_here : (text : List ℕ) (i : ℕ) → i < length text → get_or text i 0 ≡ 46 → IsIn 46 text
dot_here text i short e = subst (λ (w : List ℕ). IsIn 46 w) (sym (dot-split text i short e)) (in-append_right 46 (take i text) (46 ∷ drop (i + 1) text) (inl refl))

-- The text of Pure, and another.
pub is_pure : (text : List ℕ) → text ≡ codes "Pure" → text ≡ pure_text
unfolding pure_text
is_pure text e = e

pub not_pure : (text : List ℕ) → ¬ (text ≡ codes "Pure") → text ≢ pure_text
unfolding pure_text
not_pure text other = other

-- A name without a text, and one with a text.
pub unnamed : (texts : List (List ℕ)) (t : TheoryId) → slice_get (name_texts texts) t.name ≡ None → IsPlainlyNamed texts t
unnamed texts t none text has = absurd (none-some text (sym none ∙ has))

pub named : (texts : List (List ℕ)) (t : TheoryId) (text : List ℕ) (b : Bool) → HasText texts t.name text → (IsTrue b ↔ IsPlain text) → IsTrue b ↔ IsPlainlyNamed texts t
named texts t text b has h = (
  λ k other given. (let same = same_Some text other (sym has ∙ given) in rw (← same) (h.0 k)),
  λ k. h.1 (k text has),
)

-- A theory that may be none.
pub if_some : (texts : List (List ℕ)) (o : Option TheoryId) (own : TheoryId) (b : Bool) → o ≡ Some own → (IsTrue b ↔ IsPlainlyNamed texts own) → IsTrue b ↔ ((t : TheoryId) → o ≡ Some t → IsPlainlyNamed texts t)
if_some texts o own b is h = (λ k t e. subst (IsPlainlyNamed texts) (same_Some own t (sym is ∙ e)) (h.0 k), λ k. h.1 (k own is))

-- What look-ups ask is that all are plain, where names have their texts and the theories are told apart.
pub in_session : (texts : List (List ℕ)) (Q : Content) → AreSessionTexts texts → HasTheoriesApart Q → ((t : TheoryId) → Q.own ≡ Some t → IsPlainlyNamed texts t) → Each (IsPlainlyNamed texts) Q.ancestors → IsInSession texts Q
in_session texts Q names apart own ancestors = record {
  names = names;
  apart = apart;
  theories = λ t text m has. elim (in-theories t Q m) [
    | inl e ↦ own t e text has
    | inr a ↦ each_at (IsPlainlyNamed texts) Q.ancestors ancestors t a text has
  ];
}

pub own_plain : (texts : List (List ℕ)) (Q : Content) → IsInSession texts Q → (t : TheoryId) → Q.own ≡ Some t → IsPlainlyNamed texts t
own_plain texts Q s t own text has = s.theories t text (theories-in t Q (inl own)) has

pub ancestors_plain : (texts : List (List ℕ)) (Q : Content) → IsInSession texts Q → Each (IsPlainlyNamed texts) Q.ancestors
ancestors_plain texts Q s = each_of (IsPlainlyNamed texts) Q.ancestors (λ t m text has. s.theories t text (theories-in t Q (inr m)) has)
