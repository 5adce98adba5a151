-- The names of promises, and one name more.
use Rattle.std.proofs.Common.{◌≡◌, ◌⊎◌, ℕ, List, [], ◌∷◌, ◌++◌, refl, ap, sym, ◌∙◌, inl, inr}
use Rattle.std.proofs.lemmas.Option.{none-some}
use Rattle.std.specs.Prelude.{Some, None}
use Rattle.std.specs.Ordering.{nat_cmp}
use Rattle.std.specs.FinMap.{FinMap, get, insert}
use Rattle.pure_text.specs.Lists.{IsIn}
use Rattle.pure_text.proofs.ListLaws.{in-append_left, in-append_right}
use Rattle.pure_definitions.specs.Names.{Label}
use Rattle.pure_theory_tables.specs.Keys.{label_key}
use Rattle.pure_theory_tables.proofs.MapLaws.{get_here, get_beside}

-- The name stands under the label's number in the map, or is in the list.
abbrev pub IsThere : FinMap nat_cmp ℕ → List ℕ → ℕ → Label → Type 0
IsThere m r x l = (get m (label_key l) ≡ Some x) ⊎ IsIn x r

pub kept_same : (m n : FinMap nat_cmp ℕ) (r s : List ℕ) → n ≡ m → s ≡ r → (x : ℕ) (l : Label) → IsThere m r x l → IsThere n s x l
kept_same m n r s p q x l h = elim h [ inl e ↦ inl (ap (λ (t : FinMap nat_cmp ℕ). get t (label_key l)) p ∙ e) | inr i ↦ inr (rw q i) ]

pub kept_put : (m n : FinMap nat_cmp ℕ) (r s : List ℕ) (key y : ℕ) → get m key ≡ None → n ≡ insert m key y → s ≡ r → (x : ℕ) (l : Label) → IsThere m r x l → IsThere n s x l
kept_put m n r s key y none p q x l h = elim h [
  | inl e ↦ inl (ap (λ (t : FinMap nat_cmp ℕ). get t (label_key l)) p ∙ get_beside m key y (label_key l) (λ same. none-some x (sym none ∙ ap (get m) (sym same) ∙ e)) ∙ e)
  | inr i ↦ inr (rw q i)
]

pub new_put : (m n : FinMap nat_cmp ℕ) (s : List ℕ) (key y x : ℕ) (l : Label) → key ≡ label_key l → y ≡ x → n ≡ insert m key y → IsThere n s x l
new_put m n s key y x l keyed is p = inl (ap (λ (t : FinMap nat_cmp ℕ). get t (label_key l)) p ∙ ap (get (insert m key y)) (sym keyed) ∙ get_here m key y ∙ ap Some is)

pub kept_crowded : (m n : FinMap nat_cmp ℕ) (r s : List ℕ) (y : ℕ) → n ≡ m → s ≡ r ++ y ∷ [] → (x : ℕ) (l : Label) → IsThere m r x l → IsThere n s x l
kept_crowded m n r s y p q x l h = elim h [ inl e ↦ inl (ap (λ (t : FinMap nat_cmp ℕ). get t (label_key l)) p ∙ e) | inr i ↦ inr (rw q (in-append_left x r (y ∷ []) i)) ]

pub new_crowded : (n : FinMap nat_cmp ℕ) (r s : List ℕ) (x : ℕ) (l : Label) → s ≡ r ++ x ∷ [] → IsThere n s x l
new_crowded n r s x l q = inr (rw q (in-append_right x r (x ∷ []) (inl refl)))
