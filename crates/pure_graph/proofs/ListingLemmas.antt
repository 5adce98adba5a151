-- Which theories the listed names have, name by name.
use Rattle.std.proofs.Common.{◌≡◌, ℕ, ◌+◌, ◌<◌, ◌≤◌, Bool, true, false, cond, ◌||◌, ◌&&◌, List, [], ◌∷◌, ◌++◌, take, length, refl, sym, ◌∙◌, ap, subst, get_or}
use Rattle.std.specs.List.{list_any}
use Rattle.std.specs.List.Sorted.{IsStrictlySortedBy}
use Rattle.std.specs.Ordering.{nat_cmp, is_eq}
use Rattle.std.specs.Cmp.Lexicographic.{slice_cmp, same_text, texts_ties, nat_list_eq_equiv}
use Rattle.std.specs.BTreeSet.{BTreeSet, contains, Updates}
use Rattle.std.proofs.lemmas.List.{append_cancel_right, take_more, take_all}
use Rattle.std.proofs.Math.Bool.{and-false, or-false, or-true}
use Rattle.std.proofs.lemmas.List.Folds.{list_any-append}
use Rattle.pure_text.proofs.TextSets.{differs, list_any-same}
use Rattle.pure_grammar.specs.Theories.Lexeme.{same}
use Rattle.pure_lex.specs.Identifier.{is_identifier}
use Rattle.pure_graph.specs.Listing.{AreTheories, file_name}

pub no_stem : (name : List ℕ) → ((front : List ℕ) → name ≡ file_name front → ⊥) → (t : List ℕ) → same (file_name t) name ≡ false
no_stem name none t = differs (file_name t) name _ refl (λ e. none t (sym e))

pub other_stem : (name stem : List ℕ) → name ≡ file_name stem → is_identifier stem ≡ false → (t : List ℕ) → is_identifier t ≡ true → same (file_name t) name ≡ false
other_stem name stem name_is not_one t is_one = differs (file_name t) name _ refl (λ e.
    let t_is : t ≡ stem = append_cancel_right t stem _ (e ∙ name_is) in
    let clash : is_identifier t ≡ false = ap is_identifier t_is ∙ not_one in
    cc)

-- the set has the theories of these names
pub record HasTheories (found : BTreeSet (List ℕ)) (names : List (List ℕ)) : Type 0 where
  pub has : (t : List ℕ) → contains (slice_cmp nat_cmp) found t ≡ (is_identifier t && list_any (same (file_name t)) names)

pub HasTheories-none : (found : BTreeSet (List ℕ)) → found.keys ≡ [] → HasTheories found []
HasTheories-none found none = record { has = λ t. rw none (sym (and-false (is_identifier t))) }

passed_over : (b any one : Bool) → (b ≡ true → one ≡ false) → (b && any) ≡ (b && (any || one))
passed_over true any one h = rw (h refl) (sym (or-false any))
passed_over false any one h = refl

pub HasTheories-other : (found : BTreeSet (List ℕ)) (names : List (List ℕ)) (name : List ℕ) → HasTheories found names
    → ((t : List ℕ) → is_identifier t ≡ true → same (file_name t) name ≡ false) → HasTheories found (names ++ name ∷ [])
HasTheories-other found names name has none = record {
  has = λ t.
      has.has t ∙ passed_over (is_identifier t) (list_any (same (file_name t)) names) (same (file_name t) name) (none t)
      ∙ ap (λ b. is_identifier t && b) (sym (list_any-append (same (file_name t)) names (name ∷ []) ∙ ap (λ b. list_any (same (file_name t)) names || b) (or-false (same (file_name t) name))));
}

-- the theory t when one more name is that of the file of the theory u
one_more : (u t : List ℕ) (any has : Bool) → is_identifier u ≡ true → has ≡ (is_identifier t && any) → (x : Bool) → x ≡ same u t
    → cond x true has ≡ (is_identifier t && (any || same (file_name t) (file_name u)))
one_more u t any has is_one before true h =
    let u_is : u ≡ t = same_text u t h in
    let t_is_one : is_identifier t ≡ true = subst (λ w. is_identifier w ≡ true) u_is is_one in
    let alike : same (file_name t) (file_name u) ≡ true = ap (λ w. same (file_name t) (file_name w)) u_is ∙ nat_list_eq_equiv.refl (file_name t) in
    rw (t_is_one, alike) (sym (or-true any))
one_more u t any has is_one before false h =
    let apart : same (file_name t) (file_name u) ≡ false = differs (file_name t) (file_name u) _ refl (λ e. let same_theory : t ≡ u = append_cancel_right t u _ e in
    let yes_same : same u t ≡ true = ap (same u) same_theory ∙ nat_list_eq_equiv.refl u in cc) in
    rw (apart, or-false any) before

pub HasTheories-more : (old new : BTreeSet (List ℕ)) (names : List (List ℕ)) (name u key : List ℕ) → HasTheories old names → is_identifier u ≡ true → name ≡ file_name u
    → key ≡ u → Updates (slice_cmp nat_cmp) old new key true → HasTheories new (names ++ name ∷ [])
HasTheories-more old new names name u key has is_one name_is key_is updates = record {
  has = λ t.
      let at : is_eq (slice_cmp nat_cmp u t) ≡ same u t = sym (texts_ties u t) in
      updates.0 t ∙ ap (λ k. cond (is_eq (slice_cmp nat_cmp k t)) true (contains (slice_cmp nat_cmp) old t)) key_is ∙ one_more u t (list_any (same (file_name t)) names) (contains (slice_cmp nat_cmp) old t) is_one (has.has t) (is_eq (slice_cmp nat_cmp u t)) at
      ∙ ap (λ n. is_identifier t && (list_any (same (file_name t)) names || same (file_name t) n)) (sym name_is)
      ∙ ap (λ b. is_identifier t && b) (sym (list_any-append (same (file_name t)) names (name ∷ []) ∙ ap (λ b. list_any (same (file_name t)) names || b) (or-false (same (file_name t) name))));
}

pub AreTheories-from_set : (found : BTreeSet (List ℕ)) (names theories : List (List ℕ)) → HasTheories found names → IsStrictlySortedBy (slice_cmp nat_cmp) found.keys → theories ≡ found.keys → AreTheories names theories
AreTheories-from_set found names theories has sorted is = rw is (record {
  ascend = sorted;
  counted = λ t. list_any-same (same t) (λ k. is_eq (slice_cmp nat_cmp t k)) (λ k. texts_ties t k) found.keys ∙ has.has t;
})

pub HasTheories-step : (found : BTreeSet (List ℕ)) (names : List (List ℕ)) (i : ℕ) (name : List ℕ) → i < length names → name ≡ get_or names i name
    → HasTheories found (take i names ++ name ∷ []) → HasTheories found (take (i + 1) names)
HasTheories-step found names i name below is has =
    subst (HasTheories found) (ap (λ x. take i names ++ x ∷ []) is ∙ sym (take_more names i name below)) has

pub HasTheories-all : (found : BTreeSet (List ℕ)) (names : List (List ℕ)) (i : ℕ) → length names ≤ i → HasTheories found (take i names) → HasTheories found names
HasTheories-all found names i above has = subst (HasTheories found) (take_all i names above) has
