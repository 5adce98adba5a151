-- The theories of some listed names: each of finitely many, in order.
use Rattle.std.proofs.Common.{◌≡◌, ◌⊎◌, ◌↔◌, ◌∙◌, inl, inr, ℕ, Bool, true, false, ◌&&◌, List, [], ◌∷◌, ◌++◌, refl, sym, ap, subst, true≢false}
use Rattle.std.specs.Prelude.{codes}
use Rattle.std.specs.List.{list_any}
use Rattle.std.proofs.lemmas.List.{append_cancel_right}
use Rattle.pure_text.specs.Lists.{IsIn, AnyOf}
use Rattle.pure_text.proofs.ListLaws.{any_of, any_some}
use Rattle.pure_grammar.specs.Theories.Lexeme.{same}
use Rattle.pure_lex.specs.Identifier.{is_identifier}
use Rattle.pure_graph.specs.Listing.{AreTheories, file_name}
use Rattle.pure_graph.proofs.Ascending.{among-in, in-among}
use Rattle.pure_session.proofs.PlaceLemmas.{same_or_apart}
use Rattle.pure_loading_laws.proofs.NameLaws.{IsFinite, finite-none, finite-any, in-order}

text_or_other : (x t : List ℕ) → (x ≡ t) ⊎ ¬ (x ≡ t)
text_or_other x t = elim (same_or_apart x t) [ inl w ↦ inl w.1 | inr w ↦ inr w.1 ]

-- ---- the front of a text that ends so
abbrev HasFront : (end name : List ℕ) → Type 0
HasFront end name = (front : List ℕ) × (name ≡ front ++ end)

empty-front : (end front : List ℕ) → ¬ ([] ≡ end) → ¬ ([] ≡ front ++ end)
empty-front end [] never e = never e
empty-front end (c ∷ front) never e = absurd (cc e)

longer-front : (end name : List ℕ) (b : ℕ) (front : List ℕ) → ¬ (b ∷ name ≡ end) → ¬ HasFront end name → ¬ (b ∷ name ≡ front ++ end)
longer-front end name b [] never none e = never e
longer-front end name b (c ∷ front) never none e = none (front, cc e)

front_or_none : (end name : List ℕ) → HasFront end name ⊎ ¬ HasFront end name
front_or_none end [] = elim (text_or_other [] end) [ inl e ↦ inl ([], e) | inr never ↦ inr (λ w. empty-front end w.0 never w.1) ]
front_or_none end (b ∷ name) = by (text_or_other (b ∷ name) end) (front_or_none end name)
  where
    by : (b ∷ name ≡ end) ⊎ ¬ (b ∷ name ≡ end) → HasFront end name ⊎ ¬ HasFront end name → HasFront end (b ∷ name) ⊎ ¬ HasFront end (b ∷ name)
    by (inl e) d = inl ([], e)
    by (inr never) (inl w) = inl (b ∷ w.0, ap (λ xs. b ∷ xs) w.1)
    by (inr never) (inr none) = inr (λ w. longer-front end name b w.0 never none w.1)

-- ---- the theory of a name
abbrev IsTheoryOf : (name theory : List ℕ) → Type 0
IsTheoryOf name theory = (is_identifier theory ≡ true) × (name ≡ file_name theory)

of-name : (name : List ℕ) → IsFinite (IsTheoryOf name)
of-name name = by (front_or_none (codes ".thy") name)
  where
    named : (theory : List ℕ) → name ≡ file_name theory → (b : Bool) → is_identifier theory ≡ b → IsFinite (IsTheoryOf name)
    named theory is true e = record {
      texts = theory ∷ [];
      are = λ t. (
        λ m. elim m [ inl q ↦ subst (IsTheoryOf name) (sym q) (e, is) | inr n ↦ absurd n ],
        λ w. inl (append_cancel_right t theory _ (sym w.1 ∙ is)),
      );
    }
    named theory is false e = finite-none (IsTheoryOf name) (λ t w.
        let same_theory : t ≡ theory = append_cancel_right t theory _ (sym w.1 ∙ is) in
        true≢false (sym w.0 ∙ ap is_identifier same_theory ∙ e))

    by : HasFront (codes ".thy") name ⊎ ¬ HasFront (codes ".thy") name → IsFinite (IsTheoryOf name)
    by (inl w) = named w.0 w.1 (is_identifier w.0) refl
    by (inr none) = finite-none (IsTheoryOf name) (λ t w. none (t, w.1))

-- ---- all of them
alike : (a b : Bool) → (a ≡ true → b ≡ true) → (b ≡ true → a ≡ true) → a ≡ b
alike true b there back = sym (there refl)
alike false true there back = back refl
alike false false there back = refl

both : (a b : Bool) → a ≡ true → b ≡ true → (a && b) ≡ true
both true b e f = f
both false b e f = e

parts : (a b : Bool) → (a && b) ≡ true → (a ≡ true) × (b ≡ true)
parts true b e = (refl, e)
parts false b e = absurd (true≢false (sym e))

pub listing-there : (names : List (List ℕ)) → (theories : List (List ℕ)) × AreTheories names theories
listing-there names =
    let found = in-order (λ t. AnyOf (λ name. IsTheoryOf name t) names) (finite-any IsTheoryOf of-name names) in
    (found.0, record { ascend = found.1; counted = λ t. alike (list_any (same t) found.0) (is_identifier t && list_any (same (file_name t)) names) (there found.0 found.2 t) (back found.0 found.2 t) })
  where
    Tells : List (List ℕ) → Type 0
    Tells theories = (t : List ℕ) → IsIn t theories ↔ AnyOf (λ name. IsTheoryOf name t) names

    there : (theories : List (List ℕ)) → Tells theories → (t : List ℕ) → list_any (same t) theories ≡ true → (is_identifier t && list_any (same (file_name t)) names) ≡ true
    there theories tells t h =
        let some = any_some (λ name. IsTheoryOf name t) names ((tells t).0 (in-among t theories h)) in
        both (is_identifier t) (list_any (same (file_name t)) names) some.2.0 (among-in (file_name t) names (subst (λ k. IsIn k names) some.2.1 some.1))

    back : (theories : List (List ℕ)) → Tells theories → (t : List ℕ) → (is_identifier t && list_any (same (file_name t)) names) ≡ true → list_any (same t) theories ≡ true
    back theories tells t h =
        let w = parts (is_identifier t) (list_any (same (file_name t)) names) h in
        among-in t theories ((tells t).1 (any_of (λ name. IsTheoryOf name t) (file_name t) names (in-among (file_name t) names w.1) (w.0, refl)))
