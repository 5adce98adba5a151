-- The names of theories, united.
use Rattle.std.proofs.Common.{◌≡◌, ◌⊎◌, ◌↔◌, inl, inr, ℕ, List, [], ◌++◌, map, ◌∙◌, ap, Result, Ok, Err, IfOk}
use Rattle.std.specs.List.Sorted.{IsStrictlySortedBy}
use Rattle.std.proofs.lemmas.List.{map-append}
use Rattle.pure_text.specs.Lists.{IsIn, AnyOf}
use Rattle.pure_text.proofs.ListLaws.{any_split, any-append_left, any-append_right}
use Rattle.pure_text.proofs.AscendingTexts.{byte_order}
use Rattle.pure_graph.specs.Order.{Loaded}
use Rattle.pure_graph.specs.SessionNames.{IsGiven, AreNames}
use Rattle.pure_session.specs.NameSets.{Gains}
use Rattle.pure_session.proofs.SetLemmas.{gains-all}

-- ---- parts of a list, seen
pub parts-mapped : {A B : Type 0} (f : A → B) (xs front back : List A) → xs ≡ front ++ back → map f xs ≡ map f front ++ map f back
parts-mapped f xs front back parts = ap (map f) parts ∙ map-append f front back

-- ---- names
pub names-ascend : {E : Type 0} (found : Result (List (List ℕ)) E) (theories : List Loaded) → IfOk found (AreNames theories) → IfOk found (IsStrictlySortedBy byte_order)
names-ascend (Ok texts) theories names = names.ascend
names-ascend (Err error) theories names = tt

-- The texts that theories give, in order, are their names.
pub names-given : (theories : List Loaded) (old new texts : List (List ℕ)) → old ≡ [] → Gains old new (λ t. AnyOf (λ l. IsGiven l t) theories) → ((t : List ℕ) → IsIn t texts ↔ IsIn t new) → IsStrictlySortedBy byte_order texts
    → AreNames theories texts
names-given theories old new texts empty gains same ascend = record {
  ascend = ascend;
  given = λ t. let all = gains-all old new (λ t. AnyOf (λ l. IsGiven l t) theories) empty gains t in (λ m. all.0 ((same t).0 m), λ a. (same t).1 (all.1 a));
}

-- The union of the names of the first theories and of those of the others has the names of all.
pub names-united : (all left right : List Loaded) (texts first second : List (List ℕ)) → all ≡ left ++ right → AreNames left first → AreNames right second → IsStrictlySortedBy byte_order texts
    → ((t : List ℕ) → IsIn t texts ↔ (IsIn t first ⊎ IsIn t second)) → AreNames all texts
names-united all left right texts first second parts a b ascend members = rw parts (record { ascend = ascend; given = given })
  where
    given : (t : List ℕ) → IsIn t texts ↔ AnyOf (λ l. IsGiven l t) (left ++ right)
    given t = (
      λ m. elim ((members t).0 m) [ inl f ↦ any-append_left (λ l. IsGiven l t) left right ((a.given t).0 f) | inr s ↦ any-append_right (λ l. IsGiven l t) left right ((b.given t).0 s) ],
      λ g. (members t).1 (elim (any_split (λ l. IsGiven l t) left right g) [ inl f ↦ inl ((a.given t).1 f) | inr s ↦ inr ((b.given t).1 s) ]),
    )
