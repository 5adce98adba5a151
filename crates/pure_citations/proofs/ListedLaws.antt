-- What is said of the lemma with some name.
use Rattle.std.proofs.Common.{◌≡◌, ◌↔◌, ◌∙◌, ◌+◌, ◌<◌, ℕ, List, [], ◌∷◌, ◌++◌, length, drop, get_or, add-one, drop-cons, inl, inr, refl, sym, ap, subst, true, false}
use Rattle.std.specs.Prelude.{Some, None, Result, Ok, Err, IfOk}
use Rattle.pure_text.specs.Lists.{IsIn}
use Rattle.pure_typ.specs.NameTexts.{AreSessionTexts, HasText}
use Rattle.pure_lookup.proofs.TextLemmas.{one_name}
use Rattle.pure_order_tables.specs.Rows.{Holds}
use Rattle.pure_order_tables.proofs.RowLaws.{none_held}
use Rattle.pure_print.specs.declared.row.Row.{Row}
use Rattle.pure_table.specs.Declare.Notes.{Fork}
use Rattle.pure_table.specs.Promise.Entries.{LemmaEntry}
use Rattle.pure_citations.specs.Cites.{Cites}
use Rattle.pure_citations.specs.Cited.{AreCitedBy}
use Rattle.pure_citations.specs.Faults.{AreFaultsOf}
use Rattle.pure_print.specs.RowText.{row_text}
use Rattle.pure_citations.specs.Heads.{Heads, Picks, IsTextOf}
use Rattle.pure_citations.specs.Listed.{is_own, own_row, IsCitedFor, IsFaultFor, HasNumber, IsDeclaredRow, IsFailedRow, IsListed}

-- what is left of a list from a place on begins with what stands there
cut-at : (xs : List Row) (i : ℕ) (x : Row) → i < length xs → x ≡ get_or xs i x → drop i xs ≡ x ∷ drop (i + 1) xs
cut-at xs i x within at =
    let cut : drop i xs ≡ get_or xs i x ∷ drop (i + 1) xs = rw add-one (drop-cons xs i x within) in
    cut ∙ ap (λ y. y ∷ drop (i + 1) xs) (sym at)

pub own-here : (name : List ℕ) (rows : List Row) (i : ℕ) (r : Row) → i < length rows → r ≡ get_or rows i r → is_own name r ≡ true → own_row name (drop i rows) ≡ own_row name rows → own_row name rows ≡ Some r
own-here name rows i r within at is so_far =
    let here : own_row name (r ∷ drop (i + 1) rows) ≡ Some r = rw is refl in
    sym so_far ∙ (ap (own_row name) (cut-at rows i r within at) ∙ here)

pub own-behind : (name : List ℕ) (rows : List Row) (i : ℕ) (r : Row) → i < length rows → r ≡ get_or rows i r → is_own name r ≡ false → own_row name (drop i rows) ≡ own_row name rows → own_row name (drop (i + 1) rows) ≡ own_row name rows
own-behind name rows i r within at other so_far =
    let here : own_row name (r ∷ drop (i + 1) rows) ≡ own_row name (drop (i + 1) rows) = rw other refl in
    sym here ∙ (ap (own_row name) (sym (cut-at rows i r within at)) ∙ so_far)

module _ (texts : List (List ℕ)) (session : AreSessionTexts texts) (name : List ℕ) where
  -- A set by the name's number is one by its text.
  pub cited-named : (fs : List Fork) (es : List LemmaEntry) (number : ℕ) → HasText texts number name → (row : List ℕ) → AreCitedBy texts fs es number row → (n : ℕ) → Holds row n ↔ IsCitedFor texts fs es name n
  cited-named fs es number found row are n = (
    λ h. let w = (are n).0 h in (w.0, w.1, subst (λ k. HasText texts k name) (sym w.2) found, w.3),
    λ w. (are n).1 (w.0, w.1, one_name texts session name w.0.name number w.2 found, w.3),
  )

  pub cited-unnamed : (fs : List Fork) (es : List LemmaEntry) → ((k : ℕ) → HasText texts k name → ⊥) → (n : ℕ) → Holds [] n ↔ IsCitedFor texts fs es name n
  cited-unnamed fs es none n = (λ h. absurd (none_held 0 n h), λ w. absurd (none w.0.name w.2))

  pub faults-named : (es : List LemmaEntry) (number : ℕ) → HasText texts number name → (row : List ℕ) → AreFaultsOf es number row → (n : ℕ) → Holds row n ↔ IsFaultFor texts es name n
  faults-named es number found row are n = (
    λ h. let w = (are n).0 h in (w.0, w.1, w.2, subst (λ k. HasText texts k name) (sym w.3) found, w.4, w.5, w.6, w.7),
    λ w. (are n).1 (w.0, w.1, w.2, one_name texts session name w.0.name number w.3 found, w.4, w.5, w.6, w.7),
  )

  pub faults-unnamed : (es : List LemmaEntry) → ((k : ℕ) → HasText texts k name → ⊥) → (n : ℕ) → Holds [] n ↔ IsFaultFor texts es name n
  faults-unnamed es none n = (λ h. absurd (none_held 0 n h), λ w. absurd (none w.0.name w.3))

-- What an answer has, where what it has says more.
pub if-weaker : {X E : Type 0} (r : Result X E) (P Q : X → Type 0) → ((x : X) → P x → Q x) → IfOk r P → IfOk r Q
if-weaker (Ok x) P Q f h = f x h
if-weaker (Err e) P Q f h = tt

-- The same rows are picked by properties that say the same.
pub picks-same : {A : Type 0} (P Q : A → Type 0) → ((x : A) → P x ↔ Q x) → (xs picked : List A) → Picks P xs picked → Picks Q xs picked
picks-same P Q same [] [] Picks.none = Picks.none
picks-same P Q same [] (y ∷ picked) h = elim h [ ]
picks-same P Q same (y ∷ xs) (y' ∷ picked) (Picks.takes p h) = Picks.takes ((same y).0 p) (picks-same P Q same xs picked h)
picks-same P Q same (y ∷ xs) picked (Picks.leaves p h) = Picks.leaves (λ q. p ((same y).1 q)) (picks-same P Q same xs picked h)

module _ (texts : List (List ℕ)) (P Q : ℕ → Type 0) (same : (n : ℕ) → P n ↔ Q n) where
  pub number-same : (text : List ℕ) → HasNumber texts P text ↔ HasNumber texts Q text
  number-same text = (λ w. (w.0, w.1, (same w.0).0 w.2), λ w. (w.0, w.1, (same w.0).1 w.2))

-- So are rows that are listed by sets that hold the same.
pub listed-same : (texts : List (List ℕ)) (C D F G : ℕ → Type 0) → ((n : ℕ) → C n ↔ D n) → ((n : ℕ) → F n ↔ G n) → (name : List ℕ) (rows : List Row) (text : List ℕ)
    → IsTextOf row_text (IsListed texts C F name) rows text → IsTextOf row_text (IsListed texts D G name) rows text
listed-same texts C D F G cited faults name rows text h = record { picked = h.picked; picks = picks-same (IsListed texts C F name) (IsListed texts D G name) each rows h.picked h.picks; text_is = h.text_is }
  where
    each : (r : Row) → IsListed texts C F name r ↔ IsListed texts D G name r
    each r = (
      λ w. elim w [
        | inl d ↦ inl (d.0, d.1, d.2, (number-same texts C D cited d.1).0 d.3)
        | inr f ↦ inr (f.0, f.1, (number-same texts F G faults r.head).0 f.2)
      ],
      λ w. elim w [
        | inl d ↦ inl (d.0, d.1, d.2, (number-same texts C D cited d.1).1 d.3)
        | inr f ↦ inr (f.0, f.1, (number-same texts F G faults r.head).1 f.2)
      ],
    )
