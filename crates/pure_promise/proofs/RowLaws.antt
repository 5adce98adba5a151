-- Rows of lemmas, one after the other.
use Rattle.std.proofs.Common.{◌≡◌, ℕ, zero, suc, ◌+◌, ◌<◌, ◌≤◌, List, [], ◌∷◌, ◌++◌, refl, sym, ap, subst, map, length, take, get_or, arith}
use Rattle.std.proofs.lemmas.List.{take_all}
use Rattle.pure_text.specs.Lists.{EachTwo}
use Rattle.pure_text.proofs.ListLaws.{two-append}
use Rattle.pure_text.proofs.LoopLaws.{longer_by}
use Rattle.pure_promise_fates.specs.Entries.{Fate, IsFate}
use Rattle.pure_promise_fates.specs.Reach.{IsAt}
use Rattle.pure_promise_fates.proofs.PlaceLaws.{at-map, at-within, at-once, at-read}
use Rattle.pure_promise_fates.proofs.CodeLaws.{seen-length}
use Rattle.pure_promise_fates.specs.Entries as fates
use Rattle.pure_print.specs.declared.row.Row.{Row}
use Rattle.pure_print.specs.declared.row.RowStatus.{RowStatus}
use Rattle.pure_promise.specs.Lemmas.{IsRowSuchThat}
use Rattle.pure_promise.specs.declared.entry.Entry.{Entry}
use Rattle.pure_promise.specs.Entries.{plain}
use Rattle.pure_promise.specs.Seen.{seen, seen_entry, reported}
use Rattle.pure_promise.specs.RowText.{fate_row, status_of}
use Rattle.pure_promise.specs.Rows.{IsRowOf, AreRowsOf}

-- entries as fates see them
pub reported-plain : (es : List Entry) → map plain (seen es) ≡ map reported es
reported-plain [] = refl
reported-plain (e ∷ es) = ap (λ ds. reported e ∷ ds) (reported-plain es)

-- something stands at each place
pub at_place : {A : Type 0} (xs : List A) (p : ℕ) → p < length xs → (x : A) × IsAt xs p x
at_place [] p h = absurd (omega arith)
at_place (x ∷ xs) zero h = (x, refl)
at_place (x ∷ xs) (suc p) h = at_place xs p (omega arith)

at-get : {A : Type 0} (xs : List A) (p : ℕ) (x : A) → IsAt xs p x → x ≡ get_or xs p x
at-get [] p x at = refl
at-get (y ∷ ys) zero x at = sym at
at-get (y ∷ ys) (suc p) x at = at-get ys p x at

-- the row of the lemma that is read at a place
pub row_there : (texts : List (List ℕ)) (es : List Entry) (p : ℕ) (r : Entry) (fate : Fate) (row : Row) → p < length es → r ≡ get_or es p r → IsFate (map reported es) r.label fate → row ≡ fate_row texts (seen es) (seen_entry r) fate
    → (e : Entry) → IsAt es p e → IsRowOf texts (seen es) (seen_entry e) row
row_there texts es p r fate row within is fated shown e at =
    let same : r ≡ e = at-once es p r e (subst (IsAt es p) (sym is) (at-read es p r within)) at in
    subst (λ (x : Entry). IsRowOf texts (seen es) (seen_entry x) row) same (fate, subst (λ ds. IsFate ds r.label fate) (sym (reported-plain es)) fated, shown)

-- the status of the row of the lemma at a place
pub status_there : (texts : List (List ℕ)) (es : List Entry) (p : ℕ) (fate : Fate) (status : RowStatus) → ((e : fates.Entry) → IsAt (map reported es) p e → IsFate (map reported es) e.label fate) → status ≡ status_of fate
    → (e : Entry) → IsAt es p e → IsRowSuchThat texts (seen es) (seen_entry e) (λ row. row.status ≡ status)
status_there texts es p fate status fated is e at =
    (fate_row texts (seen es) (seen_entry e) fate, (fate, subst (λ ds. IsFate ds e.label fate) (sym (reported-plain es)) (fated (reported e) (at-map reported es p e at)), refl), sym is)

-- what is done with the row of the lemma that is read at a place
pub put_there : (texts : List (List ℕ)) (es : List Entry) (p : ℕ) (r : Entry) (fate : Fate) (Taken : Row → Type 0) → p < length es → r ≡ get_or es p r → IsFate (map reported es) r.label fate → Taken (fate_row texts (seen es) (seen_entry r) fate)
    → (e : Entry) → IsAt es p e → IsRowSuchThat texts (seen es) (seen_entry e) Taken
put_there texts es p r fate Taken within is fated taken e at =
    (fate_row texts (seen es) (seen_entry r) fate, row_there texts es p r fate (fate_row texts (seen es) (seen_entry r) fate) within is fated refl e at, taken)

-- one row more
pub next_row : (texts : List (List ℕ)) (es : List Entry) (p : ℕ) (rows more : List Row) (row : Row) → p < length es → EachTwo (IsRowOf texts (seen es)) (take p (seen es)) rows
    → ((e : Entry) → IsAt es p e → IsRowOf texts (seen es) (seen_entry e) row) → more ≡ rows ++ row ∷ [] → EachTwo (IsRowOf texts (seen es)) (take (p + 1) (seen es)) more
next_row texts es p rows more row within so_far is longer =
    let found = at_place es p within in
    let at = at-map seen_entry es p found.0 found.1 in
    rw (longer_by (seen es) p (seen_entry found.0) (at-within (seen es) p (seen_entry found.0) at) (at-get (seen es) p (seen_entry found.0) at), longer)
    (two-append (IsRowOf texts (seen es)) (take p (seen es)) (seen_entry found.0 ∷ []) rows (row ∷ []) so_far (is found.0 found.1, tt))

pub all_rows : (texts : List (List ℕ)) (es : List Entry) (p : ℕ) (rows : List Row) → length es ≤ p → EachTwo (IsRowOf texts (seen es)) (take p (seen es)) rows → AreRowsOf texts (seen es) rows
all_rows texts es p rows full so_far = subst (λ ds. EachTwo (IsRowOf texts (seen es)) ds rows) (take_all p (seen es) (rw (seen-length seen_entry es) full)) so_far
