-- Rows of lemmas in their places, one place after the other.
use Rattle.std.proofs.Common.{◌≡◌, ◌++◌, [], ◌∷◌, List, Option, Some, None, take, drop, length, ℕ, zero, suc, ◌+◌, ◌<◌, ◌≤◌, inl, inr, refl, sym, ◌∙◌, ap, subst, map, append-nil, append_assoc, get_or, take_all, arith}
use Rattle.std.proofs.lemmas.List.{drop_all, map-append}
use Rattle.std.proofs.lemmas.Grind.{flat_map-append}
use Rattle.std.specs.List.{flat_map}
use Rattle.std.specs.declared.alloc.Global.{Global}
use Rattle.std.specs.declared.sync.Arc.{Arc}
use Rattle.pure_text.specs.Lists.{IsIn, EachTwo}
use Rattle.pure_text.proofs.ListLaws.{in-map, two_long}
use Rattle.pure_text.proofs.LoopLaws.{longer_by}
use Rattle.pure_promise_fates.specs.Entries.{AreEntries}
use Rattle.pure_promise_fates.specs.Reach.{IsAt}
use Rattle.pure_promise_fates.proofs.CodeLaws.{seen-length}
use Rattle.pure_promise_fates.proofs.FateLaws.{one_fate}
use Rattle.pure_promise_fates.proofs.PlaceLaws.{at-map}
use Rattle.pure_promise_fates.proofs.ThereLaws.{some_fate}
use Rattle.pure_print.specs.declared.row.Row.{Row}
use Rattle.pure_promise.specs.declared.entry.Entry.{Entry}
use Rattle.pure_promise.specs.Entries.{LemmaEntry, plain}
use Rattle.pure_promise.specs.Seen.{seen, seen_entry, reported}
use Rattle.pure_promise.specs.RowText.{fate_row}
use Rattle.pure_promise.specs.Rows.{IsRowOf, AreRowsOf}
use Rattle.pure_promise.proofs.RowLaws.{at_place, reported-plain}
use Rattle.pure_theory_run.specs.Outline.{Outline, outlines}
use Rattle.pure_table.specs.Filling.{places_of, filled, Fills}

abbrev Taken : Type 1
Taken = List Row → Type 0

-- no place
pub fills-none : (now : Taken) (lemmas : List Row) → Fills now now [] lemmas lemmas
fills-none now lemmas rows held = (rows, held, λ more. refl)

-- some places, and then others
pub fills-more : (old now new : Taken) (places others : List (Option Row)) (lemmas after left : List Row) → Fills old now places lemmas after → Fills now new others after left → Fills old new (places ++ others) lemmas left
fills-more old now new places others lemmas after left one two rows held =
    let first = one rows held in
    let second = two first.0 first.1 in
    (second.0, second.1, λ more. second.2 more ∙ first.2 (others ++ more) ∙ ap (λ ps. rows ++ filled ps lemmas) (sym (append_assoc places others more)))

-- a place with its row
pub fills-row : (old new : Taken) (row : Row) (lemmas : List Row) → ((rows : List Row) → old rows → new (rows ++ row ∷ [])) → Fills old new (Some row ∷ []) lemmas lemmas
fills-row old new row lemmas takes rows held = (rows ++ row ∷ [], takes rows held, λ more. append_assoc rows (row ∷ []) (filled more lemmas))

-- an open place, and no lemma's row is left
pub fills-nothing : (now : Taken) (lemmas : List Row) → lemmas ≡ [] → Fills now now (None ∷ []) lemmas lemmas
fills-nothing now lemmas none rows held = (rows, held, λ more. subst (λ ls. rows ++ filled more ls ≡ rows ++ filled (None ∷ more) ls) (sym none) refl)

-- an open place, and the row of the next lemma
pub fills-open : (old new : Taken) (row : Row) (lemmas left : List Row) → lemmas ≡ row ∷ left → ((rows : List Row) → old rows → new (rows ++ row ∷ [])) → Fills old new (None ∷ []) lemmas left
fills-open old new row lemmas left is takes rows held = (rows ++ row ∷ [], takes rows held, λ more. append_assoc rows (row ∷ []) (filled more left) ∙ ap (λ ls. rows ++ filled (None ∷ more) ls) (sym is))

-- A lemma has one row.
pub one_row : (texts : List (List ℕ)) (es : List LemmaEntry) → AreEntries (map plain es) → (e : LemmaEntry) (row other : Row) → IsRowOf texts es e row → IsRowOf texts es e other → row ≡ other
one_row texts es entries e row other is too = is.2 ∙ ap (fate_row texts es e) (one_fate (map plain es) entries e.label is.0 too.0 is.1 too.1) ∙ sym too.2

-- A list beside another, each two related.
pub beside : {A B : Type 0} (R : A → B → Type 0) (xs : List A) → ((x : A) → IsIn x xs → (y : B) × R x y) → (ys : List B) × EachTwo R xs ys
beside R [] f = ([], tt)
beside R (x ∷ xs) f = (let one = f x (inl refl) in let rest = beside R xs (λ y m. f y (inr m)) in (one.0 ∷ rest.0, (one.1, rest.1)))

-- The lemmas have rows.
pub rows_there : (texts : List (List ℕ)) (es : List LemmaEntry) → AreEntries (map plain es) → (rows : List Row) × AreRowsOf texts es rows
rows_there texts es ordered = beside (IsRowOf texts es) es (λ e m.
    let w = some_fate (map plain es) ordered (plain e) (in-map plain e es m) in
    (fate_row texts es e w.0, (w.0, w.1, refl)))

-- the row at a place, and those behind it
next_of : {A : Type 0} (R : A → Row → Type 0) (es : List A) (rows : List Row) (p : ℕ) (e : A) → EachTwo R es rows → IsAt es p e → (row : Row) × (drop p rows ≡ row ∷ drop (suc p) rows) × R e row
next_of R [] rows p e two at = absurd at
next_of R (d ∷ es) [] p e two at = absurd two
next_of R (d ∷ es) (row ∷ rows) zero e two at = (row, refl, subst (λ x. R x row) at two.0)
next_of R (d ∷ es) (row ∷ rows) (suc p) e two at = next_of R es rows p e two.1 at

module _ (texts : List (List ℕ)) (es : List Entry) (rows : List Row) (are : AreRowsOf texts (seen es) rows) where
  -- an open place for which no lemma is left
  pub no_lemma : (now : Taken) (p : ℕ) → length es ≤ p → Fills now now (None ∷ []) (drop p rows) (drop p rows)
  no_lemma now p full = fills-nothing now (drop p rows) (drop_all p rows (rw (← two_long (IsRowOf texts (seen es)) (seen es) rows are, seen-length seen_entry es) full))

  -- an open place, and what was taken for the lemma at the next place
  pub next_lemma : AreEntries (map reported es) → (old new : Taken) (p : ℕ) → p < length es
      → ((e : Entry) → IsAt es p e → (row : Row) × IsRowOf texts (seen es) (seen_entry e) row × ((taken : List Row) → old taken → new (taken ++ row ∷ [])))
      → Fills old new (None ∷ []) (drop p rows) (drop (p + 1) rows)
  next_lemma entries old new p within takes =
      let found = at_place es p within in
      let took = takes found.0 found.1 in
      let next = next_of (IsRowOf texts (seen es)) (seen es) rows p (seen_entry found.0) are (at-map seen_entry es p found.0 found.1) in
      let same : took.0 ≡ next.0 = one_row texts (seen es) (subst AreEntries (sym (reported-plain es)) entries) (seen_entry found.0) took.0 next.0 took.1 next.2 in
      let behind : suc p ≡ p + 1 = omega arith in
      fills-open old new next.0 (drop p rows) (drop (p + 1) rows) (subst (λ n. drop p rows ≡ next.0 ∷ drop n rows) behind next.1) (subst (λ (r : Row). (taken : List Row) → old taken → new (taken ++ r ∷ [])) same took.2)

-- one place more of a theory's
pub fills-place : (old now new : Taken) (places : List (Option Row)) (i : ℕ) (place : Option Row) → i < length places → place ≡ get_or places i place → (lemmas after left : List Row)
    → Fills old now (take i places) lemmas after → Fills now new (place ∷ []) after left → Fills old new (take (i + 1) places) lemmas left
fills-place old now new places i place within is lemmas after left one two =
    subst (λ ps. Fills old new ps lemmas left) (sym (longer_by places i place within is)) (fills-more old now new (take i places) (place ∷ []) lemmas after left one two)

-- one theory more
pub fills-theory : (old now new : Taken) (closed : List (Arc Outline Global)) (i : ℕ) (theory : Arc Outline Global) → i < length closed → theory ≡ get_or closed i theory → (lemmas after left : List Row)
    → Fills old now (flat_map places_of (outlines (take i closed))) lemmas after → Fills now new (places_of theory.value) after left → Fills old new (flat_map places_of (outlines (take (i + 1) closed))) lemmas left
fills-theory old now new closed i theory within is lemmas after left one two =
    let more : flat_map places_of (outlines (take (i + 1) closed)) ≡ flat_map places_of (outlines (take i closed)) ++ places_of theory.value =
    ap (λ os. flat_map places_of (outlines os)) (longer_by closed i theory within is)
    ∙ ap (flat_map places_of) (map-append (λ (p : Arc Outline Global). p.value) (take i closed) (theory ∷ []))
    ∙ flat_map-append places_of (outlines (take i closed)) (theory.value ∷ [])
    ∙ ap (λ ps. flat_map places_of (outlines (take i closed)) ++ ps) (append-nil (places_of theory.value)) in
    subst (λ ps. Fills old new ps lemmas left) (sym more) (fills-more old now new (flat_map places_of (outlines (take i closed))) (places_of theory.value) lemmas after left one two)

-- all theories
pub fills-all : (old new : Taken) (closed : List (Arc Outline Global)) (i : ℕ) → length closed ≤ i → (lemmas left : List Row) → Fills old new (flat_map places_of (outlines (take i closed))) lemmas left
    → Fills old new (flat_map places_of (outlines closed)) lemmas left
fills-all old new closed i all lemmas left so_far = subst (λ cs. Fills old new (flat_map places_of (outlines cs)) lemmas left) (take_all i closed all) so_far

-- all places
pub fills-places : (old new : Taken) (places : List (Option Row)) (i : ℕ) → length places ≤ i → (lemmas left : List Row) → Fills old new (take i places) lemmas left → Fills old new places lemmas left
fills-places old new places i all lemmas left so_far = subst (λ ps. Fills old new ps lemmas left) (take_all i places all) so_far
