-- What a table of the imports says of the files.
use Rattle.std.proofs.Common.{◌≡◌, ◌⊎◌, ◌↔◌, inl, inr, ℕ, zero, suc, ◌<◌, ◌≤◌, Bool, true, false, cond, List, [], ◌∷◌, length, map, get_or, refl, sym, ◌∙◌, ap, subst, arith, MatchBool, Ordering}
use Rattle.std.specs.declared.cmp.Ordering.TheVariants.{Less, Equal, Greater}
use Rattle.std.specs.Global.{Vec}
use Rattle.std.specs.List.{AllByRecursion}
use Rattle.std.specs.List.Sorted.{IsStrictlySortedBy}
use Rattle.std.specs.Ordering.{is_eq}
use Rattle.std.specs.Cmp.Lexicographic.{nat_list_eq_equiv, texts_ties}
use Rattle.std.proofs.lemmas.Map.Keys.{sorted_head, sorted_tail}
use Rattle.std.proofs.lemmas.Bool.{false_from_ne_true}
use Rattle.std.proofs.lemmas.List.{length-map}
use Rattle.pure_text.specs.Lists.{IsIn, Each, EachTwo}
use Rattle.pure_text.proofs.ListLaws.{in-map, each_at, two_long, any_of, any_some}
use Rattle.pure_text.proofs.AscendingTexts.{byte_order}
use Rattle.pure_grammar.specs.Theories.Lexeme.{same}
use Rattle.pure_grammar.specs.Theories.TheoryText.{TheoryText}
use Rattle.pure_graph.specs.Outcome.{Outcome, Refused, Stands}
use Rattle.pure_graph.specs.Reading.{File}
use Rattle.pure_graph.specs.Graph.{HasStood, Imports, Reaches, directly, through, IsCyclic, IsRefused, before, on_cycle, by_parent, imports_of, named_imports}
use Rattle.pure_session.specs.ImportGraph.{stands, standing, theories, AreLinked, IsImportRow, IsLost}
use Rattle.pure_session.specs.Places.{place_in, cells, is_marked, IsMarked, Path, direct, along}
use Rattle.pure_session.specs.Judging.{IsGraphOf, marks, reach_of}
use Rattle.pure_graph.specs.declared.outcome.Reason.{Reason}
use Rattle.pure_graph.proofs.LawsLemmas.{not_below_itself, above-in, file_once}
use Rattle.pure_session.proofs.PlaceLemmas.{place-below, place-in, place-same, place-or_not, place-hit, place-head, place-tail}

-- ---- files by their names
pub in_mapped : {A B : Type 0} (f : A → B) (y : B) (xs : List A) → IsIn y (map f xs) → (x : A) × IsIn x xs × (y ≡ f x)
in_mapped f y [] m = absurd m
in_mapped f y (x ∷ xs) (inl e) = (x, inl refl, e)
in_mapped f y (x ∷ xs) (inr m) = let w = in_mapped f y xs m in (w.0, inr w.1, w.2)

-- ---- the files that stand
below_kept : (t : List ℕ) (f : File) (kept : List File) (b : Bool) → byte_order t f.theory ≡ Less → AllByRecursion (λ u. byte_order t u ≡ Less) (theories kept)
    → AllByRecursion (λ u. byte_order t u ≡ Less) (theories (cond b (f ∷ kept) kept))
below_kept t f kept true one all = (one, all)
below_kept t f kept false one all = all

below_standing : (t : List ℕ) (files : List File) → AllByRecursion (λ u. byte_order t u ≡ Less) (theories files) → AllByRecursion (λ u. byte_order t u ≡ Less) (theories (standing files))
below_standing t [] below = below
below_standing t (f ∷ files) below = below_kept t f (standing files) (stands f.outcome) below.0 (below_standing t files below.1)

sorted_kept : (f : File) (kept : List File) (b : Bool) → AllByRecursion (λ u. byte_order f.theory u ≡ Less) (theories kept) → IsStrictlySortedBy byte_order (theories kept)
    → IsStrictlySortedBy byte_order (theories (cond b (f ∷ kept) kept))
unfolding IsStrictlySortedBy
sorted_kept f kept true below sorted = (below, sorted)
sorted_kept f kept false below sorted = sorted

pub sorted_standing : (files : List File) → IsStrictlySortedBy byte_order (theories files) → IsStrictlySortedBy byte_order (theories (standing files))
sorted_standing [] sorted = sorted
sorted_standing (f ∷ files) sorted =
    sorted_kept f (standing files) (stands f.outcome) (below_standing f.theory files (sorted_head byte_order f.theory (theories files) sorted))
    (sorted_standing files (sorted_tail byte_order f.theory (theories files) sorted))

in_kept : (f g : File) (kept : List File) (b : Bool) → (f ≡ g) × (b ≡ true) ⊎ IsIn f kept → IsIn f (cond b (g ∷ kept) kept)
in_kept f g kept true (inl w) = inl w.0
in_kept f g kept true (inr m) = inr m
in_kept f g kept false (inl w) = absurd (let no : false ≡ true = w.1 in cc)
in_kept f g kept false (inr m) = m

of_kept : (f g : File) (kept : List File) (b : Bool) → IsIn f (cond b (g ∷ kept) kept) → (f ≡ g) × (b ≡ true) ⊎ IsIn f kept
of_kept f g kept true (inl e) = inl (e, refl)
of_kept f g kept true (inr m) = inr m
of_kept f g kept false m = inr m

pub standing-in : (f : File) (files : List File) → IsIn f files → stands f.outcome ≡ true → IsIn f (standing files)
standing-in f [] m s = m
standing-in f (g ∷ files) (inl e) s = in_kept f g (standing files) (stands g.outcome) (inl (e, ap (λ (h : File). stands h.outcome) (sym e) ∙ s))
standing-in f (g ∷ files) (inr m) s = in_kept f g (standing files) (stands g.outcome) (inr (standing-in f files m s))

pub in-standing : (f : File) (files : List File) → IsIn f (standing files) → IsIn f files × (stands f.outcome ≡ true)
in-standing f [] m = absurd m
in-standing f (g ∷ files) m = elim (of_kept f g (standing files) (stands g.outcome) m) [
  | inl w ↦ (inl w.0, ap (λ (h : File). stands h.outcome) w.0 ∙ w.1)
  | inr n ↦ (let w = in-standing f files n in (inr w.0, w.1))
]

pub outcome_stands : (o : Outcome) → stands o ≡ true → (source : List ℕ) × (text : TheoryText) × (o ≡ Stands source text)
outcome_stands (Refused reason) s = absurd (cc)
outcome_stands (Stands source text) s = (source, text, refl)

pub outcome_or : (o : Outcome) → ((reason : Reason) × (o ≡ Refused reason)) ⊎ ((source : List ℕ) × (text : TheoryText) × (o ≡ Stands source text))
outcome_or (Refused reason) = inl (reason, refl)
outcome_or (Stands source text) = inr (source, text, refl)

pub stood-name : (files : List File) (t : List ℕ) → HasStood files t → IsIn t (theories (standing files))
stood-name files t h =
    let file : File = record { theory = t; outcome = Stands h.0 h.1 } in
    in-map (λ (f : File). f.theory) file (standing files) (standing-in file files h.2 refl)

pub name-stood : (files : List File) (t : List ℕ) → IsIn t (theories (standing files)) → HasStood files t
name-stood files t m =
    let w = in_mapped (λ (f : File). f.theory) t (standing files) m in
    let there = in-standing w.0 files w.1 in
    let said = outcome_stands w.0.outcome there.1 in
    let file : w.0 ≡ record { theory = t; outcome = Stands said.0 said.1 } = λ i. record { theory = sym w.2 i; outcome = said.2 i } in
    (said.0, said.1, subst (λ f. IsIn f files) file there.0)

-- a file that doesn't stand is refused
pub listed-refused : (files : List File) (t : List ℕ) → IsIn t (theories files) → (¬ IsIn t (theories (standing files))) → (reason : Reason) × IsIn (record { theory = t; outcome = Refused reason }) files
listed-refused files t m gone =
    let w = in_mapped (λ (f : File). f.theory) t files m in
    elim (outcome_or w.0.outcome) [
      | inl r ↦ (let file : w.0 ≡ record { theory = t; outcome = Refused r.0 } = λ i. record { theory = sym w.2 i; outcome = r.1 i } in (r.0, subst (λ f. IsIn f files) file w.1))
      | inr s ↦ absurd (gone (let file : w.0 ≡ record { theory = t; outcome = Stands s.0 s.1 } = λ i. record { theory = sym w.2 i; outcome = s.2 i } in stood-name files t (s.0, s.1, subst (λ f. IsIn f files) file w.1)))
    ]

pub stood_or_refused : (files : List File) (t : List ℕ) (reason : Reason) → IsStrictlySortedBy byte_order (theories files) → HasStood files t → IsIn (record { theory = t; outcome = Refused reason }) files → ⊥
stood_or_refused files t reason sorted h m =
    let one : record { theory = t; outcome = Stands h.0 h.1 } ≡ record { theory = t; outcome = Refused reason } =
    file_once files (record { theory = t; outcome = Stands h.0 h.1 }) (record { theory = t; outcome = Refused reason }) sorted h.2 m refl in
    let said : Stands h.0 h.1 ≡ Refused reason = ap (λ (f : File). f.outcome) one in
    cc

-- ---- the table
-- the first place is that of a theory which imports another, whose place is the second
pub record IsEdge (files : List File) (names : List (List ℕ)) (i j : ℕ) : Type 0 where
  pub theory : List ℕ
  pub parent : List ℕ
  pub from : place_in names theory ≡ i
  pub imports : Imports files theory parent
  pub to : place_in names parent ≡ j

equal_itself : (t : List ℕ) → byte_order t t ≡ Equal
equal_itself t = tell (byte_order t t) refl (sym (texts_ties t t) ∙ nat_list_eq_equiv.refl t)
  where
    tell : (o : Ordering) → byte_order t t ≡ o → is_eq (byte_order t t) ≡ true → byte_order t t ≡ Equal
    tell Equal e h = e
    tell Less e h = absurd (not_below_itself t e)
    tell Greater e h = absurd (let no : is_eq (byte_order t t) ≡ false = ap is_eq e in cc)

-- a marked place stands in the row of a file, at that file's place
row_file : (R : File → List Bool → Type 0) (kept : List File) (rows : List (List Bool)) (i j : ℕ) → EachTwo R kept rows → is_marked rows i j ≡ true
    → (f : File) × IsIn f kept × (i < length (theories kept)) × ((d : List ℕ) → get_or (theories kept) i d ≡ f.theory) × R f (get_or rows i [])
row_file R [] [] i j each h = absurd (cc)
row_file R [] (r ∷ rows) i j each h = absurd each
row_file R (f ∷ kept) [] i j each h = absurd each
row_file R (f ∷ kept) (r ∷ rows) zero j each h = (f, inl refl, omega arith, λ d. refl, each.0)
row_file R (f ∷ kept) (r ∷ rows) (suc i) j each h =
    let w = row_file R kept rows i j each.1 h in
    (w.0, inr w.1, omega (arith, w.2), w.3, w.4)

file_row : (R : File → List Bool → Type 0) (kept : List File) (rows : List (List Bool)) (f : File) → EachTwo R kept rows → IsStrictlySortedBy byte_order (theories kept) → IsIn f kept
    → R f (get_or rows (place_in (theories kept) f.theory) [])
file_row R [] rows f each sorted m = absurd m
file_row R (g ∷ kept) [] f each sorted m = absurd each
file_row R (g ∷ kept) (r ∷ rows) f each sorted (inl e) =
    let alike : same g.theory f.theory ≡ true = ap (λ (h : File). same g.theory h.theory) e ∙ nat_list_eq_equiv.refl g.theory in
    let at : place_in (theories (g ∷ kept)) f.theory ≡ zero = place-head g.theory (theories kept) f.theory alike in
    subst (λ k. R f (get_or (r ∷ rows) k [])) (sym at) (subst (λ h. R h r) (sym e) each.0)
file_row R (g ∷ kept) (r ∷ rows) f each sorted (inr m) =
    let less : byte_order g.theory f.theory ≡ Less = above-in g.theory f kept (sorted_head byte_order g.theory (theories kept) sorted) m in
    let at : place_in (theories (g ∷ kept)) f.theory ≡ suc (place_in (theories kept) f.theory) = place-tail g.theory (theories kept) f.theory (texts_ties g.theory f.theory ∙ ap is_eq less) in
    subst (λ k. R f (get_or (r ∷ rows) k [])) (sym at) (file_row R kept rows f each.1 (sorted_tail byte_order g.theory (theories kept) sorted) m)

-- of an outcome that has an import
stands_of_import : (o : Outcome) (p : List ℕ) → IsIn p (imports_of o) → (source : List ℕ) × (text : TheoryText) × (o ≡ Stands source text) × IsIn p (named_imports text)
stands_of_import (Refused reason) p m = absurd m
stands_of_import (Stands source text) p m = (source, text, refl, m)

import_of : (files : List File) (f : File) (p : List ℕ) → IsIn f files → IsIn p (imports_of f.outcome) → Imports files f.theory p
import_of files f p m inside =
    let w = stands_of_import f.outcome p inside in
    let file : f ≡ record { theory = f.theory; outcome = Stands w.0 w.1 } = λ i. record { theory = f.theory; outcome = w.2 i } in
    (w.0, w.1, subst (λ g. IsIn g files) file m, w.3)

-- The table of the files that stand marks their imports.
pub record IsTableOf (files : List File) (rows : List (List Bool)) : Type 0 where
  pub sorted : IsStrictlySortedBy byte_order (theories files)
  pub linked : AreLinked files
  pub each : EachTwo (IsImportRow (theories (standing files))) (standing files) rows

abbrev names_of : List File → List (List ℕ)
names_of files = theories (standing files)

marked-edge : (files : List File) (rows : List (List Bool)) (i j : ℕ) → IsTableOf files rows → is_marked rows i j ≡ true → IsEdge files (names_of files) i j
marked-edge files rows i j table h =
    let w = row_file (IsImportRow (names_of files)) (standing files) rows i j table.each h in
    let f : File = w.0 in
    let at : i ≡ place_in (names_of files) f.theory =
    place-hit (names_of files) f.theory i (sorted_standing files table.sorted) w.2 (λ d. ap (λ t. byte_order t f.theory) (w.3 d) ∙ equal_itself f.theory) in
    let some = any_some (λ p. place_in (names_of files) p ≡ j) (imports_of f.outcome) ((w.4 j).0 h) in
    record {
      theory = f.theory;
      parent = some.0;
      from = sym at;
      imports = import_of files f some.0 (in-standing f files w.1).0 some.1;
      to = some.2;
    }

edge-marked : (files : List File) (rows : List (List Bool)) (t p : List ℕ) → IsTableOf files rows → Imports files t p → is_marked rows (place_in (names_of files) t) (place_in (names_of files) p) ≡ true
edge-marked files rows t p table imp =
    let file : File = record { theory = t; outcome = Stands imp.0 imp.1 } in
    let row = file_row (IsImportRow (names_of files)) (standing files) rows file table.each (sorted_standing files table.sorted) (standing-in file files imp.2 refl) in
    (row (place_in (names_of files) p)).1 (any_of (λ q. place_in (names_of files) q ≡ place_in (names_of files) p) p (named_imports imp.1) imp.3 refl)

-- ---- ways through the table
-- What is marked in the second table is what the first one leads to.
pub record AreReached (files : List File) (rows : List (List Bool)) (closed : List (List Bool)) : Type 0 where
  pub table : IsTableOf files rows
  pub ways : (i j : ℕ) → (is_marked closed i j ≡ true) ↔ Path (is_marked rows) (length rows) i j

count_names : (files : List File) (rows : List (List Bool)) → IsTableOf files rows → length rows ≡ length (names_of files)
count_names files rows table = sym (two_long (IsImportRow (names_of files)) (standing files) rows table.each) ∙ sym (length-map (standing files) (λ (f : File). f.theory))

stood-place : (files : List File) (t : List ℕ) → HasStood files t → place_in (names_of files) t < length (names_of files)
stood-place files t h = place-below (names_of files) t (stood-name files t h)

import-place : (files : List File) (t p : List ℕ) → Imports files t p → place_in (names_of files) t < length (names_of files)
import-place files t p imp = stood-place files t (imp.0, imp.1, imp.2)

reaches-stood : (files : List File) (t u : List ℕ) → Reaches files t u → HasStood files t
reaches-stood files t u (directly imp stood) = (imp.0, imp.1, imp.2)
reaches-stood files t u (through imp r) = (imp.0, imp.1, imp.2)

reach-path : (files : List File) (rows : List (List Bool)) (t u : List ℕ) → IsTableOf files rows → Reaches files t u → Path (is_marked rows) (length rows) (place_in (names_of files) t) (place_in (names_of files) u)
reach-path files rows t u table (directly imp stood) = direct (place_in (names_of files) t) (place_in (names_of files) u) (edge-marked files rows t u table imp)
reach-path files rows t v table (through {u = u} imp r) =
    along (place_in (names_of files) t) (place_in (names_of files) u) (place_in (names_of files) v) (edge-marked files rows t u table imp)
    (omega (arith, stood-place files u (reaches-stood files u v r), count_names files rows table)) (reach-path files rows u v table r)

-- an import whose place is that of another theory is this theory
import_to : (files : List File) (t q u : List ℕ) → Imports files t q → place_in (names_of files) q ≡ place_in (names_of files) u → place_in (names_of files) u < length (names_of files) → Imports files t u
import_to files t q u imp same less = subst (Imports files t) (place-same (names_of files) q u same (omega arith)) imp

-- a way between two places that stand
pub record IsReach (files : List File) (i j : ℕ) : Type 0 where
  pub theory : List ℕ
  pub ancestor : List ℕ
  pub from : place_in (theories (standing files)) theory ≡ i
  pub to : place_in (theories (standing files)) ancestor ≡ j
  pub reaches : Reaches files theory ancestor

path-reach : (files : List File) (rows : List (List Bool)) (i j : ℕ) → IsTableOf files rows → j < length rows → Path (is_marked rows) (length rows) i j → IsReach files i j
path-reach files rows i j table less (direct _ _ h) =
    let e = marked-edge files rows i j table h in
    let there : place_in (names_of files) e.parent < length (names_of files) = omega (arith, e.to, count_names files rows table) in
    record { theory = e.theory; ancestor = e.parent; from = e.from; to = e.to; reaches = directly e.imports (name-stood files e.parent (place-in (names_of files) e.parent there)) }
path-reach files rows i j table less (along _ k _ h inside p) =
    let e = marked-edge files rows i k table h in
    let r = path-reach files rows k j table less p in
    let there : place_in (names_of files) r.theory < length (names_of files) = omega (arith, r.from, count_names files rows table) in
    record {
      theory = e.theory;
      ancestor = r.ancestor;
      from = e.from;
      to = r.to;
      reaches = through (import_to files e.theory e.parent r.theory e.imports (e.to ∙ sym r.from) there) r.reaches;
    }

-- ---- cycles
pub cycle-marked : (files : List File) (rows closed : List (List Bool)) (t : List ℕ) → AreReached files rows closed → IsCyclic files t → is_marked closed (place_in (names_of files) t) (place_in (names_of files) t) ≡ true
cycle-marked files rows closed t reached c = (reached.ways (place_in (names_of files) t) (place_in (names_of files) t)).1 (reach-path files rows t t reached.table c)

pub marked-cycle : (files : List File) (rows closed : List (List Bool)) (t : List ℕ) → AreReached files rows closed → place_in (names_of files) t < length (names_of files)
    → is_marked closed (place_in (names_of files) t) (place_in (names_of files) t) ≡ true → IsCyclic files t
marked-cycle files rows closed t reached less h =
    let k : ℕ = place_in (names_of files) t in
    let r = path-reach files rows k k reached.table (omega (arith, count_names files rows reached.table)) ((reached.ways k k).0 h) in
    let one : r.theory ≡ t = place-same (names_of files) r.theory t r.from (omega (arith, r.from)) in
    let two : r.ancestor ≡ t = place-same (names_of files) r.ancestor t r.to (omega (arith, r.to)) in
    subst (λ u. Reaches files t u) two (subst (λ u. Reaches files u r.ancestor) one r.reaches)

-- ---- what is refused
-- each theory at this place is refused
abbrev RefusedAt : List File → ℕ → Type 0
RefusedAt files i = (t : List ℕ) → IsIn t (theories files) → place_in (theories (standing files)) t ≡ i → IsRefused files t

pub import-listed : (files : List File) (t p : List ℕ) → AreLinked files → Imports files t p → IsIn p (theories files)
import-listed files t p linked imp =
    each_at (λ q. IsIn q (theories files)) (named_imports imp.1)
    (each_at (λ (f : File). Each (λ q. IsIn q (theories files)) (imports_of f.outcome)) files linked (record { theory = t; outcome = Stands imp.0 imp.1 }) imp.2) p imp.3

-- a theory of a file that isn't refused stands
pub good-stood : (files : List File) (t : List ℕ) → IsIn t (theories files) → (¬ IsRefused files t) → HasStood files t
good-stood files t m good = elim (place-or_not (names_of files) t) [
  | inl less ↦ name-stood files t (place-in (names_of files) t less)
  | inr w ↦ (let gone = listed-refused files t m w.1 in absurd (good (before gone.0 gone.1)))
]

edge-refused : (files : List File) (i j : ℕ) → AreLinked files → IsEdge files (names_of files) i j → RefusedAt files j → RefusedAt files i
edge-refused files i j linked e at t m from =
    let inside : place_in (names_of files) e.theory < length (names_of files) = import-place files e.theory e.parent e.imports in
    let one : e.theory ≡ t = place-same (names_of files) e.theory t (e.from ∙ sym from) inside in
    subst (IsRefused files) one (by_parent e.imports (at e.parent (import-listed files e.theory e.parent linked e.imports) e.to))

path-refused : (files : List File) (rows : List (List Bool)) (i j : ℕ) → IsTableOf files rows → Path (is_marked rows) (length rows) i j → RefusedAt files j → RefusedAt files i
path-refused files rows i j table (direct _ _ h) at = edge-refused files i j table.linked (marked-edge files rows i j table h) at
path-refused files rows i j table (along _ k _ h inside p) at = edge-refused files i k table.linked (marked-edge files rows i k table h) (path-refused files rows k j table p at)

gone-refused : (files : List File) (rows : List (List Bool)) → IsTableOf files rows → RefusedAt files (length rows)
gone-refused files rows table t m at =
    let w = listed-refused files t m (λ inside. let less = place-below (names_of files) t inside in absurd (omega (arith, count_names files rows table))) in
    before w.0 w.1

cycle-refused : (files : List File) (rows closed : List (List Bool)) (k : ℕ) → AreReached files rows closed → k < length rows → is_marked closed k k ≡ true → RefusedAt files k
cycle-refused files rows closed k reached less h t m at =
    let inside : place_in (names_of files) t < length (names_of files) = omega (arith, count_names files rows reached.table) in
    on_cycle (marked-cycle files rows closed t reached inside (subst (λ i. is_marked closed i i ≡ true) (sym at) h))

pub lost-refused : (files : List File) (rows closed : List (List Bool)) (t : List ℕ) → AreReached files rows closed → IsIn t (theories files)
    → IsLost (is_marked closed) (length rows) (place_in (names_of files) t) → IsRefused files t
lost-refused files rows closed t reached m (inl gone) = gone-refused files rows reached.table t m gone
lost-refused files rows closed t reached m (inr (inl h)) =
    path-refused files rows (place_in (names_of files) t) (length rows) reached.table ((reached.ways (place_in (names_of files) t) (length rows)).0 h) (gone-refused files rows reached.table) t m refl
lost-refused files rows closed t reached m (inr (inr (k, less, h, inl at))) = cycle-refused files rows closed k reached less h t m (sym at)
lost-refused files rows closed t reached m (inr (inr (k, less, h, inr to))) =
    path-refused files rows (place_in (names_of files) t) k reached.table ((reached.ways (place_in (names_of files) t) k).0 to) (cycle-refused files rows closed k reached less h) t m refl

-- a marked place leads on
onward : (files : List File) (rows closed : List (List Bool)) (t p : List ℕ) (j : ℕ) → AreReached files rows closed → Imports files t p
    → is_marked closed (place_in (names_of files) p) j ≡ true → is_marked closed (place_in (names_of files) t) j ≡ true
onward files rows closed t p j reached imp h =
    let path = (reached.ways (place_in (names_of files) p) j).0 h in
    let inside : place_in (names_of files) p < length (names_of files) = begins files rows (place_in (names_of files) p) j reached.table path in
    (reached.ways (place_in (names_of files) t) j).1 (along (place_in (names_of files) t) (place_in (names_of files) p) j (edge-marked files rows t p reached.table imp) (omega (arith, count_names files rows reached.table)) path)
  where
    first : (files : List File) (rows : List (List Bool)) (i k : ℕ) → IsTableOf files rows → is_marked rows i k ≡ true → i < length (names_of files)
    first files rows i k table h = let e = marked-edge files rows i k table h in subst (λ n. n < length (names_of files)) e.from (import-place files e.theory e.parent e.imports)

    begins : (files : List File) (rows : List (List Bool)) (i j : ℕ) → IsTableOf files rows → Path (is_marked rows) (length rows) i j → i < length (names_of files)
    begins files rows i j table (direct _ _ h) = first files rows i j table h
    begins files rows i j table (along _ k _ h inside p) = first files rows i k table h

reached-direct : (files : List File) (rows closed : List (List Bool)) (t p : List ℕ) → AreReached files rows closed → Imports files t p → is_marked closed (place_in (names_of files) t) (place_in (names_of files) p) ≡ true
reached-direct files rows closed t p reached imp =
    (reached.ways (place_in (names_of files) t) (place_in (names_of files) p)).1 (direct (place_in (names_of files) t) (place_in (names_of files) p) (edge-marked files rows t p reached.table imp))

pub refused-lost : (files : List File) (rows closed : List (List Bool)) (t : List ℕ) → AreReached files rows closed → IsRefused files t → IsLost (is_marked closed) (length rows) (place_in (names_of files) t)
refused-lost files rows closed t reached (before reason m) = elim (place-or_not (names_of files) t) [
  | inl inside ↦ absurd (stood_or_refused files t reason reached.table.sorted (name-stood files t (place-in (names_of files) t inside)) m)
  | inr w ↦ inl (w.0 ∙ sym (count_names files rows reached.table))
]
refused-lost files rows closed t reached (on_cycle c) =
    let inside = stood-place files t (reaches-stood files t t c) in
    inr (inr (place_in (names_of files) t, omega (arith, count_names files rows reached.table), cycle-marked files rows closed t reached c, inl refl))
refused-lost files rows closed t reached (by_parent {p = p} imp r) = up (refused-lost files rows closed p reached r)
  where
    up : IsLost (is_marked closed) (length rows) (place_in (names_of files) p) → IsLost (is_marked closed) (length rows) (place_in (names_of files) t)
    up (inl gone) = inr (inl (subst (λ k. is_marked closed (place_in (names_of files) t) k ≡ true) gone (reached-direct files rows closed t p reached imp)))
    up (inr (inl h)) = inr (inl (onward files rows closed t p (length rows) reached imp h))
    up (inr (inr (k, less, h, inl at))) = inr (inr (k, less, h, inr (subst (λ i. is_marked closed (place_in (names_of files) t) i ≡ true) (sym at) (reached-direct files rows closed t p reached imp))))
    up (inr (inr (k, less, h, inr to))) = inr (inr (k, less, h, inr (onward files rows closed t p k reached imp to)))

-- ---- how many places are reached
marks_within : (a b : List Bool) → ((c : ℕ) → get_or a c false ≡ true → get_or b c false ≡ true) → marks a ≤ marks b
marks_within [] b h = omega arith
marks_within (false ∷ xs) [] h = marks_within xs [] (λ c. h (suc c))
marks_within (true ∷ xs) [] h = absurd (let no : false ≡ true = h zero refl in cc)
marks_within (false ∷ xs) (false ∷ ys) h = marks_within xs ys (λ c. h (suc c))
marks_within (false ∷ xs) (true ∷ ys) h = omega (arith, marks_within xs ys (λ c. h (suc c)))
marks_within (true ∷ xs) (true ∷ ys) h = omega (arith, marks_within xs ys (λ c. h (suc c)))
marks_within (true ∷ xs) (false ∷ ys) h = absurd (let no : false ≡ true = h zero refl in cc)

marks_less : (a b : List Bool) (j : ℕ) → ((c : ℕ) → get_or a c false ≡ true → get_or b c false ≡ true) → get_or a j false ≡ false → get_or b j false ≡ true → marks a < marks b
marks_less a [] j h unset set_b = absurd (cc)
marks_less [] (true ∷ ys) j h unset set_b = omega arith
marks_less [] (false ∷ ys) zero h unset set_b = absurd (cc)
marks_less [] (false ∷ ys) (suc j) h unset set_b = marks_less [] ys j (λ c e. absurd (let n : false ≡ true = e in cc)) refl set_b
marks_less (true ∷ xs) (false ∷ ys) j h unset set_b = absurd (let n : false ≡ true = h zero refl in cc)
marks_less (true ∷ xs) (true ∷ ys) zero h unset set_b = absurd (cc)
marks_less (true ∷ xs) (true ∷ ys) (suc j) h unset set_b = omega (arith, marks_less xs ys j (λ c. h (suc c)) unset set_b)
marks_less (false ∷ xs) (true ∷ ys) j h unset set_b = omega (arith, marks_within xs ys (λ c. h (suc c)))
marks_less (false ∷ xs) (false ∷ ys) zero h unset set_b = absurd (cc)
marks_less (false ∷ xs) (false ∷ ys) (suc j) h unset set_b = marks_less xs ys j (λ c. h (suc c)) unset set_b

pub parents-fall : (files : List File) (rows closed : List (List Bool)) (t p : List ℕ) → AreReached files rows closed → Imports files t p → (¬ IsRefused files t)
    → reach_of (names_of files) closed p < reach_of (names_of files) closed t
parents-fall files rows closed t p reached imp good =
    let parent_good : IsRefused files p → ⊥ = λ r. good (by_parent imp r) in
    let inside = stood-place files p (good-stood files p (import-listed files t p reached.table.linked imp) parent_good) in
    let no_cycle : is_marked closed (place_in (names_of files) p) (place_in (names_of files) p) ≡ false =
    false_from_ne_true (is_marked closed (place_in (names_of files) p) (place_in (names_of files) p)) (λ h. parent_good (on_cycle (marked-cycle files rows closed p reached inside h))) in
    marks_less (get_or closed (place_in (names_of files) p) []) (get_or closed (place_in (names_of files) t) []) (place_in (names_of files) p)
    (λ c h. onward files rows closed t p c reached imp h) no_cycle (reached-direct files rows closed t p reached imp)

-- The graph of the files.
pub IsGraphOf-from : (files : List File) (rows closed : List (List Bool)) (lost : List Bool) → AreReached files rows closed
    → ((i : ℕ) → MatchBool (get_or lost i true) (i < length rows → IsLost (is_marked closed) (length rows) i) ((i < length rows) × ¬ IsLost (is_marked closed) (length rows) i))
    → IsGraphOf files (names_of files) closed lost
IsGraphOf-from files rows closed lost reached told = record {
  ascend = sorted_standing files reached.table.sorted;
  cyclic = λ t stood. (λ h. marked-cycle files rows closed t reached (stood-place files t stood) h, λ c. cycle-marked files rows closed t reached c);
  refused = λ t m. judge t m (get_or lost (place_in (names_of files) t) true) (told (place_in (names_of files) t));
  falls = λ t p imp good. parents-fall files rows closed t p reached imp good;
}
  where
    judge : (t : List ℕ) → IsIn t (theories files) → (b : Bool)
        → MatchBool b (place_in (names_of files) t < length rows → IsLost (is_marked closed) (length rows) (place_in (names_of files) t)) ((place_in (names_of files) t < length rows) × ¬ IsLost (is_marked closed) (length rows) (place_in (names_of files) t))
        → MatchBool b (IsRefused files t) (¬ IsRefused files t)
    judge t m true h = lost-refused files rows closed t reached m (elim (place-or_not (names_of files) t) [
      | inl inside ↦ h (omega (arith, count_names files rows reached.table))
      | inr w ↦ inl (w.0 ∙ sym (count_names files rows reached.table))
    ])
    judge t m false h = λ r. h.1 (refused-lost files rows closed t reached r)

pub graph-made : (files : List File) (names : List (List ℕ)) (table rows : List (Vec Bool)) (lost : List Bool) (count : ℕ) → IsStrictlySortedBy byte_order (theories files) → AreLinked files → names ≡ theories (standing files)
    → EachTwo (IsImportRow names) (standing files) (cells table) → ((i j : ℕ) → IsMarked (cells rows) i j ↔ Path (is_marked (cells table)) (length table) i j) → count ≡ length names
    → ((i : ℕ) → MatchBool (get_or lost i true) (i < count → IsLost (is_marked (cells rows)) count i) ((i < count) × ¬ IsLost (is_marked (cells rows)) count i)) → IsGraphOf files names (cells rows) lost
graph-made files names table rows lost count sorted linked are each ways counted told =
    let is_table : IsTableOf files (cells table) = record { sorted = sorted; linked = linked; each = subst (λ ns. EachTwo (IsImportRow ns) (standing files) (cells table)) are each } in
    let long : length (cells table) ≡ length table = length-map table (λ (row : Vec Bool). row.items) in
    let same : count ≡ length (cells table) = counted ∙ ap length are ∙ sym (count_names files (cells table) is_table) in
    let reached : AreReached files (cells table) (cells rows) = record {
      table = is_table;
      ways = λ i j. subst (λ n. (is_marked (cells rows) i j ≡ true) ↔ Path (is_marked (cells table)) n i j) (sym long) (ways i j);
    } in
    subst (λ ns. IsGraphOf files ns (cells rows) lost) (sym are)
    (IsGraphOf-from files (cells table) (cells rows) lost reached
    (λ i. subst (λ n. MatchBool (get_or lost i true) (i < n → IsLost (is_marked (cells rows)) n i) ((i < n) × ¬ IsLost (is_marked (cells rows)) n i)) same (told i)))
