-- Rows of a session's table that stand whichever lemmas are cancelled.
use Rattle.std.proofs.Common.{◌≡◌, ℕ, List, [], ◌∷◌, ◌++◌, inl, inr, refl, sym, ◌∙◌, ap, subst, map, take, drop, Option, Some, None}
use Rattle.pure_text.specs.Lists.{IsIn, EachTwo}
use Rattle.pure_text.proofs.ListLaws.{two-append}
use Rattle.pure_definitions.specs.Names.{Label}
use Rattle.pure_graph.specs.Order.{Loaded}
use Rattle.pure_graph.specs.Session.{shown}
use Rattle.pure_print.specs.declared.row.Row.{Row}
use Rattle.pure_table.specs.Declare.Notes.{Fork, Note, Said, Forked}
use Rattle.pure_table.specs.Method.Proof.{ProofOutcome}
use Rattle.pure_table.specs.Promise.Entries.{LemmaEntry}
use Rattle.pure_table.specs.SessionLaws.Loaded.{IsLoadedSession}
use Rattle.pure_table.specs.SessionMeaning.Statements.{forks_of}
use Rattle.pure_table.specs.SessionMeaning.Laws.{IsSomeFork}
use Rattle.pure_table.proofs.SessionMeaning.StatementLaws.{statements_once}
use Rattle.pure_table.specs.Table.{IsOwn, IsEntryOf, AreEntriesOf, with_rows, refusal_row, table_rows}
use Rattle.pure_table.proofs.DerivedLaws.{some_fork, has_fates}
use Rattle.pure_table.proofs.OnceLaws.{same_entry, proof_once}
use Rattle.pure_table_laws.specs.Standing.{IsStanding, StandsAs}
use Rattle.pure_table_laws.specs.Laws.{RowsStand, RowsStayInPlace}
use Rattle.pure_table_laws.proofs.RowLaws.{same_in, IsKept, rows_kept}

-- Two lists beside a third, each two of its elements related.
two_beside : {A B : Type 0} (P : A → Type 0) (R S : A → B → Type 0) (T : B → B → Type 0) → ((a : A) (b c : B) → P a → R a b → S a c → T b c)
    → (xs : List A) (ys zs : List B) → ((a : A) → IsIn a xs → P a) → EachTwo R xs ys → EachTwo S xs zs → EachTwo T ys zs
two_beside P R S T f [] [] [] each h k = tt
two_beside P R S T f [] [] (c ∷ zs) each h k = absurd k
two_beside P R S T f [] (b ∷ ys) zs each h k = absurd h
two_beside P R S T f (a ∷ xs) [] zs each h k = absurd h
two_beside P R S T f (a ∷ xs) (b ∷ ys) [] each h k = absurd k
two_beside P R S T f (a ∷ xs) (b ∷ ys) (c ∷ zs) each h k = (f a b c (each a (inl refl)) h.0 k.0, two_beside P R S T f xs ys zs (λ x m. each x (inr m)) h.1 k.1)

module _ (texts : List (List ℕ)) (theories : List Loaded) (loaded : IsLoadedSession texts theories) where
  module _ (cancelled fewer : List Label) (within : (l : Label) → IsIn l fewer → IsIn l cancelled) where
    own_kept : (f : Fork) → IsSomeFork texts theories f → (o p : Option ProofOutcome) → IsOwn texts cancelled f o → IsOwn texts fewer f p → ¬ (o ≡ None) → o ≡ p
    own_kept f some None p h k tried = absurd (tried refl)
    own_kept f some (Some o) None h k tried = absurd (h.0 (within f.label k))
    own_kept f some (Some o) (Some p) h k tried = ap Some (proof_once texts theories loaded f some o p h.1 k.1)

    entry_kept : (f : Fork) (e d : LemmaEntry) → IsSomeFork texts theories f → IsEntryOf texts cancelled f e → IsEntryOf texts fewer f d → IsKept e d
    entry_kept f e d some h k tried =
        same_entry e.label d.label e.name d.name e.prop d.prop e.own d.own (h.label ∙ sym k.label) (h.name ∙ sym k.name) (h.prop ∙ sym k.prop) (own_kept f some e.own d.own h.own k.own tried)

-- Rows that stand do so in the places of notes.
with_rows_two : (notes : List Note) (rs ss : List Row) → EachTwo StandsAs rs ss → EachTwo StandsAs (with_rows notes rs) (with_rows notes ss)
with_rows_two [] rs ss h = tt
with_rows_two (Said row ∷ notes) rs ss h = (λ stands. refl, with_rows_two notes rs ss h)
with_rows_two (Forked fork ∷ notes) rs ss h = by rs ss h (λ xs ys k. with_rows_two notes xs ys k)
  where
    by : (xs ys : List Row) → EachTwo StandsAs xs ys → ((us vs : List Row) → EachTwo StandsAs us vs → EachTwo StandsAs (with_rows notes us) (with_rows notes vs))
        → EachTwo StandsAs (take 1 xs ++ with_rows notes (drop 1 xs)) (take 1 ys ++ with_rows notes (drop 1 ys))
    by [] [] k further = further [] [] tt
    by [] (y ∷ ys) k further = absurd k
    by (x ∷ xs) [] k further = absurd k
    by (x ∷ xs) (y ∷ ys) k further = (k.0, further xs ys k.1)

stand-themselves : (rows : List Row) → EachTwo StandsAs rows rows
stand-themselves [] = tt
stand-themselves (row ∷ rows) = (λ stands. refl, stand-themselves rows)

pub rows_stay_in_place : RowsStayInPlace
rows_stay_in_place S loaded cancelled fewer within t u h k =
    let notes : t.notes ≡ u.notes = statements_once S.names S.theories loaded t.notes u.notes h.statements k.statements in
    let of_t : AreEntriesOf S.names fewer t.notes u.entries = subst (λ ns. AreEntriesOf S.names fewer ns u.entries) (sym notes) k.entries in
    let kept : EachTwo IsKept t.entries u.entries =
    two_beside (IsSomeFork S.names S.theories) (IsEntryOf S.names cancelled) (IsEntryOf S.names fewer) IsKept (λ f e d. entry_kept S.names S.theories loaded cancelled fewer within f e d)
    (forks_of t.notes) t.entries u.entries (some_fork S.names S.theories loaded t.notes h.statements) h.entries of_t in
    let lemmas : EachTwo StandsAs t.lemmas u.lemmas =
    rows_kept S.names t.entries u.entries (has_fates S.names S.theories loaded t.notes h.statements cancelled t.entries h.entries)
    (has_fates S.names S.theories loaded u.notes k.statements fewer u.entries k.entries) kept t.lemmas u.lemmas h.rows k.rows in
    let theories : EachTwo StandsAs (with_rows t.notes t.lemmas) (with_rows u.notes u.lemmas) =
    subst (λ ns. EachTwo StandsAs (with_rows t.notes t.lemmas) (with_rows ns u.lemmas)) notes (with_rows_two t.notes t.lemmas u.lemmas lemmas) in
    let refused = map refusal_row (map shown S.refused) in
    two-append StandsAs (with_rows t.notes t.lemmas) refused (with_rows u.notes u.lemmas) refused theories (stand-themselves refused)

pub rows_stand : RowsStand
rows_stand S loaded cancelled t u h k row among stands =
    same_in (λ (r : Row). IsStanding r.status) (table_rows S t) (table_rows S u) (rows_stay_in_place S loaded cancelled [] (λ l m. absurd m) t u h k) row among stands
