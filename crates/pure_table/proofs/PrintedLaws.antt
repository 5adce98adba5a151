-- What is printed is the table of the session.
use Rattle.std.proofs.Common.{◌≡◌, List, [], ◌∷◌, ◌++◌, take, drop, refl, sym, ◌∙◌, ap, subst, map, append-nil, append_assoc}
use Rattle.std.specs.List.{flat_map}
use Rattle.pure_text.specs.Lists.{EachTwo}
use Rattle.pure_definitions.specs.Names.{Label}
use Rattle.pure_graph.specs.Session.{Session}
use Rattle.pure_print.specs.declared.row.Row.{Row}
use Rattle.pure_theory_run.specs.Declare.Notes.{Note, Said, Forked}
use Rattle.pure_promise_fates.specs.Entries.{AreEntries}
use Rattle.pure_promise.specs.Entries.{plain}
use Rattle.pure_promise.specs.Rows.{AreRowsOf}
use Rattle.pure_theory_run.specs.SessionMeaning.Verdicts.{Verdict, Barred, Ran}
use Rattle.pure_theory_run.specs.SessionMeaning.Statements.{notes_of}
use Rattle.pure_theory_run.specs.Outline.{outline, row_of, rows_of}
use Rattle.pure_table.specs.Table.{IsEntryOf, with_rows, refusal_row}
use Rattle.pure_table.specs.Laws.{SaidAreStatements, SaidAreParts}
use Rattle.pure_table.specs.Filling.{places_of, filled, Fills}
use Rattle.pure_table.proofs.FillingLaws.{rows_there}
use Rattle.pure_table.specs.Printed.{Parts, ArePartsOf, AreTableRows, TakesTableRows}

-- the rows of notes are filled
filled-notes : (notes : List Note) (lemmas : List Row) → filled (rows_of notes) lemmas ≡ with_rows notes lemmas
filled-notes [] lemmas = refl
filled-notes (Said row ∷ notes) lemmas = ap (λ rows. row ∷ rows) (filled-notes notes lemmas)
filled-notes (Forked fork ∷ notes) lemmas = ap (λ rows. take 1 lemmas ++ rows) (filled-notes notes (drop 1 lemmas))

rows_of-append : (notes more : List Note) → rows_of (notes ++ more) ≡ rows_of notes ++ rows_of more
rows_of-append [] more = refl
rows_of-append (note ∷ notes) more = ap (λ rows. row_of note ∷ rows) (rows_of-append notes more)

places-outline : (v : Verdict) → places_of (outline v) ≡ rows_of (notes_of v)
places-outline (Barred row) = refl
places-outline (Ran notes last) = refl

places-outlines : (verdicts : List Verdict) → flat_map places_of (map outline verdicts) ≡ rows_of (flat_map notes_of verdicts)
places-outlines [] = refl
places-outlines (v ∷ vs) =
    ap (λ rows. rows ++ flat_map places_of (map outline vs)) (places-outline v)
    ∙ ap (λ rows. rows_of (notes_of v) ++ rows) (places-outlines vs)
    ∙ sym (rows_of-append (notes_of v) (flat_map notes_of vs))

-- Rows that are made of the parts are those of the session's table.
pub table-rows : (p : Parts) (lemmas rows : List Row) → AreRowsOf p.texts p.entries lemmas → rows ≡ filled (flat_map places_of p.values) lemmas ++ map refusal_row p.refused
    → (S : Session) (cancelled : List Label) → ArePartsOf S cancelled p → AreTableRows S cancelled p.entries rows
table-rows p lemmas rows each is S cancelled of =
    let notes = flat_map notes_of of.verdicts in
    let places : filled (flat_map places_of p.values) lemmas ≡ with_rows notes lemmas =
    ap (λ values. filled (flat_map places_of values) lemmas) of.values ∙ ap (λ places. filled places lemmas) (places-outlines of.verdicts) ∙ filled-notes notes lemmas in (
      record { notes = notes; entries = p.entries; lemmas = lemmas },
      record {
        statements = record { verdicts = of.verdicts; are = of.are; all = of.all; notes_are = refl };
        entries = of.entries;
        rows = subst (λ texts. AreRowsOf texts p.entries lemmas) (sym of.texts) each;
      },
      refl,
      is ∙ (λ i. places i ++ map refusal_row (of.refused i)),
    )

-- What the theories left are the statements.
pub said_are_statements : SaidAreStatements
said_are_statements texts theories values forks said =
    (flat_map notes_of said.closed.verdicts, record { verdicts = said.closed.verdicts; are = said.closed.are; all = said.all; notes_are = refl }, said.closed.forks_are)

pub said_are_parts : SaidAreParts
said_are_parts S cancelled p forks texts said entries refused = record {
  texts = texts;
  verdicts = said.closed.verdicts;
  are = said.closed.are;
  all = said.all;
  values = said.closed.values_are;
  entries = subst (λ fs. EachTwo (IsEntryOf S.names cancelled) fs p.entries) said.closed.forks_are entries;
  refused = refused;
}

-- What takes the rows of the theories, and then those of the files that are refused, takes those of the session's table.
pub takes-table : (p : Parts) → AreEntries (map plain p.entries) → (old now new : List Row → Type 0)
    → ((rows : List Row) → AreRowsOf p.texts p.entries rows → (left : List Row) × Fills old now (flat_map places_of p.values) rows left)
    → ((taken : List Row) → now taken → new (taken ++ map refusal_row p.refused))
    → (S : Session) (cancelled : List Label) → ArePartsOf S cancelled p → TakesTableRows old new S cancelled p.entries
takes-table p entries old now new fills refusals S cancelled of =
    let lemmas = rows_there p.texts p.entries entries in
    let places = flat_map places_of p.values in
    let put = fills lemmas.0 lemmas.1 in
    let t = table-rows p lemmas.0 (filled places lemmas.0 ++ map refusal_row p.refused) lemmas.1 refl S cancelled of in (
      t.0,
      t.1,
      t.2,
      λ taken held.
          let all = put.1 taken held in
          let is : all.0 ≡ taken ++ filled places lemmas.0 = sym (append-nil all.0) ∙ all.2 [] ∙ ap (λ ps. taken ++ filled ps lemmas.0) (append-nil places) in
          subst new (ap (λ rows. rows ++ map refusal_row p.refused) is ∙ append_assoc taken (filled places lemmas.0) (map refusal_row p.refused) ∙ ap (λ rows. taken ++ rows) t.3)
          (refusals all.0 all.1),
    )
