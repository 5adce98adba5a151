-- From what the theories of a session left on a board, and the entries of its lemmas, to its table.
use Rattle.std.proofs.Common.{◌≡◌, ◌&&◌, ℕ, suc, Bool, List, [], ◌∷◌, map, length, refl, sym, ◌∙◌, ap, subst}
use Rattle.std.specs.List.{list_all}
use Rattle.pure_text.specs.Lists.{EachTwo}
use Rattle.pure_text.proofs.ListLaws.{two_long}
use Rattle.pure_promise_fates.specs.Entries.{AreEntries}
use Rattle.pure_definitions.specs.Names.{Label}
use Rattle.pure_graph.specs.Order.{Loaded}
use Rattle.pure_graph.specs.Session.{Session, Shown, shown}
use Rattle.pure_print.specs.declared.row.Row.{Row}
use Rattle.pure_print.specs.declared.row.RowStatus.{RowStatus}
use Rattle.pure_print.specs.declared.table.TableText.{TableText}
use Rattle.pure_print.specs.Growing.{HoldsRows}
use Rattle.pure_print.specs.RowText.{total_line, table_text}
use Rattle.pure_citations.specs.Cited.{AreInSession, AreBeside}
use Rattle.pure_citations.specs.Drawn.{AreNamedRests}
use Rattle.pure_citations.proofs.PremiseLaws.{in-session, beside-entries, named-rests}
use Rattle.pure_check_work.specs.Declare.Notes.{Fork, Note}
use Rattle.pure_check_work.specs.SessionMeaning.Statements.{forks_of, AreStatements}
use Rattle.pure_check_work.proofs.SessionMeaning.StatementLaws.{statements_once}
use Rattle.pure_check_work.specs.TheoryRun.Sessions.{AreSaid}
use Rattle.pure_check_work.specs.Table.Table.{IsEntryOf, table_rows}
use Rattle.pure_check_work.proofs.Table.PrintedLaws.{said_are_statements}
use Rattle.pure_check_work.specs.Method.declared.outcome.Outcome.{Outcome}
use Rattle.pure_check_work.specs.Promise.Entries.{LemmaEntry, plain}
use Rattle.pure_check_work.specs.Promise.Seen.{seen}
use Rattle.pure_check_work.specs.Promise.declared.entry.Entry.{Entry}
use Rattle.pure_check_work.specs.SessionLaws.Loaded.{IsLoadedSession}
use Rattle.pure_check_work.specs.TheoryRun.Outline.{Outline}
use Rattle.pure_check_work.specs.Table.Printed.{ArePartsOf, AreTableRows, TakesTableRows}
use Rattle.pure_machine.specs.State.{Promise}
use Rattle.pure_check_work.specs.Cancelled.{cancelled_labels}
use Rattle.pure_check_work.specs.Said.{AreLeft, AreSaidBy}
use Rattle.pure_check_work.proofs.TableLaws.{table_has_premises}
use Rattle.pure_check.specs.declared.formed.Extent.{Extent}
use Rattle.pure_check.specs.declared.formed.Extent.TheVariants.{Whole, LastLine}
use Rattle.pure_check.specs.Formed.{IsFormed, IsFormedTable, SaysOf, ArePremises}
use Rattle.pure_check.specs.Meaning.{is_good, is_good_status}

-- the session of these theories, as if no file were refused
abbrev session_alone : (texts : List (List ℕ)) → (theories : List Loaded) → Session
session_alone texts theories = record { names = texts; theories = theories; refused = []; files = 0 }

-- Each of the entries has a fate.
pub said-has_fates : (texts : List (List ℕ)) (theories : List Loaded) → IsLoadedSession texts theories → (promises : List (Promise Fork Outcome)) (values : List Outline) (entries : List Entry) (duties : List Fork) → AreSaidBy texts theories promises values entries duties
    → AreEntries (map plain (seen entries))
said-has_fates texts theories loaded promises values entries duties said =
    (table_has_premises (session_alone texts theories) loaded (cancelled_labels said.ordered) (record { texts = texts; values = values; entries = seen entries; refused = [] }) refl said.left refl).0

-- The lemmas that theories bound are those of the session's notes.
bound-lemmas : (texts : List (List ℕ)) (theories : List Loaded) → IsLoadedSession texts theories → (values : List Outline) (lemmas : List Fork) → AreSaid texts theories values lemmas → (notes : List Note) → AreStatements texts theories notes → lemmas ≡ forks_of notes
bound-lemmas texts theories loaded values lemmas said notes statements =
    let these = said_are_statements texts theories values lemmas said in
    these.2 ∙ ap forks_of (statements_once texts theories loaded these.0 notes these.1 statements)

premises : (texts : List (List ℕ)) (theories : List Loaded) → IsLoadedSession texts theories → (cancelled : List Label) (values : List Outline) (es : List LemmaEntry) (left : AreLeft texts theories cancelled values es) → ArePremises texts left.lemmas es
premises texts theories loaded cancelled values es left =
    let these = said_are_statements texts theories values left.lemmas left.said in
    let are = subst (λ fs. EachTwo (IsEntryOf texts cancelled) fs es) these.2 left.entries in
    subst (λ fs. ArePremises texts fs es) (sym these.2) (record {
      session = in-session texts theories loaded these.0 these.1;
      beside = beside-entries texts theories loaded these.0 these.1 cancelled es are;
      rests = named-rests texts theories loaded these.0 these.1 cancelled es are;
    })

pub said-premises : (texts : List (List ℕ)) (theories : List Loaded) → IsLoadedSession texts theories → (promises : List (Promise Fork Outcome)) (values : List Outline) (entries : List Entry) (duties : List Fork) → AreSaidBy texts theories promises values entries duties
    → (names : List (List ℕ)) → names ≡ texts → ArePremises names duties (seen entries)
said-premises texts theories loaded promises values entries duties said names named =
    subst (λ ns. ArePremises ns duties (seen entries)) (sym named)
    (subst (λ fs. ArePremises texts fs (seen entries)) (sym said.duties_are) (premises texts theories loaded (cancelled_labels said.ordered) values (seen entries) said.left))

-- There are as many lemmas as entries.
pub as-long : {A B : Type 0} (f : A → Fork) (g : B → LemmaEntry) (ds : List A) (es : List B) → AreBeside (map f ds) (map g es) → length ds ≡ length es
as-long f g ds es two = sym (mapped f ds) ∙ (two_long _ (map f ds) (map g es) two ∙ mapped g es)
  where
    mapped : {C D : Type 0} (h : C → D) (xs : List C) → length (map h xs) ≡ length xs
    mapped h [] = refl
    mapped h (x ∷ xs) = ap suc (mapped h xs)

-- Rows are declared or proved where their statuses are.
good-statuses : (rows : List Row) → list_all is_good_status (map Row.status rows) ≡ list_all is_good rows
good-statuses [] = refl
good-statuses (row ∷ rows) = ap (λ b. is_good row && b) (good-statuses rows)

-- The whole text of a table whose rows were taken.
pub whole-formed : (S : Session) (cancelled : List Label) (texts : List (List ℕ)) (fs : List Fork) (entries : List LemmaEntry) (old new : TableText) → HoldsRows old [] → TakesTableRows (HoldsRows old) (HoldsRows new) S cancelled entries
    → (files : ℕ) (text : List ℕ) (clean : Bool) → ((rows : List Row) → HoldsRows new rows → text ≡ table_text files rows) → clean ≡ list_all is_good_status new.statuses.items → IsFormedTable S cancelled texts fs entries Whole files text clean
whole-formed S cancelled texts fs entries old new none takes files text clean finished good =
    let holds = takes.3 [] none in
    record {
      table = takes.0;
      is_table = takes.1;
      entries_are = takes.2;
      says = (finished (table_rows S takes.0) holds, sym (good ∙ ap (list_all is_good_status) holds.statuses_are ∙ good-statuses (table_rows S takes.0)));
    }

-- Its last line, where the statuses were taken.
pub last-line-formed : (S : Session) (cancelled : List Label) (texts : List (List ℕ)) (fs : List Fork) (entries : List LemmaEntry) (old new : List RowStatus) → old ≡ [] → TakesTableRows (λ rows. old ≡ map Row.status rows) (λ rows. new ≡ map Row.status rows) S cancelled entries
    → (files : ℕ) (text : List ℕ) (clean : Bool) → ((rows : List Row) → new ≡ map Row.status rows → text ≡ total_line files rows) → clean ≡ list_all is_good_status new → IsFormedTable S cancelled texts fs entries LastLine files text clean
last-line-formed S cancelled texts fs entries old new none takes files text clean finished good =
    let holds = takes.3 [] none in
    record {
      table = takes.0;
      is_table = takes.1;
      entries_are = takes.2;
      says = (finished (table_rows S takes.0) holds, sym (good ∙ ap (list_all is_good_status) holds ∙ good-statuses (table_rows S takes.0)));
    }

-- What is said of the rows is said of the table.
pub rows-formed : (S : Session) (cancelled : List Label) (texts : List (List ℕ)) (fs : List Fork) (entries : List LemmaEntry) (rows : List Row) → AreTableRows S cancelled entries rows → (extent : Extent) (files : ℕ) (text : List ℕ) (clean : Bool) → SaysOf extent texts fs entries files rows text clean
    → IsFormedTable S cancelled texts fs entries extent files text clean
rows-formed S cancelled texts fs entries rows are extent files text clean says = record {
  table = are.0;
  is_table = are.1;
  entries_are = are.2;
  says = subst (λ rs. SaysOf extent texts fs entries files rs text clean) are.3 says;
}

-- What is asked for of the table of what was said is that of the session's table.
pub said-formed : (texts : List (List ℕ)) (theories : List Loaded) → IsLoadedSession texts theories → (promises : List (Promise Fork Outcome)) (values : List Outline) (entries : List Entry) (duties : List Fork) → AreSaidBy texts theories promises values entries duties
    → (names : List (List ℕ)) → names ≡ texts → (refused : List Shown) (extent : Extent) (files : ℕ) (text : List ℕ) (clean : Bool)
    → ((R : Session) (cancelled : List Label) → ArePartsOf R cancelled (record { texts = names; values = values; entries = seen entries; refused = refused }) → IsFormedTable R cancelled names duties (seen entries) extent files text clean)
    → (S : Session) → S.names ≡ texts → S.theories ≡ theories → refused ≡ map shown S.refused → S.files ≡ files → IsFormed S promises extent text clean
said-formed texts theories loaded promises values entries duties said names named refused extent files text clean made S of_names of_theories of_refused of_files =
    let K = cancelled_labels said.ordered in
    let here : IsLoadedSession S.names S.theories = subst (λ ns. IsLoadedSession ns S.theories) (sym of_names) (subst (IsLoadedSession texts) (sym of_theories) loaded) in
    let left : AreLeft S.names S.theories K values (seen entries) =
    subst (λ ns. AreLeft ns S.theories K values (seen entries)) (sym of_names) (subst (λ ts. AreLeft texts ts K values (seen entries)) (sym of_theories) said.left) in
    let parts = (table_has_premises S here K (record { texts = names; values = values; entries = seen entries; refused = refused }) (of_names ∙ sym named) left of_refused).1 in
    let t = made S K parts in
    let notes = (t.table).notes in
    let statements : AreStatements texts theories notes = subst (λ ns. AreStatements ns theories notes) of_names (subst (λ ts. AreStatements S.names ts notes) of_theories (t.is_table).statements) in
    let bound : duties ≡ forks_of notes = said.duties_are ∙ bound-lemmas texts theories loaded values said.left.lemmas said.left.said notes statements in
    record {
      table = t.table;
      ordered = said.ordered;
      in_order = said.in_order;
      entries = t.entries_are ∙ said.entries_are;
      is_table = t.is_table;
      says =
          subst (λ ns. SaysOf extent ns (forks_of notes) (t.table).entries S.files (table_rows S t.table) text clean) (named ∙ sym of_names)
          (subst (λ fs. SaysOf extent names fs (t.table).entries S.files (table_rows S t.table) text clean) bound
          (subst (λ es. SaysOf extent names duties es S.files (table_rows S t.table) text clean) (sym t.entries_are)
          (subst (λ n. SaysOf extent names duties (seen entries) n (table_rows S t.table) text clean) (sym of_files) t.says)));
    }
