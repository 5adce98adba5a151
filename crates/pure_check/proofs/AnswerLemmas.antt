-- From what is left on a board to the answer of a table.
use Rattle.std.proofs.Common.{◌≡◌, ℕ, Bool, List, map, refl, sym, ◌∙◌, ap, subst, Option, Some, Result, Ok, Err, IfOk}
use Rattle.pure_io.specs.declared.library.File as library
use Rattle.pure_graph.specs.Session.{Session, Shown, shown}
use Rattle.pure_graph.specs.declared.fault.LoadFault.{LoadFault}
use Rattle.pure_graph.specs.SessionNames.{AreNames}
use Rattle.pure_graph.specs.Order.{Loaded}
use Rattle.pure_session.specs.ToldTheories.{AreTheoriesOf}
use Rattle.pure_typ.specs.NameTexts.{AreSessionTexts}
use Rattle.std.specs.List.{filter_map}
use Rattle.pure_check_work.specs.Declare.Notes.{Fork, Note}
use Rattle.pure_check_work.specs.Method.Outcome.{IsOutcomeOf}
use Rattle.pure_check_work.specs.Method.declared.outcome.Outcome.{Outcome}
use Rattle.pure_check_work.specs.SessionLaws.Loaded.{IsLoadedSession}
use Rattle.pure_check_work.proofs.SessionLaws.OrderLaws.{loaded-in-order}
use Rattle.pure_check_work.proofs.SessionLaws.WellLaws.{loaded-well}
use Rattle.pure_check_work.specs.SessionMeaning.Statements.{forks_of, AreStatements}
use Rattle.pure_check_work.proofs.SessionMeaning.StatementLaws.{statements_once}
use Rattle.pure_check_work.specs.TheoryRun.Checked.{Checked}
use Rattle.pure_check_work.specs.TheoryRun.Outline.{Outline}
use Rattle.pure_check_work.specs.Table.Table.{Table, IsTable}
use Rattle.pure_check_work.proofs.Table.DerivedLaws.{table_is_derived}
use Rattle.pure_check_work.proofs.Table.PrintedLaws.{said_are_statements}
use Rattle.pure_machine.specs.Policy.{Policy}
use Rattle.pure_machine.specs.State.{Promise}
use Rattle.pure_machine.specs.Step.{value_of}
use Rattle.pure_core_end.specs.Promises.{AreInOrder}
use Rattle.pure_core_end.proofs.JoinLaws.{core-joined}
use Rattle.pure_board.specs.Boards.{Ending}
use Rattle.pure_policy_laws.specs.Heeded as heed
use Rattle.pure_policy.specs.Asked.{Asked}
use Rattle.pure_policy.specs.Policy.{policy_of}
use Rattle.pure_policy.proofs.PolicyLaws.{words_heeded}
use Rattle.pure_check_work.specs.Relations.{shape_of, ForksAfter, ClosesAfter, is_fault}
use Rattle.pure_check_work.specs.Boards.{IsBoardOf}
use Rattle.pure_check_work.specs.Cancelled.{lemmas_of}
use Rattle.pure_check_work.proofs.LeftLaws.{said-joined}
use Rattle.pure_check_work.specs.Heeded.{lot_of, gone_labels}
use Rattle.pure_check_work.proofs.HeedLaws.{board-legal, session_is_heeded}
use Rattle.pure_check.specs.declared.formed.Extent.{Extent}
use Rattle.pure_check.specs.Meaning.{IsToldSession, IsSessionAnswer}
use Rattle.pure_check.specs.Formed.{IsFormed, IsSaidTextOf, IsTextOf, IsTabled, Says}
use Rattle.pure_check.specs.declared.answer.Answer.{Answer}

-- The promises of the board, in load order, are of the lemmas that the session binds.
board-goals : (S : Session) → IsLoadedSession S.names S.theories → (policy : Policy) (workers : ℕ) (board : Ending Checked Fork Outline Outcome) → IsBoardOf S.names S.theories policy workers board → (ordered : List (Promise Fork Outcome)) → AreInOrder board.core.promises ordered
    → (notes : List Note) → AreStatements S.names S.theories notes → lemmas_of ordered ≡ forks_of notes
board-goals S loaded policy workers board is ordered in_order notes statements =
    let values = filter_map value_of board.core.theories in
    let legal = board-legal S.names S.theories loaded policy workers board is in
    let joined = core-joined (shape_of S.theories) (ForksAfter S.names S.theories) (ClosesAfter S.names S.theories) (IsOutcomeOf S.names) is_fault board.core legal is.executed.finished values ordered refl in_order in
    let said = said_are_statements S.names S.theories values (lemmas_of ordered) (said-joined S.names S.theories loaded values ordered joined) in
    said.2 ∙ ap forks_of (statements_once S.names S.theories loaded said.0 notes said.1 statements)

-- What comes of a session on a board is what was asked of it.
text-of : (asked : Asked) (S : Session) → IsLoadedSession S.names S.theories → (board : Ending Checked Fork Outline Outcome) → IsBoardOf S.names S.theories (policy_of S.theories asked) asked.workers board
    → (extent : Extent) (text : List ℕ) (clean : Bool) → IsFormed S board.core.promises extent text clean → IsTextOf S asked extent (Some board) text clean
text-of asked S loaded board is extent text clean formed =
    let law = session_is_heeded S.names S.theories loaded (policy_of S.theories asked) asked.workers board is formed.ordered formed.in_order in
    record {
      table = formed.table;
      board = board;
      is_run = refl;
      is_table = subst (λ K. IsTable S K formed.table) (sym (ap gone_labels formed.entries ∙ law.1)) formed.is_table;
      heeded = words_heeded S.theories loaded.distinct asked (map lot_of formed.table.entries) (subst (λ es. heed.IsHeeded (policy_of S.theories asked) asked.workers (map lot_of es)) (sym formed.entries) law.0);
      run_of = record { is_board = is; ordered = formed.ordered; in_order = formed.in_order; goals = board-goals S loaded (policy_of S.theories asked) asked.workers board is formed.ordered formed.in_order formed.table.notes formed.is_table.statements; entries = formed.entries };
      says = formed.says;
    }

-- What the checker's calls gave one after the other is what was asked of the session.
pub ran-text : (asked : Asked) (names : List (List ℕ)) (theories lent : List Loaded) → lent ≡ theories → IsLoadedSession names theories → (work : Checked) → work ≡ record { texts = names; theories = theories }
    → (policy : Policy) → policy ≡ policy_of lent asked → (board : Ending Checked Fork Outline Outcome) → IsBoardOf work.texts work.theories policy asked.workers board
    → (extent : Extent) (seen : List Shown) (files : ℕ) (text : List ℕ) (clean : Bool)
    → ((S : Session) → S.names ≡ work.texts → S.theories ≡ work.theories → seen ≡ map shown S.refused → S.files ≡ files → IsFormed S board.core.promises extent text clean)
    → (S : Session) → S.names ≡ names → S.theories ≡ theories → seen ≡ map shown S.refused → S.files ≡ files → IsTextOf S asked extent (Some board) text clean
ran-text asked names theories lent lent_is loaded work work_is policy policy_is board is extent seen files text clean formed S of_names of_theories of_refused of_files =
    let texts : S.names ≡ work.texts = of_names ∙ sym (ap (λ (C : Checked). C.texts) work_is) in
    let same : S.theories ≡ work.theories = of_theories ∙ sym (ap (λ (C : Checked). C.theories) work_is) in
    let here : IsLoadedSession S.names S.theories = subst (λ ns. IsLoadedSession ns S.theories) (sym of_names) (subst (IsLoadedSession names) (sym of_theories) loaded) in
    let meant : policy ≡ policy_of S.theories asked = policy_is ∙ ap (λ ts. policy_of ts asked) (lent_is ∙ sym of_theories) in
    let board_of : IsBoardOf S.names S.theories (policy_of S.theories asked) asked.workers board =
    subst (λ p. IsBoardOf S.names S.theories p asked.workers board) meant
    (subst (λ ts. IsBoardOf S.names ts policy asked.workers board) (sym same) (subst (λ ns. IsBoardOf ns work.theories policy asked.workers board) (sym texts) is)) in
    text-of asked S here board board_of extent text clean (formed S texts same of_refused of_files)

-- What is said of a session that was loaded of a library is the answer.
pub session-answer : (told : Option (List library.File)) (S : Session) → IsToldSession told S → IsLoadedSession S.names S.theories → (asked : Asked) (Said : Session → Table → List ℕ → Bool → Type 0) (run : Option (Ending Checked Fork Outline Outcome)) (text : List ℕ) (clean : Bool)
    → IsSaidTextOf Said S asked run text clean → IsSessionAnswer Said asked told run text clean
session-answer told S session loaded asked Said run text clean of = record {
  session = S;
  table = of.table;
  board = of.board;
  is_run = of.is_run;
  checked = record {
    session = session;
    loaded = loaded;
    table = of.is_table;
    heeded = of.heeded;
    derived = table_is_derived S loaded (gone_labels of.table.entries) of.table of.is_table;
    run_of = of.run_of;
  };
  says = of.says;
}

pub tabled : (told : Option (List library.File)) (S : Session) → IsToldSession told S → IsLoadedSession S.names S.theories → (asked : Asked) (extent : Extent) (r : Result Answer LoadFault)
    → IfOk r (λ a. IsTextOf S asked extent a.run a.formed.text a.formed.clean) → IsTabled extent asked told r
tabled told S session loaded asked extent (Ok a) of = session-answer told S session loaded asked (Says extent) a.run a.formed.text a.formed.clean of
tabled told S session loaded asked extent (Err fault) of = tt

-- What holds of each session that the program's one shows, of an answer.
pub at-session : (S : Session) (IsSeen : Session → Type 0) → IsSeen S → (asked : Asked) (extent : Extent) (r : Result Answer LoadFault) → IfOk r (λ a. (R : Session) → IsSeen R → IsTextOf R asked extent a.run a.formed.text a.formed.clean)
    → IfOk r (λ a. IsTextOf S asked extent a.run a.formed.text a.formed.clean)
at-session S IsSeen is asked extent (Ok a) all = all S is
at-session S IsSeen is asked extent (Err fault) all = tt

-- what was loaded of a library, as a session
abbrev pub session_of : {told : Option (List library.File)} {theories : List Loaded} {refused : List Shown} {files : ℕ} → (texts : List (List ℕ)) → AreTheoriesOf told theories refused files → Session
session_of {told} {theories} {refused} {files} texts of = record { names = texts; theories = theories; refused = of.refusals; files = files }

pub told_session : (told : Option (List library.File)) (theories : List Loaded) (refused : List Shown) (files : ℕ) (texts : List (List ℕ)) (of : AreTheoriesOf told theories refused files) → AreNames theories texts
    → IsToldSession told (session_of texts of)
told_session told theories refused files texts of named = record {
  names = of.names;
  theories = of.listed_theories;
  tells = of.tells;
  listed = of.listed;
  answers = of.answers;
  of_theories = of.of_theories;
  tells_answers = of.tells_answers;
  session = record { loading = of.loading; named = named };
}

-- What was loaded of a library is what those who check it ask.
pub loaded_session : (told : Option (List library.File)) (theories : List Loaded) (refused : List Shown) (files : ℕ) (texts : List (List ℕ)) → AreTheoriesOf told theories refused files → AreNames theories texts → AreSessionTexts texts
    → IsLoadedSession texts theories
loaded_session told theories refused files texts of named session =
    let order = loaded-in-order of.answers theories of.refusals files of.loading in
    record {
      names = session;
      well = loaded-well of.answers theories of.refusals files of.loading texts named;
      distinct = order.names;
      parents = λ place theory is. (order.parents place theory is).earlier;
    }
