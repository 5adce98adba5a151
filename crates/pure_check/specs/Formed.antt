-- What a session that was loaded comes to.
use Rattle.std.specs.Prelude.{◌≡◌, ℕ, Bool, List, map, Option, Some, None, Result, Ok, Err}
use Rattle.std.specs.List.{list_all}
use Rattle.pure_io.specs.declared.library.File as library
use Rattle.pure_definitions.specs.Names.{Label}
use Rattle.pure_graph.specs.Session.{Session, shown}
use Rattle.pure_graph.specs.declared.fault.LoadFault.{LoadFault}
use Rattle.pure_print.specs.RowText.{total_line, table_text}
use Rattle.pure_print.specs.declared.row.Row.{Row}
use Rattle.pure_session.specs.Refused.{all_refused}
use Rattle.pure_session.specs.Waiting.{all_loaded}
use Rattle.pure_session.specs.declared.session.Session as code
use Rattle.pure_check_work.specs.Table.Table.{Table, IsTable, table_rows}
use Rattle.pure_words.specs.declared.job.Job.{Job}
use Rattle.pure_check.specs.declared.formed.Extent.{Extent}
use Rattle.pure_check.specs.declared.formed.Extent.TheVariants.{Whole, LastLine, Placed, Axioms, Graph}
use Rattle.pure_citations.specs.Listed.{IsSaidOf}
use Rattle.pure_citations.specs.Cited.{AreInSession, AreBeside}
use Rattle.pure_citations.specs.Drawn.{AreNamedRests, IsDrawing}
use Rattle.pure_check_work.specs.Declare.Notes.{Fork}
use Rattle.pure_check_work.specs.Promise.Entries.{LemmaEntry}
use Rattle.pure_check_work.specs.SessionMeaning.Statements.{forks_of}
use Rattle.pure_check_work.specs.Method.declared.outcome.Outcome.{Outcome}
use Rattle.pure_check_work.specs.TheoryRun.Checked.{Checked}
use Rattle.pure_check_work.specs.TheoryRun.Outline.{Outline}
use Rattle.pure_machine.specs.State.{Promise}
use Rattle.pure_core_end.specs.Promises.{AreInOrder}
use Rattle.pure_board.specs.Boards.{Ending}
use Rattle.pure_policy.specs.Heeded.{IsPolicyHeeded}
use Rattle.pure_check_work.specs.Cancelled.{cancelled_labels, entries_of}
use Rattle.pure_check_work.specs.Heeded.{lot_of, gone_labels}
use Rattle.pure_policy.specs.Asked.{Asked}
use Rattle.pure_graph.specs.Order.{Loaded}
use Rattle.pure_find.specs.Answers as found_lemma
use Rattle.pure_show.specs.Answers as shown_lemma
use Rattle.pure_try.specs.Answers as said
use Rattle.pure_try.specs.Answers.{is_found, line_of}
use Rattle.pure_try.specs.declared.answer.Answer as tried
use Rattle.pure_check.specs.JobAnswers.{IsAnswer}
use Rattle.pure_row_places.specs.Scans.{seen_scans, seen_refusals}
use Rattle.pure_check.specs.Jobs.Places.{places_text}
use Rattle.pure_check.specs.Jobs.Graph.{SaysGraph}
use Rattle.pure_check.specs.Meaning.{IsRunOf, IsSessionAnswer, asked_for, is_good}
use Rattle.pure_check.specs.declared.answer.Answer.{Answer}
use Rattle.pure_check.specs.declared.tables.Asking.{Asking}

-- The program's session is this one; of a refused file it holds the reason's text.
pub record IsSeenSession (S : Session) (s : code.Session) : Type 0 where
  pub names : S.names ≡ s.names
  pub theories : S.theories ≡ all_loaded s.theories.items
  pub refused : all_refused s.refused.items ≡ map shown S.refused
  pub files : S.files ≡ s.files

-- The text is this, and this says whether each row is declared or proved.
abbrev pub IsTextOfRows : (rows : List Row) → (meant text : List ℕ) → (clean : Bool) → Type 0
IsTextOfRows rows meant text clean = (text ≡ meant) × (list_all is_good rows ≡ clean)

-- It is what is asked for of a table of these rows, for so many files, with these lemmas and their entries: the whole text, its last line, the text with the places of the rows, what is said of a lemma, or the graph; and whether that is clean.
abbrev pub SaysOf : Extent → (texts : List (List ℕ)) → List Fork → List LemmaEntry → (files : ℕ) → List Row → (text : List ℕ) → (clean : Bool) → Type 0
SaysOf Whole texts fs es files rows text clean = IsTextOfRows rows (table_text files rows) text clean
SaysOf LastLine texts fs es files rows text clean = IsTextOfRows rows (total_line files rows) text clean
SaysOf (Placed theories refused) texts fs es files rows text clean = IsTextOfRows rows (places_text (seen_scans theories.now) (seen_refusals refused.now) files rows) text clean
SaysOf (Axioms name) texts fs es files rows text clean = IsSaidOf texts fs es rows name.now text clean
SaysOf (Graph theories) texts fs es files rows text clean = IsDrawing texts theories.now fs es rows text × (list_all is_good rows ≡ clean)

-- It is what is asked for of a session's table, and whether that is clean.
abbrev pub Says : Extent → Session → Table → (text : List ℕ) → (clean : Bool) → Type 0
Says extent S t text clean = SaysOf extent S.names (forks_of t.notes) t.entries S.files (table_rows S t) text clean

-- what is known of the lemmas and their entries
pub record ArePremises (texts : List (List ℕ)) (fs : List Fork) (es : List LemmaEntry) : Type 0 where
  pub session : AreInSession texts fs
  pub beside : AreBeside fs es
  pub rests : AreNamedRests texts fs es

-- The session comes to a table with these entries of its lemmas, of which, by these texts of names and these lemmas, this is what is asked for, and whether that is clean.
pub record IsFormedTable (S : Session) (cancelled : List Label) (texts : List (List ℕ)) (fs : List Fork) (es : List LemmaEntry) (extent : Extent) (files : ℕ) (text : List ℕ) (clean : Bool) : Type 0 where
  pub table : Table
  pub is_table : IsTable S cancelled table
  pub entries_are : table.entries ≡ es
  pub says : SaysOf extent texts fs es files (table_rows S table) text clean

-- By these promises of a finished core the session comes to a table, of which this is what is asked for, and whether that is clean.
pub record IsFormed (S : Session) (promises : List (Promise Fork Outcome)) (extent : Extent) (text : List ℕ) (clean : Bool) : Type 0 where
  pub table : Table
  pub ordered : List (Promise Fork Outcome)
  pub in_order : AreInOrder promises ordered
  pub entries : table.entries ≡ entries_of ordered
  pub is_table : IsTable S (cancelled_labels ordered) table
  pub says : Says extent S table text clean

-- how theories are to be checked, as the program holds it
abbrev pub asked_by : Asking → Asked
asked_by asking = record { workers = asking.workers; fail_fast = asking.fail_fast; cancels = asking.cancels.now }

-- The session was checked as was asked on the board that is handed out, and this is said of its table: what is asked for, and whether that is clean.
pub record IsSaidTextOf (Says : Session → Table → List ℕ → Bool → Type 0) (S : Session) (asked : Asked) (run : Option (Ending Checked Fork Outline Outcome)) (text : List ℕ) (clean : Bool) : Type 0 where
  pub table : Table
  pub board : Ending Checked Fork Outline Outcome
  pub is_run : run ≡ Some board
  pub is_table : IsTable S (gone_labels table.entries) table
  pub heeded : IsPolicyHeeded S.theories asked (map lot_of table.entries)
  pub run_of : IsRunOf S asked table board
  pub says : Says S table text clean

abbrev pub IsTextOf : (S : Session) → (asked : Asked) → Extent → (run : Option (Ending Checked Fork Outline Outcome)) → (text : List ℕ) → (clean : Bool) → Type 0
IsTextOf S asked extent run text clean = IsSaidTextOf (Says extent) S asked run text clean

-- The session was checked on the board that is handed out: this is its graph, and this says whether each row is declared or proved.
abbrev pub IsGraphTextOf : (S : Session) → (workers : ℕ) → (run : Option (Ending Checked Fork Outline Outcome)) → (text : List ℕ) → (clean : Bool) → Type 0
IsGraphTextOf S workers run text clean = IsSaidTextOf SaysGraph S (asked_for workers) run text clean

-- The line and whether it is clean are what comes of trying on the session's lemma with this name, and no board is handed out.
pub record IsLineOf (texts : List (List ℕ)) (theories : List Loaded) (name : List ℕ) (a : Answer) : Type 0 where
  pub answer : tried.Answer
  pub is_answer : said.IsAnswer texts theories name answer
  pub no_board : a.run ≡ None
  pub text_is : a.formed.text ≡ line_of name answer
  pub clean_is : a.formed.clean ≡ is_found answer

-- The text shows the session's lemma with this name, and no board is handed out.
abbrev pub IsShownSo : (texts : List (List ℕ)) → (theories : List Loaded) → (name : List ℕ) → Answer → Type 0
IsShownSo texts theories name a = shown_lemma.IsAnswer texts theories name a.formed.text a.formed.clean × (a.run ≡ None)

-- The text says of which facts the statement of the session's lemma with this name is an instance, and no board is handed out.
abbrev pub IsFoundSo : (texts : List (List ℕ)) → (theories : List Loaded) → (name : List ℕ) → Answer → Type 0
IsFoundSo texts theories name a = found_lemma.IsAnswer texts theories name a.formed.text a.formed.clean × (a.run ≡ None)

-- Where the files could be read and memory sufficed, this is what is asked for of a table.
abbrev pub IsTabled : Extent → Asked → (files : Option (List library.File)) → Result Answer LoadFault → Type 0
IsTabled extent asked files (Ok a) = IsSessionAnswer (Says extent) asked files a.run a.formed.text a.formed.clean
IsTabled extent asked files (Err fault) = Unit {0}

-- Where the job was done, this is its answer.
abbrev pub IsDone : Job → (told : Option (List library.File)) → Result Answer LoadFault → Type 0
IsDone job told (Ok a) = IsAnswer job told a.run a.formed.text a.formed.clean
IsDone job told (Err fault) = Unit {0}

-- It is the answer's board, its text, and whether that is clean.
pub record IsGiven (answer : Answer) (run : Option (Ending Checked Fork Outline Outcome)) (text : List ℕ) (clean : Bool) : Type 0 where
  pub run_is : answer.run ≡ run
  pub text_is : answer.formed.text ≡ text
  pub clean_is : answer.formed.clean ≡ clean
