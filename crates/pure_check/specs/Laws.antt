-- Laws of words, of what `pure` says of a check and of a generated library, and of what a lemma rests on.
use Rattle.std.specs.Prelude.{◌≡◌, ◌≢◌, ◌++◌, ℕ, Bool, true, false, List, Option, Some, None, is_some, map}
use Rattle.std.specs.List.{flat_map}
use Rattle.pure_text.specs.Lists.{IsIn, AnyOf}
use Rattle.pure_definitions.specs.Terms.Term.{Term}
use Rattle.pure_typ.specs.NameTexts.{HasText}
use Rattle.pure_logic.specs.Content.{Content}
use Rattle.pure_logic.specs.Derivable.{IsDerivableAlone}
use Rattle.pure_io.specs.declared.library.File as library
use Rattle.pure_io.specs.Outside.{Rose}
use Rattle.pure_print.specs.declared.row.Row.{Row}
use Rattle.pure_print.specs.declared.row.RowStatus.TheVariants.{Proved}
use Rattle.pure_print.specs.RowText.{row_text}
use Rattle.pure_print.specs.TermText.{term_text}
use Rattle.pure_graph.specs.Session.{Session}
use Rattle.pure_words.specs.declared.job.Job.{Job}
use Rattle.pure_words.specs.declared.job.Job.TheVariants.{Axioms}
use Rattle.pure_words.specs.Words.{IsJob}
use Rattle.pure_check_work.specs.Declare.Notes.{Fork}
use Rattle.pure_check_work.specs.Method.declared.outcome.Outcome.{Outcome}
use Rattle.pure_check_work.specs.Promise.RowText.{colon}
use Rattle.pure_check_work.specs.SessionMeaning.Statements.{forks_of}
use Rattle.pure_check_work.specs.Table.Table.{Table, table_rows}
use Rattle.pure_check_work.specs.TheoryRun.Checked.{Checked}
use Rattle.pure_check_work.specs.TheoryRun.Outline.{Outline}
use Rattle.pure_board.specs.Boards.{Ending}
use Rattle.pure_citations.specs.Heads.{Picks, IsTextOf}
use Rattle.pure_citations.specs.Listed.{is_proved, own_row, no_lemma, IsListed}
use Rattle.pure_citations.specs.Rowed.{Declares, IsListedFor, IsAxiomLedTo, IsFaultLedTo}
use Rattle.pure_citations.specs.Without.{with_axioms}
use Rattle.pure_find.specs.Facts as found
use Rattle.pure_try.specs.Methods as tried
use Rattle.pure_check.specs.Answer.{WroteAnswer, OnSilent, IsComplete}
use Rattle.pure_check.specs.Asked.{IsTaken, IsLooking, IsMeantBy}
use Rattle.pure_check.specs.JobAnswers.{IsInRange, IsAnswer}
use Rattle.pure_check.specs.Meaning.{IsCheckedSession, IsSessionAnswer, asked_for}
use Rattle.pure_check.specs.Tables.{IsMeant, Wrote, has_run, IsCheck, IsGenerate}
use Rattle.pure_check.specs.declared.status.Status.{Status}
use Rattle.pure_check.specs.declared.status.Status.TheVariants.{ReadFault}

-- The numbers of a job that words ask for are in range.
abbrev pub JobInRange : Type 0
JobInRange = (words : List (List ℕ)) (job : Job) → IsJob words job → IsInRange job

-- What `pure` says of every job, in the clauses that the job makes a difference to: the library was untouched, its or the sink's count of faults rose, and what was written before and after.
pub record HasAnswered (told : Option (List library.File)) (words : List (List ℕ)) (status : Status) (run : Option (Ending Checked Fork Outline Outcome)) (IsUntouched ReadRose WriteRose : Type 0) (old new : Option (List ℕ)) : Type 0 where
  pub unlooked : ¬ IsLooking words → IsUntouched
  pub unread : ¬ IsLooking words → status ≢ ReadFault
  pub wrote : WroteAnswer status (IsMeantBy words told run) old new
  pub ran : OnSilent status (run ≡ None)
  pub complete : IsTaken words → (IsLooking words → ¬ ReadRose) → ¬ WriteRose → IsComplete status

-- The same where a check and a generated library are the only jobs: of a table, and of the board on which it came about.
pub record HasPrinted (told : Option (List library.File)) (words : List (List ℕ)) (status : Status) (run : Option (Ending Checked Fork Outline Outcome)) (IsUntouched ReadRose WriteRose : Type 0) (old new : Option (List ℕ)) : Type 0 where
  pub unlooked : ¬ IsCheck words → IsUntouched
  pub unread : ¬ IsCheck words → status ≢ ReadFault
  pub wrote : Wrote status (IsMeant told words run) old new
  pub ran : is_some run ≡ has_run status
  pub complete : IsTaken words → (IsCheck words → ¬ ReadRose) → ¬ WriteRose → IsComplete status

-- Of these words, what is said of every job says what is said where a check and a generated library are the only jobs; the library may be of any type.
abbrev pub SaysAsMuch : (L : Type 0) → (words : List (List ℕ)) → Type 0
SaysAsMuch L words = (told : Option (List library.File)) (status : Status) (run : Option (Ending Checked Fork Outline Outcome)) (before after : L) (reads reads_now writes writes_now : ℕ) (old new : Option (List ℕ))
    → HasAnswered told words status run (after ≡ before) (Rose reads reads_now) (Rose writes writes_now) old new
    → HasPrinted told words status run (after ≡ before) (Rose reads reads_now) (Rose writes writes_now) old new

-- So it is of words that ask for a check,
abbrev pub CheckMeans : (L : Type 0) → Type 0
CheckMeans L = (words : List (List ℕ)) → IsCheck words → SaysAsMuch L words

-- and of words that ask for a generated library.
abbrev pub GenerateMeans : (L : Type 0) → Type 0
GenerateMeans L = (words : List (List ℕ)) → IsGenerate words → SaysAsMuch L words

-- the row of the proved lemma with this full name, which says its statement
abbrev pub proved_row : (texts : List (List ℕ)) → (name : List ℕ) → (statement : Term) → Row
proved_row texts name statement = record { status = Proved; head = name; tail = colon ++ term_text texts statement }

-- The statement is derivable alone over the content without the theories' axioms, facts of definitions among them, that none of these rows declares: whatever list has the names of those that they declare.
abbrev pub IsDerivableByRows : (texts : List (List ℕ)) → Fork → (rows : List Row) → Type 0
IsDerivableByRows texts f rows = (names : List ℕ) → ((n : ℕ) → AnyOf (Declares texts n) rows → IsIn n names) → IsDerivableAlone (with_axioms names f.content) f.prop

-- A session of these files was checked, and it binds a lemma with this full name; the text has the rows that are listed for the lemma, and last the one that says that its statement is proved; and this is derivable by the listed rows.
pub record RestsOnListed (files : Option (List library.File)) (workers : ℕ) (name : List ℕ) (run : Option (Ending Checked Fork Outline Outcome)) (text : List ℕ) : Type 0 where
  pub session : Session
  pub table : Table
  pub board : Ending Checked Fork Outline Outcome
  pub is_run : run ≡ Some board
  pub checked : IsCheckedSession files (asked_for workers) board session table
  pub lemma : Fork
  pub stands : IsIn lemma (forks_of table.notes)
  pub named : HasText session.names lemma.name name
  pub listed : List Row
  pub picks : Picks (IsListedFor session table name) (table_rows session table) listed
  pub text_is : text ≡ flat_map row_text listed ++ row_text (proved_row session.names name lemma.prop)
  pub derivable : IsDerivableByRows session.names lemma listed

-- Where the answer on what a lemma rests on is clean, the lemma of this name is proved, and rests on what is listed.
abbrev pub AxiomsSuffice : Type 0
AxiomsSuffice = (workers : ℕ) (name : List ℕ) (told : Option (List library.File)) (run : Option (Ending Checked Fork Outline Outcome)) (text : List ℕ)
    → IsAnswer (Axioms workers name) told run text true → RestsOnListed told workers name run text

-- The text has the rows of the axioms, the definitions and the failed lemmas of other names to which edges lead from the lemma with this full name, as the session's graph has them, in the order of the table; last comes this row of its own. Where there is none, it says so.
abbrev pub SaysLedWith : (name : List ℕ) → Session → Table → Option Row → (text : List ℕ) → (clean : Bool) → Type 0
SaysLedWith name S t None text clean = (text ≡ no_lemma) × (clean ≡ false)
SaysLedWith name S t (Some own) text clean =
    (before : List ℕ) × IsTextOf row_text (IsListed S.names (IsAxiomLedTo S t name) (IsFaultLedTo S t name) name) (table_rows S t) before × (text ≡ before ++ row_text own) × (clean ≡ is_proved own.status)

abbrev pub SaysLed : (name : List ℕ) → Session → Table → (text : List ℕ) → (clean : Bool) → Type 0
SaysLed name S t text clean = SaysLedWith name S t (own_row name (table_rows S t)) text clean

-- The answer on what a lemma rests on lists just what edges lead to.
abbrev pub AxiomsAreLedTo : Type 0
AxiomsAreLedTo = (workers : ℕ) (name : List ℕ) (told : Option (List library.File)) (run : Option (Ending Checked Fork Outline Outcome)) (text : List ℕ) (clean : Bool)
    → IsAnswer (Axioms workers name) told run text clean → IsSessionAnswer (SaysLed name) (asked_for workers) told run text clean

-- Finding asks the facts by which trying is done, in the same order.
abbrev pub FindAsksTried : Type 0
FindAsksTried = (texts : List (List ℕ)) (Q : Content) → map found.Fact.name (found.facts_of texts Q) ≡ tried.facts_of texts Q
