-- From the answer of a table to that of a job, and from a job's answer to what is written.
use Rattle.std.proofs.Common.{◌≡◌, ◌≢◌, ℕ, Bool, true, false, List, [], refl, sym, ◌∙◌, subst, Option, Some, Result, Ok, Err, IfOk}
use Rattle.std.specs.Borrow.{Bor}
use Rattle.std.specs.List.{list_all}
use Rattle.pure_io.specs.declared.library.File as library
use Rattle.pure_io.specs.Outside.{Appends, AppendsProperPrefix}
use Rattle.pure_gen.specs.Generated.{files_of}
use Rattle.pure_graph.specs.Session.{Session}
use Rattle.pure_graph.specs.declared.fault.LoadFault.{LoadFault}
use Rattle.pure_words.specs.Words.{IsJob}
use Rattle.pure_words.specs.declared.job.CancelWord.{CancelWord}
use Rattle.pure_words.specs.declared.job.Job.{Job}
use Rattle.pure_words.specs.declared.job.Job.TheVariants.{Check, Generate}
use Rattle.pure_words.specs.declared.job.Job.TheVariants as job
use Rattle.pure_check_work.specs.Declare.Notes.{Fork}
use Rattle.pure_check_work.specs.Method.declared.outcome.Outcome.{Outcome}
use Rattle.pure_check_work.specs.SessionLaws.Loaded.{IsLoadedSession}
use Rattle.pure_check_work.specs.Table.Table.{Table, table_rows, session_text}
use Rattle.pure_check_work.specs.TheoryRun.Checked.{Checked}
use Rattle.pure_check_work.specs.TheoryRun.Outline.{Outline}
use Rattle.pure_board.specs.Boards.{Ending}
use Rattle.pure_policy.specs.Asked.{Asked}
use Rattle.pure_check.specs.Answer.{WroteAll, WrotePart, WroteAnswer, IsComplete}
use Rattle.pure_check.specs.Asked.{IsLooking, IsMeantBy}
use Rattle.pure_check.specs.Formed.{IsTabled, IsDone, IsGiven, IsGraphTextOf, Says}
use Rattle.pure_check.specs.Jobs.Graph.{SaysGraph}
use Rattle.pure_check.proofs.AnswerLemmas.{session-answer}
use Rattle.pure_check.specs.JobAnswers.{IsAnswer, is_looking_job}
use Rattle.pure_check.specs.Jobs.Generate.{last_line}
use Rattle.pure_check.specs.Meaning.{IsToldSession, IsTableAnswer, IsSessionAnswer, asked_for, is_good}
use Rattle.pure_check.specs.declared.answer.Answer.{Answer}
use Rattle.pure_check.specs.declared.formed.Extent.{Extent}
use Rattle.pure_check.specs.declared.formed.Extent.TheVariants.{Whole, LastLine, Axioms}
use Rattle.pure_check.specs.declared.status.Status.{Status}
use Rattle.pure_check.specs.declared.status.Status.TheVariants.{Clean, Rows, Usage, ReadFault, WriteFault, Memory}

-- What is said of a session, where that is the text of its table.
tabled : (extent : Extent) (text_of : Session → Table → List ℕ) → ((S : Session) (t : Table) (text : List ℕ) (clean : Bool) → Says extent S t text clean → (text ≡ text_of S t) × (list_all is_good (table_rows S t) ≡ clean))
    → (asked : Asked) (files : Option (List library.File)) (run : Option (Ending Checked Fork Outline Outcome)) (text : List ℕ) (clean : Bool) → IsSessionAnswer (Says extent) asked files run text clean → IsTableAnswer text_of asked files run text clean
tabled extent text_of says asked files run text clean a =
    let said = says a.session a.table text clean a.says in
    record { session = a.session; table = a.table; board = a.board; is_run = a.is_run; checked = a.checked; text_is = said.0; clean_is = said.1 }

-- The answer of a whole table is that of a check,
pub check-done : (workers : ℕ) (fail_fast : Bool) (cancels lent : List CancelWord) → lent ≡ cancels → (told : Option (List library.File)) (r : Result Answer LoadFault)
    → IsTabled Whole (record { workers = workers; fail_fast = fail_fast; cancels = lent }) told r → IsDone (Check workers fail_fast cancels) told r
check-done workers fail_fast cancels lent same told (Ok a) is =
    subst (λ cs. IsDone (Check workers fail_fast cs) told (Ok a)) same
    (tabled Whole session_text (λ S t text clean said. said) (record { workers = workers; fail_fast = fail_fast; cancels = lent }) told a.run a.formed.text a.formed.clean is)
check-done workers fail_fast cancels lent same told (Err fault) is = tt

-- and that of the last line that of a generated library.
pub generate-done : (workers start theories lemmas : ℕ) (made : List library.File) → made ≡ files_of start theories lemmas → (told : Option (List library.File)) (r : Result Answer LoadFault)
    → IsTabled LastLine (record { workers = workers; fail_fast = false; cancels = [] }) (Some made) r → IsDone (Generate workers start theories lemmas) told r
generate-done workers start theories lemmas made same told (Ok a) is =
    tabled LastLine last_line (λ S t text clean said. said) (record { workers = workers; fail_fast = false; cancels = [] }) (Some (files_of start theories lemmas)) a.run a.formed.text a.formed.clean
    (subst (λ files. IsTabled LastLine (record { workers = workers; fail_fast = false; cancels = [] }) (Some files) (Ok a)) same is)
generate-done workers start theories lemmas made same told (Err fault) is = tt

-- What is said of a lemma is the answer of `axioms`.
pub axioms-done : (workers : ℕ) (name : List ℕ) (lent : Bor (List ℕ)) → lent.now ≡ name → (extent : Extent) → extent ≡ Axioms lent → (told : Option (List library.File)) (r : Result Answer LoadFault)
    → IsTabled extent (asked_for workers) told r → IsDone (job.Axioms workers name) told r
axioms-done workers name lent same extent is told (Ok a) h =
    subst (λ n. IsDone (job.Axioms workers n) told (Ok a)) same (subst (λ e. IsTabled e (asked_for workers) told (Ok a)) is h)
axioms-done workers name lent same extent is told (Err fault) h = tt

-- The graph of a session that was loaded of a library is the answer of `graph`.
pub graph-done : (told : Option (List library.File)) (S : Session) → IsToldSession told S → IsLoadedSession S.names S.theories → (workers : ℕ) (IsSeen : Session → Type 0) → IsSeen S
    → (a : Result Answer LoadFault) → IfOk a (λ a. (R : Session) → IsSeen R → IsGraphTextOf R workers a.run a.formed.text a.formed.clean) → IsDone (job.Graph workers) told a
graph-done told S session loaded workers IsSeen is (Ok a) all = session-answer told S session loaded (asked_for workers) SaysGraph a.run a.formed.text a.formed.clean (all S is)
graph-done told S session loaded workers IsSeen is (Err fault) all = tt

-- A job that speaks of none of the library's files is done whatever the library tells.
pub done-by : (job own : Job) → job ≡ own → (told : Option (List library.File)) (r : Result Answer LoadFault) → ((files : Option (List library.File)) → IsDone own files r) → IsDone job told r
done-by job own is told r done = subst (λ j. IsDone j told r) (sym is) (done told)

-- What is written of the answer is what the job answers.
pub given : (job : Job) (told : Option (List library.File)) (a : Answer) → IsAnswer job told a.run a.formed.text a.formed.clean → (run : Option (Ending Checked Fork Outline Outcome)) (text : List ℕ) (clean : Bool) → IsGiven a run text clean
    → IsAnswer job told run text clean
given job told a is run text clean of =
    subst (λ r. IsAnswer job told r text clean) of.run_is (subst (λ t. IsAnswer job told a.run t clean) of.text_is (subst (IsAnswer job told a.run a.formed.text) of.clean_is is))

pub meant : (words : List (List ℕ)) (told : Option (List library.File)) (job : Job) → IsJob words job → (run : Option (Ending Checked Fork Outline Outcome)) (text : List ℕ) (clean : Bool) → IsAnswer job told run text clean → IsMeantBy words told run text clean
meant words told job is run text clean answer = record { job = job; is_job = is; answer = answer }

-- a meaning of a text, and whether that is clean
abbrev Means : Type 1
Means = List ℕ → Bool → Type 0

pub wrote-weaker : (status : Status) (P Q : Means) (old new : Option (List ℕ)) → ((text : List ℕ) (clean : Bool) → P text clean → Q text clean) → WroteAnswer status P old new → WroteAnswer status Q old new
wrote-weaker Clean P Q old new weaker w = record { text = w.text; meaning = weaker w.text true w.meaning; written = w.written }
wrote-weaker Rows P Q old new weaker w = record { text = w.text; meaning = weaker w.text false w.meaning; written = w.written }
wrote-weaker WriteFault P Q old new weaker w = record { text = w.text; clean = w.clean; meaning = weaker w.text w.clean w.meaning; written = w.written }
wrote-weaker Usage P Q old new weaker w = w
wrote-weaker ReadFault P Q old new weaker w = w
wrote-weaker Memory P Q old new weaker w = w

-- The answer's text was written, or a part of it.
pub all-written : (a : Answer) (run : Option (Ending Checked Fork Outline Outcome)) (bytes : List ℕ) (clean : Bool) (old new : Option (List ℕ)) → run ≡ a.run → a.formed.clean ≡ clean → bytes ≡ a.formed.text → Appends old new bytes
    → WroteAll (IsGiven a run) clean old new
all-written a run bytes clean old new run_is clean_is same appended =
    record { text = bytes; meaning = record { run_is = sym run_is; text_is = sym same; clean_is = clean_is }; written = appended }

pub part-written : (a : Answer) (run : Option (Ending Checked Fork Outline Outcome)) (bytes : List ℕ) (old new : Option (List ℕ)) → run ≡ a.run → bytes ≡ a.formed.text → AppendsProperPrefix old new bytes
    → WrotePart (IsGiven a run) old new
part-written a run bytes old new run_is same appended =
    record { text = bytes; clean = a.formed.clean; meaning = record { run_is = sym run_is; text_is = sym same; clean_is = refl }; written = appended }

-- Words that ask for no job that looks ask for one that doesn't.
pub not-looking : (words : List (List ℕ)) (job : Job) → IsJob words job → (IsLooking words → ⊥) → is_looking_job job ≡ false
not-looking words job is denied = by (is_looking_job job) refl
  where
    by : (looks : Bool) → is_looking_job job ≡ looks → looks ≡ false
    by true same = absurd (denied (record { job = job; is_job = is; looks = same }))
    by false same = refl

-- Where no fault is to blame, the work was done to its end, or memory ran out.
pub complete-by : (status : Status) (IsAsked ReadRose WriteRose : Type 0) → status ≢ Usage → (status ≡ ReadFault → ReadRose) → (status ≡ WriteFault → WriteRose) → (¬ IsAsked → status ≢ ReadFault) → (IsAsked → ¬ ReadRose) → ¬ WriteRose → IsComplete status
complete-by Clean IsAsked ReadRose WriteRose usage read_fault write_fault unread read written = tt
complete-by Rows IsAsked ReadRose WriteRose usage read_fault write_fault unread read written = tt
complete-by Usage IsAsked ReadRose WriteRose usage read_fault write_fault unread read written = usage refl
complete-by ReadFault IsAsked ReadRose WriteRose usage read_fault write_fault unread read written = unread (λ asked. read asked (read_fault refl)) refl
complete-by WriteFault IsAsked ReadRose WriteRose usage read_fault write_fault unread read written = written (write_fault refl)
complete-by Memory IsAsked ReadRose WriteRose usage read_fault write_fault unread read written = tt
