-- What is said of every job says of a check, and of a generated library, what is said of a table.
use Rattle.std.proofs.Common.{◌≡◌, ℕ, Bool, true, false, List, refl, sym, ◌∙◌, ap, subst, true≢false, Option, None}
use Rattle.std.specs.Prelude.{is_some}
use Rattle.std.specs.List.{list_all}
use Rattle.pure_io.specs.declared.library.File as library
use Rattle.pure_graph.specs.Session.{Session}
use Rattle.pure_words.specs.Words.{IsJob, OneReading}
use Rattle.pure_words.specs.declared.job.Job.{Job}
use Rattle.pure_words.specs.declared.job.Job.TheVariants.{Check, Generate}
use Rattle.pure_check_work.specs.Declare.Notes.{Fork}
use Rattle.pure_check_work.specs.Method.declared.outcome.Outcome.{Outcome}
use Rattle.pure_check_work.specs.TheoryRun.Checked.{Checked}
use Rattle.pure_check_work.specs.TheoryRun.Outline.{Outline}
use Rattle.pure_check_work.specs.Table.Table.{Table, table_rows, session_text}
use Rattle.pure_board.specs.Boards.{Ending}
use Rattle.pure_check.specs.Answer.{WroteAnswer, OnSilent}
use Rattle.pure_check.specs.Asked.{IsLooking, IsMeantBy}
use Rattle.pure_check.specs.JobAnswers.{IsAnswer, is_looking_job}
use Rattle.pure_check.specs.Jobs.Generate.{last_line}
use Rattle.pure_check.specs.Laws.{HasAnswered, HasPrinted, CheckMeans, GenerateMeans}
use Rattle.pure_check.specs.Meaning.{IsTableAnswer, is_good}
use Rattle.pure_check.specs.Tables.{IsMeant, Wrote, has_run, IsCheck, files_for, text_for, asked_of}
use Rattle.pure_check.specs.declared.status.Status.{Status}
use Rattle.pure_check.specs.declared.status.Status.TheVariants.{Clean, Rows, Usage, ReadFault, WriteFault, Memory}

-- The text is that of a table which the words and the files mean, clean where each row is declared or proved.
record MeantTable (told : Option (List library.File)) (words : List (List ℕ)) (run : Option (Ending Checked Fork Outline Outcome)) (text : List ℕ) (clean : Bool) : Type 0 where
  session : Session
  table : Table
  meant : IsMeant told words run session table text
  clean_is : list_all is_good (table_rows session table) ≡ clean

-- What is meant by words is what their job answers.
answer-of : OneReading → (words : List (List ℕ)) (job : Job) → IsJob words job → (told : Option (List library.File)) (run : Option (Ending Checked Fork Outline Outcome)) (text : List ℕ) (clean : Bool) → IsMeantBy words told run text clean
    → IsAnswer job told run text clean
answer-of once words job is told run text clean m = subst (λ j. IsAnswer j told run text clean) (once words m.job job m.is_job is) m.answer

-- The answer of a table is what the words mean, where their job asks for that table.
table-of : (words : List (List ℕ)) (job : Job) → IsJob words job → (told : Option (List library.File)) (run : Option (Ending Checked Fork Outline Outcome)) (text : List ℕ) (clean : Bool) (text_of : Session → Table → List ℕ)
    → ((S : Session) (t : Table) → text_of S t ≡ text_for job S t) → IsTableAnswer text_of (asked_of job) (files_for job told) run text clean → MeantTable told words run text clean
table-of words job is told run text clean text_of same a = record {
  session = a.session;
  table = a.table;
  meant = record {
    job = job;
    is_job = is;
    session = a.checked.session;
    loaded = a.checked.loaded;
    table = a.checked.table;
    heeded = a.checked.heeded;
    derived = a.checked.derived;
    board = a.board;
    is_run = a.is_run;
    run_of = a.checked.run_of;
    text_is = a.text_is ∙ same a.session a.table;
  };
  clean_is = a.clean_is;
}

wrote-so : (told : Option (List library.File)) (words : List (List ℕ)) (run : Option (Ending Checked Fork Outline Outcome)) (M : List ℕ → Bool → Type 0) (old new : Option (List ℕ)) → ((text : List ℕ) (clean : Bool) → M text clean → MeantTable told words run text clean)
    → (status : Status) → WroteAnswer status M old new → Wrote status (IsMeant told words run) old new
wrote-so told words run M old new by Clean w = let m = by w.text true w.meaning in record { session = m.session; table = m.table; text = w.text; meaning = m.meant; clean_is = m.clean_is; written = w.written }
wrote-so told words run M old new by Rows w = let m = by w.text false w.meaning in record { session = m.session; table = m.table; text = w.text; meaning = m.meant; clean_is = m.clean_is; written = w.written }
wrote-so told words run M old new by WriteFault w = let m = by w.text w.clean w.meaning in record { session = m.session; table = m.table; text = w.text; meaning = m.meant; written = w.written }
wrote-so told words run M old new by Usage w = w
wrote-so told words run M old new by ReadFault w = w
wrote-so told words run M old new by Memory w = w

ran-so : (told : Option (List library.File)) (words : List (List ℕ)) (run : Option (Ending Checked Fork Outline Outcome)) (M : List ℕ → Bool → Type 0) (old new : Option (List ℕ)) → ((text : List ℕ) (clean : Bool) → M text clean → MeantTable told words run text clean)
    → (status : Status) → WroteAnswer status M old new → OnSilent status (run ≡ None) → is_some run ≡ has_run status
ran-so told words run M old new by Clean w silent = let m = by w.text true w.meaning in ap is_some m.meant.is_run
ran-so told words run M old new by Rows w silent = let m = by w.text false w.meaning in ap is_some m.meant.is_run
ran-so told words run M old new by WriteFault w silent = let m = by w.text w.clean w.meaning in ap is_some m.meant.is_run
ran-so told words run M old new by Usage w silent = ap is_some silent
ran-so told words run M old new by ReadFault w silent = ap is_some silent
ran-so told words run M old new by Memory w silent = ap is_some silent

-- Words that mean a table, and have the library looked at where they ask for a check alone.
says-as-much : (words : List (List ℕ)) → (IsLooking words → IsCheck words) → (told : Option (List library.File)) (status : Status) (run : Option (Ending Checked Fork Outline Outcome)) (IsUntouched ReadRose WriteRose : Type 0) (old new : Option (List ℕ))
    → ((text : List ℕ) (clean : Bool) → IsMeantBy words told run text clean → MeantTable told words run text clean) → HasAnswered told words status run IsUntouched ReadRose WriteRose old new
    → HasPrinted told words status run IsUntouched ReadRose WriteRose old new
says-as-much words looking told status run IsUntouched ReadRose WriteRose old new by h = record {
  unlooked = λ denied. h.unlooked (λ looks. denied (looking looks));
  unread = λ denied. h.unread (λ looks. denied (looking looks));
  wrote = wrote-so told words run (IsMeantBy words told run) old new by status h.wrote;
  ran = ran-so told words run (IsMeantBy words told run) old new by status h.wrote h.ran;
  complete = λ taken read written. h.complete taken (λ looks. read (looking looks)) written;
}

-- Words that ask for a generated library don't have the library looked at.
generate-unlooked : OneReading → (words : List (List ℕ)) (workers start theories lemmas : ℕ) → IsJob words (Generate workers start theories lemmas) → IsLooking words → ⊥
generate-unlooked once words workers start theories lemmas is looks =
    true≢false (sym (subst (λ job. is_looking_job job ≡ true) (once words looks.job (Generate workers start theories lemmas) looks.is_job is) looks.looks))

pub check_means : OneReading → (L : Type 0) → CheckMeans L
check_means once L words check told status run before after reads reads_now writes writes_now old new h =
    let job = Check check.0.workers check.0.fail_fast check.0.cancels in
    says-as-much words (λ looks. check) told status run _ _ _ old new (λ text clean m. table-of words job check.1 told run text clean session_text (λ S t. refl) (answer-of once words job check.1 told run text clean m)) h

pub generate_means : OneReading → (L : Type 0) → GenerateMeans L
generate_means once L words of told status run before after reads reads_now writes writes_now old new h =
    let job = Generate of.workers of.start of.theories of.lemmas in
    says-as-much words (λ looks. absurd (generate-unlooked once words of.workers of.start of.theories of.lemmas of.is_job looks)) told status run _ _ _ old new
    (λ text clean m. table-of words job of.is_job told run text clean last_line (λ S t. refl) (answer-of once words job of.is_job told run text clean m)) h
