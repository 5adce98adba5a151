-- From a table's text with the places of its rows to the answer of a job.
use Rattle.std.proofs.Common.{◌≡◌, ℕ, Bool, List, [], ◌∷◌, map, sym, ◌∙◌, ap, subst, Option, Result, Ok, Err, IfOk}
use Rattle.std.specs.Borrow.{Bor}
use Rattle.pure_text.specs.Lists.{Each, EachTwo}
use Rattle.pure_text.proofs.ListLaws.{each_of}
use Rattle.pure_io.specs.declared.library.File as library
use Rattle.pure_graph.specs.Order as order
use Rattle.pure_graph.specs.Reading.{Answer as FileAnswer}
use Rattle.pure_graph.specs.Session.{Session, Refusal, shown, IsLoadingOf}
use Rattle.pure_graph.specs.declared.fault.LoadFault.{LoadFault}
use Rattle.pure_session.specs.Refused.{seen_refused, all_refused}
use Rattle.pure_session.specs.Waiting.{seen_loaded, all_loaded}
use Rattle.pure_session.specs.declared.order.Loaded.{Loaded}
use Rattle.pure_session.specs.declared.reason.RefusedFile.{RefusedFile}
use Rattle.pure_session.specs.declared.session.Session as code
use Rattle.pure_words.specs.declared.job.Job.TheVariants.{Places}
use Rattle.pure_check_work.specs.Declare.Notes.{Fork}
use Rattle.pure_check_work.specs.Method.declared.outcome.Outcome.{Outcome}
use Rattle.pure_check_work.specs.SessionLaws.Loaded.{IsLoadedSession}
use Rattle.pure_check_work.specs.TheoryRun.Checked.{Checked}
use Rattle.pure_check_work.specs.TheoryRun.Outline.{Outline}
use Rattle.pure_check_work.specs.Heeded.{gone_labels}
use Rattle.pure_check_work.proofs.Table.DerivedLaws.{table_is_derived}
use Rattle.pure_check_work.proofs.SessionLaws.StoodLaws.{IsOwn, loaded-own}
use Rattle.pure_board.specs.Boards.{Ending}
use Rattle.pure_policy.specs.Asked.{Asked}
use Rattle.pure_row_places.specs.declared.scan.Scan.{Scan}
use Rattle.pure_row_places.specs.declared.scan.RefusedScan.{RefusedScan}
use Rattle.pure_row_places.specs.Scans.{seen_scan, seen_scans, seen_refusal, seen_refusals, IsScannedAs}
use Rattle.pure_row_places.specs.Headers.{IsLookedAt, IsLookedAtAs}
use Rattle.pure_check.specs.Formed.{IsSeenSession, IsTextOf, IsDone}
use Rattle.pure_check.specs.Meaning.{IsToldSession, asked_for}
use Rattle.pure_check.specs.PlacedText.{IsPlacedTextOf}
use Rattle.pure_check.specs.Jobs.Places.{IsRead, IsScan}
use Rattle.pure_check.specs.declared.answer.Answer.{Answer}
use Rattle.pure_check.specs.declared.formed.Extent.{Extent}
use Rattle.pure_check.specs.declared.formed.Extent.TheVariants as extent

two-map : {A B C D : Type 0} (R : C → D → Type 0) (f : A → C) (g : B → D) (xs : List A) (ys : List B) → EachTwo (λ x y. R (f x) (g y)) xs ys → EachTwo R (map f xs) (map g ys)
two-map R f g [] [] h = tt
two-map R f g [] (y ∷ ys) h = absurd h
two-map R f g (x ∷ xs) [] h = absurd h
two-map R f g (x ∷ xs) (y ∷ ys) h = (h.0, two-map R f g xs ys h.1)

-- One session's text, where its theories and its refused files were scanned.
placed-of : (S : Session) (told : Option (List library.File)) (workers : ℕ) (t : Bor (List Scan)) (r : Bor (List RefusedScan)) → EachTwo IsScan S.theories (seen_scans t.now) → EachTwo (IsLookedAt told) (map shown S.refused) (seen_refusals r.now)
    → (run : Option (Ending Checked Fork Outline Outcome)) (text : List ℕ) (clean : Bool) → IsTextOf S (asked_for workers) (extent.Placed t r) run text clean → IsPlacedTextOf S told workers run text clean
placed-of S told workers t r scanned looked run text clean of = record {
  table = of.table;
  board = of.board;
  is_run = of.is_run;
  is_table = of.is_table;
  heeded = of.heeded;
  run_of = of.run_of;
  theories = seen_scans t.now;
  are_scanned = scanned;
  refused = seen_refusals r.now;
  are_looked_at = looked;
  text_is = of.says.0;
  clean_is = of.says.1;
}

-- The same of each session that the program's one shows.
pub placed-text : (s : code.Session) (told : Option (List library.File)) (workers : ℕ) (asked : Asked) → asked ≡ asked_for workers
    → (theories : List Loaded) → theories ≡ s.theories.items → (scans : List Scan) → EachTwo IsScannedAs theories scans → (t : Bor (List Scan)) → t.now ≡ scans
    → (refused : List RefusedFile) → refused ≡ s.refused.items → (looked : List RefusedScan) → EachTwo (IsLookedAtAs told) refused looked → (r : Bor (List RefusedScan)) → r.now ≡ looked
    → (place : Extent) → place ≡ extent.Placed t r
    → (a : Result Answer LoadFault) → IfOk a (λ a. (S : Session) → IsSeenSession S s → IsTextOf S asked place a.run a.formed.text a.formed.clean)
    → IfOk a (λ a. (S : Session) → IsSeenSession S s → IsPlacedTextOf S told workers a.run a.formed.text a.formed.clean)
placed-text s told workers asked asked_is theories theories_are scans scanned t t_is refused refused_are looked are_looked r r_is place place_is (Ok a) all = λ S is.
    let scanned_now : EachTwo IsScan S.theories (seen_scans t.now) =
    subst (λ ts. EachTwo IsScan ts (seen_scans t.now)) (sym (is.theories ∙ ap all_loaded (sym theories_are))) (subst (λ ss. EachTwo IsScan (all_loaded theories) (seen_scans ss)) (sym t_is) (two-map IsScan seen_loaded seen_scan theories scans scanned)) in
    let looked_now : EachTwo (IsLookedAt told) (map shown S.refused) (seen_refusals r.now) =
    subst (λ fs. EachTwo (IsLookedAt told) fs (seen_refusals r.now)) (ap all_refused refused_are ∙ is.refused) (subst (λ rs. EachTwo (IsLookedAt told) (all_refused refused) (seen_refusals rs)) (sym r_is) (two-map (IsLookedAt told) seen_refused seen_refusal refused looked are_looked)) in
    placed-of S told workers t r scanned_now looked_now a.run a.formed.text a.formed.clean
    (subst (λ p. IsTextOf S (asked_for workers) p a.run a.formed.text a.formed.clean) place_is (subst (λ q. IsTextOf S q place a.run a.formed.text a.formed.clean) asked_is (all S is)))
placed-text s told workers asked asked_is theories theories_are scans scanned t t_is refused refused_are looked are_looked r r_is place place_is (Err fault) all = tt

-- The same of what the library told before.
pub placed-moved : (told now : Option (List library.File)) → now ≡ told → (workers : ℕ) (s : code.Session) (a : Result Answer LoadFault) → IfOk a (λ a. (S : Session) → IsSeenSession S s → IsPlacedTextOf S now workers a.run a.formed.text a.formed.clean)
    → IfOk a (λ a. (S : Session) → IsSeenSession S s → IsPlacedTextOf S told workers a.run a.formed.text a.formed.clean)
placed-moved told now same workers s (Ok a) all = λ S is. subst (λ t. IsPlacedTextOf S t workers a.run a.formed.text a.formed.clean) same (all S is)
placed-moved told now same workers s (Err fault) all = tt

own-read : (l : order.Loaded) → IsOwn l.name l.source l.text → IsRead l
own-read l own =
    let spelled = own.spelled in
    record { tokens = spelled.0; file = spelled.2.file; read = record { tokens_are = spelled.1; spelled = spelled.2.spelled }; means = spelled.2.means }

-- Each theory that is loaded is a text of the grammar.
loaded-read : (answers : List FileAnswer) (theories : List order.Loaded) (refused : List Refusal) (n : ℕ) → IsLoadingOf answers theories refused n → Each IsRead theories
loaded-read answers theories refused n loading = each_of IsRead theories (λ l m. own-read l (loaded-own answers theories refused n loading l m))

-- The text of a session that was loaded of a library is the job's answer.
pub places-done : (told : Option (List library.File)) (S : Session) → IsToldSession told S → IsLoadedSession S.names S.theories → (workers : ℕ) (IsSeen : Session → Type 0) → IsSeen S
    → (a : Result Answer LoadFault) → IfOk a (λ a. (R : Session) → IsSeen R → IsPlacedTextOf R told workers a.run a.formed.text a.formed.clean) → IsDone (Places workers) told a
places-done told S session loaded workers IsSeen is (Ok a) all =
    let of = all S is in
    record {
      session = S;
      table = of.table;
      board = of.board;
      is_run = of.is_run;
      checked = record {
        session = session;
        loaded = loaded;
        table = of.is_table;
        heeded = of.heeded;
        derived = table_is_derived S loaded (gone_labels of.table.entries) of.table of.is_table;
        run_of = of.run_of;
      };
      are_read = loaded-read session.answers S.theories S.refused S.files session.session.loading;
      theories = of.theories;
      are_scanned = of.are_scanned;
      refused = of.refused;
      are_looked_at = of.are_looked_at;
      text_is = of.text_is;
      clean_is = of.clean_is;
    }
places-done told S session loaded workers IsSeen is (Err fault) all = tt
