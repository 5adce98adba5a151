-- A proof on its way, whose steps are written.
use Rattle.std.proofs.Common.{◌≡◌, ◌≢◌, ℕ, zero, suc, arith, Bool, ◌+◌, ◌<◌, List, [], ◌∷◌, ◌++◌, length, drop, refl, sym, ap, subst, ◌∙◌, append_assoc, append-nil, Option, Some, None}
use Rattle.std.specs.Prelude.{MatchOption, Result, Ok, Err, IfOk, OnOk}
use Rattle.pure_grammar.specs.Theories.TheoryText.{Step}
use Rattle.pure_logic.specs.Derivable.{Theorem}
use Rattle.pure_resolve.specs.GoalSteps.State.{State, IsTheoremOf}
use Rattle.pure_resolve.specs.GoalSteps.Steps.{BeginsAs}
use Rattle.pure_resolve.specs.GoalSteps.declared.fault.StepFault.TheVariants.{Big}
use Rattle.pure_theory_run.specs.Declare.Notes.{Fork}
use Rattle.pure_theory_run.specs.Method.Course.{IsCourseIn, stops, leads, not_begun, begun, number_behind}
use Rattle.pure_theory_run.specs.Method.Proof.{Ending, Failed}
use Rattle.pure_theory_run.specs.Method.Running.{IsFurther, IsPlace, LeadsOn, Proves, StandsFirst, StopsAt, StopsSo, shown_ending}
use Rattle.pure_theory_run.specs.Method.declared.outcome.Outcome.{Outcome}
use Rattle.pure_theory_run.specs.Method.declared.outcome.Outcome.TheVariants.{Fault}
use Rattle.pure_theory_run.specs.Method.declared.proving.Place.{Place}
use Rattle.pure_theory_run.specs.Method.declared.proving.Place.TheVariants.{Runs, Refused, Broken}
use Rattle.pure_theory_run.specs.Method.declared.run.Run.{Run}
use Rattle.pure_theory_run.proofs.Method.RunLaws.{some-left, state-once}
use Rattle.pure_theory_run.specs.Method.declared.proving.Proving.{Proving}
use Rattle.pure_places.specs.Parts.{Part}
use Rattle.pure_row_places.specs.Cursors.{IsAt}
use Rattle.pure_show.specs.declared.named.Shown.{Shown}
use Rattle.pure_show.specs.declared.page.Page.{Page}
use Rattle.pure_show.specs.Answers.{IsCourseText, place_of}
use Rattle.pure_show.specs.Lines.{Room, course_lines, end_line, is_clean, lemma_line, limit, room_behind, room_left, state_lines, step_line, written_lines}
use Rattle.pure_show.specs.Progress.{seen_page, Written, EndsShown, RunShown, IsOnItsWay, IsPushed, IsStepWritten, IsPlaceWritten}

-- The first of the steps that are left.
first-left : (script : List Step) (at : ℕ) → at < length script → (step : Step) × (steps : List Step) × (drop at script ≡ step ∷ steps)
first-left [] at h = absurd (omega arith)
first-left (x ∷ xs) zero h = (x, xs, refl)
first-left (x ∷ xs) (suc at) h = first-left xs at (omega arith)

module _ (texts : List (List ℕ)) (f : Fork) (name : List ℕ) (place : ℕ → List ℕ) where
  -- A step and its state were written, and what is written behind them.
  written-behind : (old new : Written) (number : ℕ) (step : Step) (s : State) → IsPushed texts place old new number step s → (states : List State) (steps : List Step) → new.text ++ course_lines texts place new.room (number_behind number step) states steps
      ≡ old.text ++ course_lines texts place old.room number (s ∷ states) (step ∷ steps)
  written-behind old new number step s p states steps =
      let line = step_line place number step in
      let lines = written_lines old.room (state_lines texts s) in
      let behind = course_lines texts place (room_behind old.room (state_lines texts s)) (number_behind number step) states steps in
      (λ i. p.0 i ++ course_lines texts place (p.1 i) (number_behind number step) states steps) ∙ (append_assoc old.text (line ++ lines) behind ∙ ap (λ t. old.text ++ t) (append_assoc line lines behind))

  left-behind : (old new : Written) (number : ℕ) (step : Step) (s : State) → IsPushed texts place old new number step s → (states : List State) → room_left texts new.room states ≡ room_left texts old.room (s ∷ states)
  left-behind old new number step s p states = ap (λ r. room_left texts r states) p.1

  -- The same whole is shown.
  same-whole : (w v : Written) → w.text ≡ v.text → w.room ≡ v.room → (end : Ending) → EndsShown texts f name place v end → EndsShown texts f name place w end
  same-whole w v text room end h = subst (λ (x : List ℕ × Room). IsCourseText texts f name place (x.0 ++ end_line end) (is_clean x.1 end)) (λ i. (sym text i, sym room i)) h

  -- From a run to the next one.
  run-on : (old new : Written) (run next : Run) → IsFurther texts f run next → IsStepWritten texts f place old new run → RunShown texts f name place old run → RunShown texts f name place new next
  run-on old new run next k written shown s is rest end course =
      let pushed = written k.step k.steps k.left k.before k.is_before in
      let same : s ≡ k.after = state-once s k.after next.goal.thm is k.is_after in
      let here : IsCourseIn texts f.content f.lemma (number_behind run.number k.step) (k.after ∷ rest) k.steps end =
      subst (λ (x : (ℕ × State) × List Step). IsCourseIn texts f.content f.lemma x.0.0 (x.0.1 ∷ rest) x.1 end) (λ i. ((k.number i, same i), k.behind i)) course in
      let whole : IsCourseIn texts f.content f.lemma run.number (k.before ∷ s ∷ rest) (drop run.at f.script) end =
      subst (λ (x : State × List Step). IsCourseIn texts f.content f.lemma run.number (k.before ∷ x.0 ∷ rest) x.1 end) (λ i. (sym same i, sym k.left i)) (leads k.leads here) in
      let text : new.text ++ course_lines texts place new.room next.number (s ∷ rest) (drop next.at f.script) ≡ old.text ++ course_lines texts place old.room run.number (k.before ∷ s ∷ rest) (drop run.at f.script) =
      (λ i. new.text ++ course_lines texts place new.room (k.number i) (s ∷ rest) (k.behind i)) ∙ (written-behind old new run.number k.step k.before pushed (s ∷ rest) k.steps
      ∙ (λ i. old.text ++ course_lines texts place old.room run.number (k.before ∷ s ∷ rest) (sym k.left i))) in
      same-whole (record { text = new.text ++ course_lines texts place new.room next.number (s ∷ rest) (drop next.at f.script); room = room_left texts new.room (s ∷ rest) }) _ text
      (left-behind old new run.number k.step k.before pushed (s ∷ rest)) end (shown k.before k.is_before (s ∷ rest) end whole)

  -- Or the proof ends.
  run-end : (old new : Written) (run : Run) (outcome : Outcome) → StopsSo texts f run outcome → (step : Step) (steps : List Step) → drop run.at f.script ≡ step ∷ steps → IsStepWritten texts f place old new run → RunShown texts f name place old run
      → EndsShown texts f name place new (shown_ending outcome)
  run-end old new run outcome (s, is, ends) step steps left written shown =
      let pushed = written step steps left s is in
      let text : new.text ≡ old.text ++ course_lines texts place old.room run.number (s ∷ []) (drop run.at f.script) =
      sym (append-nil new.text) ∙ (written-behind old new run.number step s pushed [] steps ∙ (λ i. old.text ++ course_lines texts place old.room run.number (s ∷ []) (sym left i))) in
      same-whole new (record { text = old.text ++ course_lines texts place old.room run.number (s ∷ []) (drop run.at f.script); room = room_left texts old.room (s ∷ []) }) text
      (left-behind old new run.number step s pushed []) (shown_ending outcome) (shown s is [] (shown_ending outcome) (stops ends))

  -- What a step leaves.
  turn-runs : (old new : Written) (run : Run) (q : Place) (answer : Option Outcome) → run.at < length f.script → IsStepWritten texts f place old new run → RunShown texts f name place old run → MatchOption answer (LeadsOn texts f (Runs run) q) (StopsSo texts f run)
      → MatchOption answer (IsOnItsWay texts f name place new q) (λ outcome. EndsShown texts f name place new (shown_ending outcome))
  turn-runs old new run (Runs next) None within written shown further = run-on old new run next further written shown
  turn-runs old new run Refused None within written shown further = absurd further
  turn-runs old new run Broken None within written shown further = absurd further
  turn-runs old new run q (Some outcome) within written shown ends =
      let first = first-left f.script run.at within in
      run-end old new run outcome ends first.0 first.1 first.2 written shown

  turn-refused : (old new : Written) (q : Place) (answer : Option Outcome) → new ≡ old → EndsShown texts f name place old (Failed (record { step = 0; fault = Big })) → MatchOption answer (LeadsOn texts f Refused q) (λ outcome. outcome ≡ Fault 0 Big)
      → MatchOption answer (IsOnItsWay texts f name place new q) (λ outcome. EndsShown texts f name place new (shown_ending outcome))
  turn-refused old new (Runs next) None same shown further = absurd further
  turn-refused old new Refused None same shown further = absurd further
  turn-refused old new Broken None same shown further = absurd further
  turn-refused old new q (Some outcome) same shown ends = subst (λ (x : Written × Outcome). EndsShown texts f name place x.0 (shown_ending x.1)) (λ i. (sym same i, sym ends i)) shown

  turn-broken : (new : Written) (q : Place) (answer : Option Outcome) → MatchOption answer (LeadsOn texts f Broken q) (λ outcome. ⊥) → MatchOption answer (IsOnItsWay texts f name place new q) (λ outcome. EndsShown texts f name place new (shown_ending outcome))
  turn-broken new (Runs next) None further = absurd further
  turn-broken new Refused None further = absurd further
  turn-broken new Broken None further = tt
  turn-broken new q (Some outcome) ends = absurd ends

  pub turn-going : (old new : Written) (p q : Place) (answer : Option Outcome) → IsPlace texts f p → IsPlaceWritten texts f place old new p → IsOnItsWay texts f name place old p → MatchOption answer (LeadsOn texts f p q) (StopsAt texts f p)
      → MatchOption answer (IsOnItsWay texts f name place new q) (λ outcome. EndsShown texts f name place new (shown_ending outcome))
  turn-going old new (Runs run) q answer here written shown further = turn-runs old new run q answer (some-left f.script run.at here.script) written shown further
  turn-going old new Refused q answer here written shown further = turn-refused old new q answer written shown further
  turn-going old new Broken q answer here written shown further = turn-broken new q answer further

  -- The beginning, where the lemma's line alone is written.
  abbrev first-written : Written
  first-written = record { text = lemma_line texts name f.fixed; room = Some limit }

  first-run : (s : State) → BeginsAs f.fixed (Ok s) → (number at : ℕ) → at ≡ 0 → number ≡ 1 → (t : State) → t ≡ s → (rest : List State) (end : Ending) → IsCourseIn texts f.content f.lemma number (t ∷ rest) (drop at f.script) end
      → EndsShown texts f name place (record { text = lemma_line texts name f.fixed ++ course_lines texts place (Some limit) number (t ∷ rest) (drop at f.script); room = room_left texts (Some limit) (t ∷ rest) }) end
  first-run s begins number at zero_at one_number t same rest end course = record {
    states = s ∷ rest;
    end = end;
    course = begun begins (subst (λ (x : (ℕ × State) × ℕ). IsCourseIn texts f.content f.lemma x.0.0 (x.0.1 ∷ rest) (drop x.1 f.script) end) (λ i. ((one_number i, same i), zero_at i)) course);
    text_is = append_assoc (lemma_line texts name f.fixed) (course_lines texts place (Some limit) number (t ∷ rest) (drop at f.script)) (end_line end)
        ∙ (λ i. lemma_line texts name f.fixed ++ (course_lines texts place (Some limit) (one_number i) (same i ∷ rest) (drop (zero_at i) f.script) ++ end_line end));
    clean_is = λ i. is_clean (room_left texts (Some limit) (same i ∷ rest)) end;
  }

  first-place : (p : Place) → StandsFirst f p → IsOnItsWay texts f name place first-written p
  first-place (Runs run) (s, begins, is, at, number) = λ t here rest end course. first-run s begins run.number run.at at number t (state-once t s run.goal.thm here is) rest end course
  first-place Refused (fault, refused) = record { states = []; end = Failed (record { step = 0; fault = Big }); course = not_begun refused; text_is = refl; clean_is = refl }
  first-place Broken none = absurd none

  pub first-going : (w : Written) → w.text ≡ lemma_line texts name f.fixed → w.room ≡ Some limit → (p : Place) → StandsFirst f p → IsOnItsWay texts f name place w p
  first-going w text room p stands = subst (λ (v : Written). IsOnItsWay texts f name place v p) (λ i. record { text = sym text i; room = sym room i }) (first-place p stands)

  -- A step that was written is the one that is left.
  pub step-written : (old new : Written) (run : Run) (step : Step) (steps : List Step) → drop run.at f.script ≡ step ∷ steps → ((s : State) → IsTheoremOf s run.goal.thm → IsPushed texts place old new run.number step s) → IsStepWritten texts f place old new run
  step-written old new run step steps left pushed other more also s is =
      let same : step ∷ steps ≡ other ∷ more = sym left ∙ also in
      let one : step ≡ other = cc in
      subst (λ (x : Step). IsPushed texts place old new run.number x s) one (pushed s is)

  -- Where no run is, nothing was written.
  pub none-written : (w : Written) (p : Place) → ((run : Run) → p ≢ Runs run) → IsPlaceWritten texts f place w w p
  none-written w (Runs run) h = absurd (h run refl)
  none-written w Refused h = refl
  none-written w Broken h = refl

  pub run-within : (p : Place) (run : Run) → p ≡ Runs run → IsPlace texts f p → run.at < length f.script
  run-within p run e h = let here : IsPlace texts f (Runs run) = subst (IsPlace texts f) e h in some-left f.script run.at here.script

  -- The text with its end shows the course.
  pub ended-shown : (w : Written) (end : Ending) → EndsShown texts f name place w end → (text : List ℕ) (clean : Bool) → text ≡ w.text ++ end_line end → clean ≡ is_clean w.room end → IsCourseText texts f name place text clean
  ended-shown w end h text clean t c = subst (λ (x : List ℕ × Bool). IsCourseText texts f name place x.0 x.1) (λ i. (sym t i, sym c i)) h

  -- The same of a call's result.
  pub result-going : {E : Type 0} (old new : Written) (p q : Place) → IsPlace texts f p → IsPlaceWritten texts f place old new p → IsOnItsWay texts f name place old p → (r : Result (Option Outcome) E) → IfOk r (λ answer. MatchOption answer (LeadsOn texts f p q) (StopsAt texts f p))
      → IfOk r (λ answer. MatchOption answer (IsOnItsWay texts f name place new q) (λ outcome. EndsShown texts f name place new (shown_ending outcome)))
  result-going old new p q here written shown (Ok answer) further = turn-going old new p q answer here written shown further
  result-going old new p q here written shown (Err fault) further = tt

-- The proof is on its way, and so was written; the page's cursor stands in the source.
pub record Goes (texts : List (List ℕ)) (f : Fork) (name source : List ℕ) (part : Part ℕ) (proving : Proving) (page : Page) : Type 0 where
  pub proves : Proves texts f proving
  pub cursor : IsAt source page.cursor
  pub going : IsOnItsWay texts f name (place_of source part) (seen_page page) proving.place

-- what holds behind a success, of a weaker fact
pub on-ok : {A E P Q : Type 0} → (P → Q) → (r : Result A E) → OnOk r P → OnOk r Q
on-ok weaker (Ok x) h = weaker h
on-ok weaker (Err fault) h = tt

-- what holds anyway holds where a call succeeds
pub if-ok : {A E Q : Type 0} → Q → (r : Result A E) → IfOk r (λ x. Q)
if-ok h (Ok x) = h
if-ok h (Err fault) = tt

-- fewer steps are left where none has ended the proof
pub fewer : {A E : Type 0} (P : Type 0) (Q : A → Type 0) (r : Result (Option A) E) → IfOk r (λ answer. MatchOption answer P Q) → IfOk r (λ answer. MatchOption answer P (λ outcome. Unit {0}))
fewer P Q (Ok None) h = h
fewer P Q (Ok (Some outcome)) h = tt
fewer P Q (Err fault) h = tt

-- what is said of none, and of some
pub none-of : {A : Type 0} (P : Type 0) (Q : A → Type 0) (o : Option A) → o ≡ None → MatchOption o P Q → P
none-of P Q None e h = h
none-of P Q (Some x) e h = absurd (cc)

pub some-of : {A : Type 0} (P : Type 0) (Q : A → Type 0) (o : Option A) (x : A) → o ≡ Some x → MatchOption o P Q → Q x
some-of {A = A} P Q o x e h = subst (λ (answer : Option A). MatchOption answer P Q) e h

pub less-by : (m n : ℕ) → m + 1 ≡ n → m < n
less-by m n e = omega (arith, e)

-- A step that was written over names that are these.
pub pushed-over : {X E : Type 0} (own texts : List (List ℕ)) → own ≡ texts → (place : ℕ → List ℕ) (old new : Written) (number : ℕ) (step : Step) (th : Theorem) (r : Result X E)
    → OnOk r ((s : State) → IsTheoremOf s th → IsPushed own place old new number step s) → OnOk r ((s : State) → IsTheoremOf s th → IsPushed texts place old new number step s)
pushed-over own texts same place old new number step th r h = subst (λ (ns : List (List ℕ)). OnOk r ((s : State) → IsTheoremOf s th → IsPushed ns place old new number step s)) same h

-- The text with its end, as a call answers it, shows the course.
pub result-shown : {E : Type 0} (texts : List (List ℕ)) (f : Fork) (name : List ℕ) (place : ℕ → List ℕ) (w : Written) (end : Ending) → EndsShown texts f name place w end → (r : Result Shown E) → IfOk r (λ s. s.text ≡ w.text ++ end_line end)
    → IfOk r (λ s. s.clean ≡ is_clean w.room end) → IfOk r (λ s. IsCourseText texts f name place s.text s.clean)
result-shown texts f name place w end shown (Ok s) text clean = ended-shown texts f name place w end shown s.text s.clean text clean
result-shown texts f name place w end shown (Err fault) text clean = tt
