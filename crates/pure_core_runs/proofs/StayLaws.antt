-- What stays in later states of a legal run.
use Rattle.std.proofs.Common.{◌≡◌, ◌∙◌, ℕ, List, [], ◌∷◌, refl, sym, ap, subst, arith, Bool, true, false, Some, inl, inr, ◌⊎◌}
use Rattle.std.proofs.lemmas.Option.{same_Some, slice_get_within}
use Rattle.pure_text.specs.Lists.{Each}
use Rattle.pure_machine.specs.State.{Progress, Waiting, Running, Promise, Standing, Ready, Taken, Settled, Cancelled, Event, TakeTheory, TakeProof, Fork, CloseTheory, Deliver, Stop, State, theory_at, is_settled}
use Rattle.pure_machine.specs.Step.{Stands, IsOver, IsClosed, Allows, IsRunFrom, stops, is_cancelled_standing, is_cancelled_promise, after, after_all}
use Rattle.pure_core.proofs.KeptLaws.{IsKept, kept-after, delivered_state}
use Rattle.pure_core.proofs.PlaceLaws.{closed_there, each_there}
use Rattle.pure_core_runs.specs.Seats.{IsVain}
use Rattle.pure_core_runs.proofs.ChangeLaws.{Became, stayed, was_forked, was_taken, was_settled, was_cancelled, became, Came, left_so, began, went_on, ended, came, allowed_there, promise-there_after, theory-there_after, delivered-keeps}
use Rattle.pure_core_runs.proofs.ToldLaws.{IsTold, told-after, take-ready, take-waits, fork-runs, close-runs, deliver-out}

-- what is over is settled or cancelled
pub over-cases : {O : Type 0} (t : Standing O) → IsOver t → (is_settled t ≡ true) ⊎ (t ≡ Cancelled)
over-cases Ready over = absurd over
over-cases Taken over = absurd over
over-cases (Settled o) over = inl refl
over-cases Cancelled over = inr refl

-- what became of a promise in a later state
pub record IsLater {G O : Type 0} (p q : Promise G O) : Type 0 where
  pub theory_is : q.theory ≡ p.theory
  pub command_is : q.command ≡ p.command
  pub goal_is : q.goal ≡ p.goal
  pub stays : IsOver p.standing → q.standing ≡ p.standing

pub later-same : {G O : Type 0} (p q : Promise G O) → q ≡ p → IsLater p q
later-same p q same = record { theory_is = ap (λ x. x.theory) same; command_is = ap (λ x. x.command) same; goal_is = ap (λ x. x.goal) same; stays = λ over. ap (λ x. x.standing) same }

pub later-then : {G O : Type 0} (p q r : Promise G O) → IsLater p q → IsLater q r → IsLater p r
later-then p q r one two = record {
  theory_is = two.theory_is ∙ one.theory_is;
  command_is = two.command_is ∙ one.command_is;
  goal_is = two.goal_is ∙ one.goal_is;
  stays = λ over. two.stays (subst IsOver (sym (one.stays over)) over) ∙ one.stays over;
}

-- Each theory is closed, and each promise is settled or cancelled.
pub record IsDone {G C O : Type 0} (s : State G C O) : Type 0 where
  pub theories : Each IsClosed s.theories
  pub promises : Each (λ p. IsOver p.standing) s.promises

pub done-after : {G C O : Type 0} (s : State G C O) (e : Event G C O) → IsVain s e → IsDone s → IsDone (after s e)
done-after s (TakeTheory i) vain d = absurd vain
done-after s (TakeProof n) vain d = absurd vain
done-after s (Fork i c g) vain d = absurd vain
done-after s (CloseTheory i c) vain d = absurd vain
done-after s (Deliver n o fault) vain d = subst (λ b. IsDone (delivered_state s n o fault b)) (sym vain) (record { theories = d.theories; promises = d.promises })
done-after s Stop vain d = record { theories = d.theories; promises = d.promises }

module _ {G C O : Type 0} (forks : ℕ → ℕ → ℕ → G → Type 0) (closes : ℕ → ℕ → C → Type 0) (may : G → O → Type 0) (is_fault : O → Bool) where
  module _ (s : State G C O) (e : Event G C O) (a : Allows forks closes may is_fault s e) (kept : IsKept forks closes s) (h : IsTold s) where
    -- what an event makes of a promise
    later_so : (n : ℕ) (p q : Promise G O) → Stands s n p → Became s e n q → IsLater p q
    later_so n p q at (stayed old leaves) = later-same p q (same_Some q p (sym old ∙ at))
    later_so n p q at (was_forked i c g what last new) = absurd (let within = slice_get_within s.promises n p at in omega arith)
    later_so n p q at (was_taken p' what there new) = let same = same_Some p' p (sym there ∙ at) in record {
      theory_is = sym (ap (λ x. x.theory) new) ∙ ap (λ x. x.theory) same;
      command_is = sym (ap (λ x. x.command) new) ∙ ap (λ x. x.command) same;
      goal_is = sym (ap (λ x. x.goal) new) ∙ ap (λ x. x.goal) same;
      stays = λ over. absurd (let next = take-ready forks closes may is_fault s e a kept h n what in subst IsOver (ap (λ x. x.standing) (same_Some p next.0 (sym at ∙ next.1.0)) ∙ next.1.1) over);
    }
    later_so n p q at (was_settled p' o fault what there lives new) = let same = same_Some p' p (sym there ∙ at) in record {
      theory_is = sym (ap (λ x. x.theory) new) ∙ ap (λ x. x.theory) same;
      command_is = sym (ap (λ x. x.command) new) ∙ ap (λ x. x.command) same;
      goal_is = sym (ap (λ x. x.goal) new) ∙ ap (λ x. x.goal) same;
      stays = λ over. absurd (elim (over-cases p.standing over) [
        | inl settled ↦ (let old = h.settled n p at settled in (deliver-out forks closes may is_fault s e a kept h n o fault what).open_still old.0 old.1 old.2)
        | inr cancelled ↦ (let gone : is_cancelled_standing p'.standing ≡ true = ap (λ x. is_cancelled_standing x.standing) same ∙ ap is_cancelled_standing cancelled in cc)
      ]);
    }
    later_so n p q at (was_cancelled p' other m o fault what apart at_m lives there unsettled marked new) = let same = same_Some p' p (sym there ∙ at) in record {
      theory_is = sym (ap (λ x. x.theory) new) ∙ ap (λ x. x.theory) same;
      command_is = sym (ap (λ x. x.command) new) ∙ ap (λ x. x.command) same;
      goal_is = sym (ap (λ x. x.goal) new) ∙ ap (λ x. x.goal) same;
      stays = λ over. elim (over-cases p.standing over) [
        | inl settled ↦ absurd (let not_so : is_settled p.standing ≡ false = ap (λ x. is_settled x.standing) (sym same) ∙ unsettled in cc)
        | inr cancelled ↦ sym (ap (λ x. x.standing) new) ∙ sym cancelled
      ];
    }

    pub promise-later : (n : ℕ) (p : Promise G O) → Stands s n p → (q : Promise G O) × Stands (after s e) n q × IsLater p q
    promise-later n p at = let there = promise-there_after s e n p at in (there.0, there.1, later_so n p there.0 at (became s e n there.0 (allowed_there forks closes may is_fault s e a) there.1))

    closed_so : (i : ℕ) (p q : Progress C) → theory_at s.theories i ≡ Some p → IsClosed p → Came s e i q → q ≡ p
    closed_so i p q at closed (left_so old leaves) = same_Some q p (sym old ∙ at)
    closed_so i p q at closed (began what new) = absurd (subst IsClosed (same_Some p Waiting (sym at ∙ take-waits forks closes may is_fault s e a kept h i what)) closed)
    closed_so i p q at closed (went_on c g what new) = absurd (let run = fork-runs forks closes may is_fault s e a kept h i c g what in subst IsClosed (same_Some p (Running run.0) (sym at ∙ run.1)) closed)
    closed_so i p q at closed (ended c what new) = absurd (let run = close-runs forks closes may is_fault s e a kept h i c what in subst IsClosed (same_Some p (Running run.0) (sym at ∙ run.1)) closed)

    pub closed-later : (i : ℕ) (p : Progress C) → theory_at s.theories i ≡ Some p → IsClosed p → theory_at (after s e).theories i ≡ Some p
    closed-later i p at closed = let there = theory-there_after s e i p at in there.1 ∙ ap Some (closed_so i p there.0 at closed (came s e i there.0 there.1))

  -- from where all is done on
  pub vain-done : (s : State G C O) (e : Event G C O) → Allows forks closes may is_fault s e → IsTold s → IsDone s → IsVain s e
  vain-done s (TakeTheory i) a h d = closed_there s.theories i Waiting d.theories a.1.1.0.waits
  vain-done s (TakeProof n) a h d = let next = a.2.1 in subst IsOver next.1 (each_there (λ p. IsOver p.standing) s.promises n a.2.0 d.promises next.0)
  vain-done s (Fork i c g) a h d = closed_there s.theories i (Running a.0) d.theories a.1
  vain-done s (CloseTheory i c) a h d = closed_there s.theories i (Running a.0) d.theories a.1
  vain-done s (Deliver n o fault) a h d = elim (over-cases a.0.standing (each_there (λ p. IsOver p.standing) s.promises n a.0 d.promises a.1)) [
    | inl settled ↦ absurd (let old = h.settled n a.0 a.1 settled in a.2.open_still old.0 old.1 old.2)
    | inr cancelled ↦ ap is_cancelled_promise a.1 ∙ ap is_cancelled_standing cancelled
  ]
  vain-done s Stop a h d = tt

  -- the same over legal runs
  pub promise-stays : (s : State G C O) (es : List (Event G C O)) (n : ℕ) (p : Promise G O) → IsRunFrom forks closes may is_fault s es → IsKept forks closes s → IsTold s → Stands s n p → (q : Promise G O) × Stands (after_all s es) n q × IsLater p q
  promise-stays s [] n p run kept h at = (p, at, later-same p p refl)
  promise-stays s (e ∷ es) n p run kept h at =
      let one = promise-later s e run.0 kept h n p at in
      let more = promise-stays (after s e) es n one.0 run.1 (kept-after forks closes may is_fault s e run.0 kept) (told-after forks closes may is_fault s e run.0 kept h) one.1 in
      (more.0, more.1, later-then p one.0 more.0 one.2 more.2)

  pub closed-stays : (s : State G C O) (es : List (Event G C O)) (i : ℕ) (p : Progress C) → IsRunFrom forks closes may is_fault s es → IsKept forks closes s → IsTold s → theory_at s.theories i ≡ Some p → IsClosed p → theory_at (after_all s es).theories i ≡ Some p
  closed-stays s [] i p run kept h at closed = at
  closed-stays s (e ∷ es) i p run kept h at closed = closed-stays (after s e) es i p run.1 (kept-after forks closes may is_fault s e run.0 kept) (told-after forks closes may is_fault s e run.0 kept h) (closed-later s e run.0 kept h i p at closed) closed

  pub done-stays : (s : State G C O) (es : List (Event G C O)) → IsRunFrom forks closes may is_fault s es → IsKept forks closes s → IsTold s → IsDone s → IsDone (after_all s es)
  done-stays s [] run kept h d = d
  done-stays s (e ∷ es) run kept h d = done-stays (after s e) es run.1 (kept-after forks closes may is_fault s e run.0 kept) (told-after forks closes may is_fault s e run.0 kept h) (done-after s e (vain-done s e run.0 h d) d)

-- whether the work was stopped
pub stopped-after : {G C O : Type 0} (s : State G C O) (e : Event G C O) → s.stopped ≡ true → (after s e).stopped ≡ true
stopped-after s (TakeTheory i) is = is
stopped-after s (TakeProof n) is = is
stopped-after s (Fork i c g) is = is
stopped-after s (CloseTheory i c) is = is
stopped-after s (Deliver n o fault) is = (delivered-keeps s n o fault).1 ∙ is
stopped-after s Stop is = refl

pub stopped-stays : {G C O : Type 0} (s : State G C O) (es : List (Event G C O)) → s.stopped ≡ true → (after_all s es).stopped ≡ true
stopped-stays s [] is = is
stopped-stays s (e ∷ es) is = stopped-stays (after s e) es (stopped-after s e is)

pub never-stopped : {G C O : Type 0} (s : State G C O) (es : List (Event G C O)) → (after_all s es).stopped ≡ false → stops es ≡ 0
never-stopped s [] is = refl
never-stopped s (TakeTheory i ∷ es) is = never-stopped (after s (TakeTheory i)) es is
never-stopped s (TakeProof n ∷ es) is = never-stopped (after s (TakeProof n)) es is
never-stopped s (Fork i c g ∷ es) is = never-stopped (after s (Fork i c g)) es is
never-stopped s (CloseTheory i c ∷ es) is = never-stopped (after s (CloseTheory i c)) es is
never-stopped s (Deliver n o f ∷ es) is = never-stopped (after s (Deliver n o f)) es is
never-stopped s (Stop ∷ es) is = absurd (let stays = stopped-stays (after s Stop) es refl in cc)

pub goes_on-stays : {G C O : Type 0} (s : State G C O) (es : List (Event G C O)) → s.stopped ≡ false → stops es ≡ 0 → (after_all s es).stopped ≡ false
goes_on-stays s [] is none = is
goes_on-stays s (TakeTheory i ∷ es) is none = goes_on-stays (after s (TakeTheory i)) es is none
goes_on-stays s (TakeProof n ∷ es) is none = goes_on-stays (after s (TakeProof n)) es is none
goes_on-stays s (Fork i c g ∷ es) is none = goes_on-stays (after s (Fork i c g)) es is none
goes_on-stays s (CloseTheory i c ∷ es) is none = goes_on-stays (after s (CloseTheory i c)) es is none
goes_on-stays s (Deliver n o f ∷ es) is none = goes_on-stays (after s (Deliver n o f)) es ((delivered-keeps s n o f).1 ∙ is) none
goes_on-stays s (Stop ∷ es) is none = absurd (omega arith)
