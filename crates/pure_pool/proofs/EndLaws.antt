-- Seats that were served to the end, and their board once it is closed.
use Rattle.std.proofs.Common.{◌≡◌, ◌∙◌, ◌⊎◌, ℕ, zero, suc, ◌<◌, List, [], ◌∷◌, ◌++◌, take, Bool, true, false, Result, Ok, Err, IfOk, refl, sym, ap, subst, inl, inr, arith}
use mathlib.Core.List.{IsPrefix}
use Rattle.pure_text.specs.Lists.{IsIn, Each, AnyOf, EachTwo}
use Rattle.pure_text.proofs.ListLaws.{any_some, any_decided, each_at, each_imply, in-append_right}
use Rattle.pure_machine.specs.Policy.{Opening}
use Rattle.pure_machine.specs.State.{Event, opened}
use Rattle.pure_machine.specs.Step.{IsFinished, stops}
use Rattle.pure_core_runs.specs.Seats.{events_of, own, state_of, IsOrderly, IsOrderlySeat, IsNumberedRun}
use Rattle.pure_core_runs.proofs.SplitLaws.{own-append, events-append, state-append, stops-append}
use Rattle.pure_core_runs.proofs.StayLaws.{stopped-stays, never-stopped}
use Rattle.pure_core_runs.proofs.SeatLaws.{finished-keeps, orderly-others}
use Rattle.pure_board.specs.Boards.{AreAll, AreOpened, IsFresh, Ending, IsEnded, IsOfSeats}
use Rattle.pure_board.specs.Sight.{Plan, Sight}
use Rattle.pure_pool.specs.Seated.{AreBack, IsServedBy, IsServedSeat}
use Rattle.pure_pool.specs.Served.{IsServed}
use Rattle.pure_pool.specs.Executed.{IsExecuted}

no-more : {A : Type 0} (xs ys : List A) → xs ++ ys ≡ xs → ys ≡ []
no-more [] ys e = e
no-more (x ∷ xs) ys e = no-more xs ys (cc e)

pub ok_imply : {A E : Type 0} {P Q : A → Type 0} (r : Result A E) → ((x : A) → P x → Q x) → IfOk r P → IfOk r Q
ok_imply (Ok x) f h = f x h
ok_imply (Err e) f h = tt

stopped_not : (b : Bool) → b ≡ true → b ≡ false → ⊥
stopped_not true e f = cc f
stopped_not false e f = cc e

nat_decided : (m n : ℕ) → (m ≡ n) ⊎ ¬ (m ≡ n)
nat_decided zero zero = inl refl
nat_decided zero (suc n) = inr (λ e. cc e)
nat_decided (suc m) zero = inr (λ e. cc e)
nat_decided (suc m) (suc n) = elim (nat_decided m n) [ inl e ↦ inl (ap suc e) | inr d ↦ inr (λ e. d (cc e)) ]

-- what a seat did is all that stands of it in the closed board's history, so the seat stays orderly there
seat-orderly : {G C O : Type 0} (o : Opening) (history seen more : List (ℕ × Event G C O)) (seat : ℕ) (entered : List (Event G C O)) → seen ++ more ≡ history → own seat history ≡ entered → entered ≡ own seat seen → IsOrderlySeat o seen seat → IsOrderlySeat o history seat
seat-orderly {G} {C} {O} o history seen more seat entered joined all known orderly =
    subst (λ (h : List (ℕ × Event G C O)). IsOrderlySeat o h seat) joined (orderly-others o seen more seat orderly
    (no-more (own seat seen) (own seat more) (sym (own-append seat seen more) ∙ (ap (own seat) joined ∙ (all ∙ known)))))

-- a seat that entered nothing is orderly
absent-orderly : {G C O : Type 0} (o : Opening) (history : List (ℕ × Event G C O)) (seat : ℕ) → ((e : Event G C O) → ¬ IsIn (seat, e) history) → IsOrderlySeat o history seat
absent-orderly o history seat none before after e cut take = absurd (none e (subst (IsIn (seat, e)) (sym cut) (in-append_right (seat, e) before ((seat, e) ∷ after) (inl refl))))

module _ {W G C O : Type 0} where
  -- a seat of the board, opened so, that was served to the end
  pub record IsDoneSeat (board : Plan W) (o : Opening) (s : Sight W G C O) : Type 0 where
    pub plan : s.plan ≡ board
    pub opening : s.opening ≡ o
    pub served : IsServedSeat s

  done-seats : (board : Plan W) (o : Opening) (old new : List (Sight W G C O)) → EachTwo IsServedBy old new → Each (IsFresh board o) old → Each (IsDoneSeat board o) new
  done-seats board o [] [] two fresh = tt
  done-seats board o [] (y ∷ ys) two fresh = absurd two
  done-seats board o (x ∷ xs) [] two fresh = absurd two
  done-seats board o (x ∷ xs) (y ∷ ys) two fresh =
      (record { plan = two.0.same.plan ∙ fresh.0.plan; opening = two.0.same.opening ∙ fresh.0.opening; served = two.0.served }, done-seats board o xs ys two.1 fresh.1)

  same-number : (n : ℕ) (old new : List (Sight W G C O)) → EachTwo IsServedBy old new → AnyOf (λ s. s.number ≡ n) old → AnyOf (λ s. s.number ≡ n) new
  same-number n [] new two any = absurd any
  same-number n (x ∷ xs) [] two any = absurd two
  same-number n (x ∷ xs) (y ∷ ys) two (inl here) = inl (two.0.same.number ∙ here)
  same-number n (x ∷ xs) (y ∷ ys) two (inr there) = inr (same-number n xs ys two.1 there)

  all-seats : (workers : ℕ) (old new : List (Sight W G C O)) → EachTwo IsServedBy old new → AreAll workers old → AreAll workers new
  all-seats workers old new two all = λ n below. same-number n old new two (all n below)

  -- the seat of this number, or there is none
  seat_or_none : (seat : ℕ) (seats : List (Sight W G C O)) → AnyOf (λ s. s.number ≡ seat) seats ⊎ ¬ AnyOf (λ s. s.number ≡ seat) seats
  seat_or_none seat seats = any_decided (λ s. s.number ≡ seat) (λ s. nat_decided s.number seat) seats

  -- all seats of the board, each served to the end
  pub record AreServed (board : Plan W) (o : Opening) (seats : List (Sight W G C O)) : Type 0 where
    pub all : AreAll o.workers seats
    pub done : Each (IsDoneSeat board o) seats
    pub plans : Each (λ s. s.plan ≡ board) seats
    pub openings : Each (λ s. s.opening ≡ o) seats

  -- the seats of a board that was just opened, as their workers hand them back
  pub served-all : (board : Plan W) (o : Opening) (seats served : List (Sight W G C O)) → AreOpened board o seats → EachTwo IsServedBy seats served → AreServed board o served
  served-all board o seats served opened' two =
      let done = done-seats board o seats served two opened'.fresh in
      record {
        all = all-seats o.workers seats served two opened'.all;
        done = done;
        plans = each_imply (IsDoneSeat board o) (λ s. s.plan ≡ board) served (λ s d. d.plan) done;
        openings = each_imply (IsDoneSeat board o) (λ s. s.opening ≡ o) served (λ s d. d.opening) done;
      }

  -- they are fresh for workers
  pub opened-fresh : (board : Plan W) (o : Opening) (seats : List (Sight W G C O)) → AreOpened board o seats → Each (λ s. (s.plan ≡ board) × (s.own ≡ [])) seats
  opened-fresh board o seats opened' = each_imply (IsFresh board o) (λ s. (s.plan ≡ board) × (s.own ≡ [])) seats (λ s f. (f.plan, f.own)) opened'.fresh

  -- if they come back, they come back served
  pub back-ok : {V E : Type 0} (items : V → List (Sight W G C O)) (served : Result V E) (board : Plan W) (fresh : List (Sight W G C O)) (o : Opening) → 0 < o.workers → AreOpened board o fresh → IfOk served (λ v. EachTwo IsServedBy fresh (items v)) → IfOk served (λ v. AreBack board o (items v))
  back-ok items (Ok v) board fresh o some' opened' two = record { some = some'; fresh = fresh; opened = opened'; served = two }
  back-ok items (Err e) board fresh o some' opened' two = tt

  pub back-any : {V E : Type 0} (items : V → List (Sight W G C O)) (served : Result V E) (board : Plan W) (fresh : List (Sight W G C O)) (o : Opening) → 0 < o.workers → AreOpened board o fresh → IfOk served (λ v. EachTwo IsServedBy fresh (items v)) → IfOk served (λ v. (p : Opening) × AreBack board p (items v))
  back-any items (Ok v) board fresh o some' opened' two = (o, record { some = some'; fresh = fresh; opened = opened'; served = two })
  back-any items (Err e) board fresh o some' opened' two = tt

  module _ (shape : W → List (List ℕ)) (forks : W → ℕ → ℕ → ℕ → G → Type 0) (closes : W → ℕ → ℕ → C → Type 0) (may : W → G → O → Type 0) (is_fault : W → O → Bool) where
    all-orderly : (board : Plan W) (seats : List (Sight W G C O)) (end : Ending W G C O) → Each (IsDoneSeat board end.opening) seats → IsOfSeats seats end → IsOrderly end.opening end.history
    all-orderly board seats end done of seat = elim (seat_or_none seat seats) [
      | inl there ↦ (let s = any_some (λ s. s.number ≡ seat) seats there in
          let d = each_at (IsDoneSeat board end.opening) seats done s.0 s.1 in
          let p = each_at (λ s. IsPrefix s.seen end.history) seats of.begins s.0 s.1 in
          subst (IsOrderlySeat end.opening end.history) s.2 (seat-orderly end.opening end.history s.0.seen p.0 s.0.number s.0.own p.1
          (each_at (λ s. own s.number end.history ≡ s.own) seats of.entries s.0 s.1)
          (each_at (λ s. s.own ≡ own s.number s.seen) seats of.knew s.0 s.1)
          (subst (λ (x : Opening). IsOrderlySeat x s.0.seen s.0.number) d.opening d.served.orderly)))
      | inr none ↦ absent-orderly end.opening end.history seat (λ e m. none (each_at (λ a. AnyOf (λ s. s.number ≡ a.0) seats) end.history of.no_others (seat, e) m))
    ]

    -- the work wasn't stopped, so some seat saw that all was finished, and it still is
    still-finished : (board : Plan W) (s : Sight W G C O) (end : Ending W G C O) (more : List (ℕ × Event G C O)) → IsEnded shape forks closes may is_fault end → end.core.stopped ≡ false → IsDoneSeat board end.opening s → s.seen ++ more ≡ end.history → stops (events_of end.history) ≡ 0 → IsFinished end.core
    still-finished board s end more ended goes_on done joined unstopped =
        let served = subst (λ (x : Opening). IsServed x s.number s.seen) done.opening done.served in
        let run = subst (IsNumberedRun (forks end.session) (closes end.session) (may end.session) (is_fault end.session) end.opening) (sym joined) ended.run in
        let sum = stops-append (events_of s.seen) (events_of more) in
        let none : stops (events_of more) ≡ 0 = (let both = ap stops (sym (events-append s.seen more) ∙ ap events_of joined) in omega (arith, sum, both, unstopped)) in
        subst IsFinished (ap (state_of end.opening) joined ∙ sym ended.state) (elim served.ended [
          | inl finished ↦ finished-keeps (forks end.session) (closes end.session) (may end.session) (is_fault end.session) end.opening s.seen more run finished none
          | inr stopped ↦ absurd (stopped_not end.core.stopped (ap (λ s. s.stopped) ended.state ∙ (ap (λ h. (state_of end.opening h).stopped) (sym joined) ∙ (ap (λ s. s.stopped) (state-append end.opening s.seen more) ∙ stopped-stays (state_of end.opening s.seen) (events_of more) stopped))) goes_on)
        ])

    ended-executed : (board : Plan W) (o : Opening) (seats : List (Sight W G C O)) (end : Ending W G C O) → 0 < o.workers → AreAll o.workers seats → Each (IsDoneSeat board o) seats
        → IsEnded shape forks closes may is_fault end → IsOfSeats seats end → end.core.stopped ≡ false → (end.opening ≡ o) × IsExecuted end
    ended-executed board o seats end some' all done ended of goes_on =
        let s = any_some (λ s. s.number ≡ 0) seats (all 0 some') in
        let here : end.opening ≡ o = sym (each_at (λ s. s.opening ≡ end.opening) seats of.openings s.0 s.1) ∙ (each_at (IsDoneSeat board o) seats done s.0 s.1).opening in
        let done' = subst (λ (x : Opening). Each (IsDoneSeat board x) seats) (sym here) done in
        let p = each_at (λ s. IsPrefix s.seen end.history) seats of.begins s.0 s.1 in
        let unstopped = never-stopped (opened end.opening) (events_of end.history) (ap (λ s. s.stopped) (sym ended.state) ∙ goes_on) in (
          here,
          record {
            unstopped = unstopped;
            finished = still-finished board s.0 end p.0 ended goes_on (each_at (IsDoneSeat board end.opening) seats done' s.0 s.1) p.1 unstopped;
            orderly = all-orderly board seats end done' of;
          },
        )

    -- what came of the work, once the board is closed
    pub closed-executed : (board : Plan W) (o : Opening) (seats : List (Sight W G C O)) (end : Ending W G C O) {E : Type 0} (r : Result (Ending W G C O) E) → 0 < o.workers → AreServed board o seats
        → IsEnded shape forks closes may is_fault end → IsOfSeats seats end → IfOk r (λ x. x ≡ end) → IfOk r (λ x. x.core.stopped ≡ false) → IfOk r (λ x. (x.opening ≡ o) × IsExecuted x)
    closed-executed board o seats end (Ok x) some' served ended of same goes_on =
        subst (λ (y : Ending W G C O). (y.opening ≡ o) × IsExecuted y) (sym same)
        (ended-executed board o seats end some' served.all served.done ended of (ap (λ (y : Ending W G C O). y.core.stopped) (sym same) ∙ goes_on))
    closed-executed board o seats end (Err e) some' served ended of same goes_on = tt
