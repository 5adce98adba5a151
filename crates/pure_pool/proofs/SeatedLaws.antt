-- What a seat has in hand, call by call.
use Rattle.std.proofs.Common.{◌≡◌, ◌∙◌, ℕ, ◌+◌, List, [], ◌∷◌, ◌++◌, map, refl, sym, ap, subst, Bool, true, false, Some, slice_get, inl, inr}
use Rattle.pure_text.specs.Lists.{IsIn, EachTwo}
use Rattle.pure_text.proofs.ListLaws.{in-append_right}
use Rattle.pure_machine.specs.Policy.{Opening, due}
use Rattle.pure_machine.specs.State.{Promise, Cancelled, Event, TakeTheory, TakeProof, Fork, CloseTheory, Deliver, Stop, is_theory_cancelled, parents_at, opened, waiting, unmarked}
use Rattle.pure_machine.specs.Step.{Stands, IsOver, IsReady, IsFinished, stops}
use Rattle.pure_machine.specs.Calls.{polled_as, is_in_cancelled}
use Rattle.pure_machine.specs.declared.answers.Polled as polled
use Rattle.pure_machine.specs.declared.answers.Polled.TheVariants as polled_code
use Rattle.pure_core.proofs.KeptLaws.{cancel-keeps}
use Rattle.pure_core.proofs.AloneLaws.{parents-may}
use Rattle.pure_core_runs.specs.Seats.{events_of, own, state_of, IsNumberedRun, IsOrderlySeat, forks_in}
use Rattle.pure_core_runs.proofs.SplitLaws.{own-append, in-own}
use Rattle.pure_core_runs.proofs.StayLaws.{goes_on-stays}
use Rattle.pure_core_runs.proofs.GroupLaws.{gone-opened, gone-after_all, over-delivered}
use Rattle.pure_core_runs.proofs.SeatLaws.{run-begins, run-allows, run-kept, promise-keeps, out-known, state-opening, orderly-own}
use Rattle.pure_board.specs.Sight.{Plan, Sight, IsTrueSight, Sees, Enters}
use Rattle.pure_board.specs.Taken.{IsGoalOf, state_seen}
use Rattle.pure_pool.specs.Held.{Held, Nothing, Theory, Proof, Holds}
use Rattle.pure_pool.specs.Seated.{Has, IsSameSeat, IsServedSeat}
use Rattle.pure_pool.proofs.EntryLaws.{state-entered, own-entered}
use Rattle.pure_pool.proofs.HeldLaws.{no_theory, no_proof, holds-more, holds-theory, theory-unforked, holds-fork, theory-forked, holds-close, holds-proof, holds-deliver, holds-cancelled}

abbrev IsYes : Bool → Type 0
IsYes true = Unit {0}
IsYes false = ⊥

true-false : true ≡ false → ⊥
true-false e = subst IsYes e tt

-- lists that end alike
nil-behind : {A : Type 0} (xs ys : List A) → xs ++ ys ≡ xs → ys ≡ []
nil-behind [] ys e = e
nil-behind {A} (x ∷ xs) ys e = nil-behind xs ys (ap rest e)
  where
    rest : List A → List A
    rest [] = []
    rest (z ∷ zs) = zs

abbrev front-of : {A : Type 0} → List A → List A
front-of [] = []
front-of (x ∷ []) = []
front-of (x ∷ y ∷ ys) = x ∷ front-of (y ∷ ys)

front-snoc : {A : Type 0} (xs : List A) (x : A) → front-of (xs ++ x ∷ []) ≡ xs
front-snoc [] x = refl
front-snoc (y ∷ []) x = refl
front-snoc (y ∷ z ∷ zs) x = ap (λ l. y ∷ l) (front-snoc (z ∷ zs) x)

same-front : {A : Type 0} (xs ys : List A) (x : A) → xs ++ x ∷ [] ≡ ys ++ x ∷ [] → xs ≡ ys
same-front xs ys x e = sym (front-snoc xs x) ∙ ap front-of e ∙ front-snoc ys x

-- the work isn't stopped where no event stopped it
unstopped : {G C O : Type 0} (o : Opening) (acts : List (ℕ × Event G C O)) → stops (events_of acts) ≡ 0 → (state_of o acts).stopped ≡ false
unstopped {G} {C} {O} o acts none = goes_on-stays (opened o) (events_of acts) (cancel-keeps {G = G} {C = C} {O = O} (record { opening = o; theories = waiting o.shape; promises = []; cancelled = unmarked o.shape; kept = 0; stopped = false; history = [] }) (due o.policy.cancels 0)).3 none

module _ {W G C O : Type 0} (shape : W → List (List ℕ)) (forks : W → ℕ → ℕ → ℕ → G → Type 0) (closes : W → ℕ → ℕ → C → Type 0) (may : W → G → O → Type 0) (is_fault : W → O → Bool) where
  abbrev RunAt : Plan W → Opening → List (ℕ × Event G C O) → Type 0
  RunAt p o acts = IsNumberedRun (forks p.session) (closes p.session) (may p.session) (is_fault p.session) o acts

  abbrev HoldsAt : Plan W → Opening → ℕ → List (ℕ × Event G C O) → Held → Type 0
  HoldsAt p o k acts held = Holds (forks p.session) (closes p.session) (may p.session) (is_fault p.session) o k acts held

  abbrev True : Sight W G C O → Type 0
  True v = IsTrueSight shape forks closes may is_fault v

  abbrev Hand : Sight W G C O → Held → Type 0
  Hand v held = Has forks closes may is_fault v held

  run-seen : (w : Sight W G C O) (p : Plan W) (o : Opening) (acts : List (ℕ × Event G C O)) → w.plan ≡ p → w.opening ≡ o → w.seen ≡ acts → True w → RunAt p o acts
  run-seen w p o acts plan opening seen true_w = subst (λ x. RunAt x o acts) plan (subst (λ x. RunAt w.plan x acts) opening (subst (RunAt w.plan w.opening) seen true_w.lawful))

  hand-seen : (w : Sight W G C O) (p : Plan W) (o : Opening) (k : ℕ) (acts : List (ℕ × Event G C O)) (held : Held) → w.plan ≡ p → w.opening ≡ o → w.number ≡ k → w.seen ≡ acts → True w → HoldsAt p o k acts held → Hand w held
  hand-seen w p o k acts held plan opening number seen true_w h = record {
    holds = subst (λ x. HoldsAt x w.opening w.number w.seen held) (sym plan) (subst (λ x. HoldsAt p x w.number w.seen held) (sym opening) (subst (λ x. HoldsAt p o x w.seen held) (sym number) (subst (λ x. HoldsAt p o k x held) (sym seen) h)));
    entries = true_w.entries;
  }

  own-seen : (v w : Sight W G C O) (acts : List (ℕ × Event G C O)) → w.number ≡ v.number → w.seen ≡ acts → True w → own v.number acts ≡ w.own
  own-seen v w acts number seen true_w = sym (true_w.entries ∙ ap (λ k. own k w.seen) number ∙ ap (own v.number) seen)

  -- more was seen
  pub sees-hand : (v w : Sight W G C O) (held : Held) → Hand v held → True w → Sees v w → Hand w held
  sees-hand v w held h true_w sees =
      let p = v.plan in
      let all : own v.number v.seen ++ own v.number sees.more ≡ own v.number v.seen = sym (own-append v.number v.seen sees.more) ∙ own-seen v w (v.seen ++ sees.more) sees.number sees.seen true_w ∙ sees.own ∙ h.entries in
      hand-seen w p v.opening v.number (v.seen ++ sees.more) held sees.plan sees.opening sees.number sees.seen true_w
      (holds-more (forks p.session) (closes p.session) (may p.session) (is_fault p.session) v.opening v.number v.seen sees.more held h.holds (run-seen w p v.opening (v.seen ++ sees.more) sees.plan sees.opening sees.seen true_w) (nil-behind (own v.number v.seen) (own v.number sees.more) all))

  goal-stays : (p : Plan W) (o : Opening) (acts more : List (ℕ × Event G C O)) (n : ℕ) (g : G) → RunAt p o (acts ++ more) → IsGoalOf (state_of o acts) n g → IsGoalOf (state_of o (acts ++ more)) n g
  goal-stays p o acts more n g run h =
      let q = promise-keeps (forks p.session) (closes p.session) (may p.session) (is_fault p.session) o acts more n h.0 run h.1 in
      (q.0, q.1, q.2.goal_is ∙ h.2)

  goal-seen : (w : Sight W G C O) (o : Opening) (acts : List (ℕ × Event G C O)) (n : ℕ) (g : G) → w.opening ≡ o → w.seen ≡ acts → IsGoalOf (state_of o acts) n g → IsGoalOf (state_seen w) n g
  goal-seen w o acts n g opening seen h = subst (λ x. IsGoalOf (state_of x w.seen) n g) (sym opening) (subst (λ x. IsGoalOf (state_of o x) n g) (sym seen) h)

  pub sees-goal : (v w : Sight W G C O) (n : ℕ) (g : G) → True w → Sees v w → IsGoalOf (state_seen v) n g → IsGoalOf (state_seen w) n g
  sees-goal v w n g true_w sees h = goal-seen w v.opening (v.seen ++ sees.more) n g sees.opening sees.seen (goal-stays v.plan v.opening v.seen sees.more n g (run-seen w v.plan v.opening (v.seen ++ sees.more) sees.plan sees.opening sees.seen true_w) h)

  pub enters-same : (v w : Sight W G C O) (log : List (ℕ × Event G C O)) (e : Event G C O) → Enters v w log e → IsSameSeat v w
  enters-same v w log e enters = record { plan = enters.plan; opening = enters.opening; number = enters.number }

  -- an event was entered: what the seat had in hand it had in hand before it
  pub run-entered : (v w : Sight W G C O) (log : List (ℕ × Event G C O)) (e : Event G C O) → True w → Enters v w log e → RunAt v.plan v.opening (log ++ (v.number, e) ∷ [])
  run-entered v w log e true_w enters = run-seen w v.plan v.opening (log ++ (v.number, e) ∷ []) enters.plan enters.opening enters.seen true_w

  pub log-hand : (v w : Sight W G C O) (log : List (ℕ × Event G C O)) (e : Event G C O) (held : Held) → Hand v held → True w → Enters v w log e → HoldsAt v.plan v.opening v.number log held
  log-hand v w log e held h true_w enters =
      let p = v.plan in
      let run : RunAt p v.opening log = run-begins (forks p.session) (closes p.session) (may p.session) (is_fault p.session) v.opening log ((v.number, e) ∷ []) (run-entered v w log e true_w enters) in
      let own_log : own v.number log ≡ own v.number v.seen = same-front (own v.number log) (own v.number v.seen) e (sym (own-entered v.number log e) ∙ own-seen v w (log ++ (v.number, e) ∷ []) enters.number enters.seen true_w ∙ enters.own ∙ ap (λ es. es ++ e ∷ []) h.entries) in
      let all : own v.number v.seen ++ own v.number enters.more ≡ own v.number v.seen = sym (own-append v.number v.seen enters.more) ∙ ap (own v.number) (sym enters.log_is) ∙ own_log in
      subst (λ x. HoldsAt p v.opening v.number x held) (sym enters.log_is) (holds-more (forks p.session) (closes p.session) (may p.session) (is_fault p.session) v.opening v.number v.seen enters.more held h.holds (subst (RunAt p v.opening) enters.log_is run) (nil-behind (own v.number v.seen) (own v.number enters.more) all))

  enters-hand : (v w : Sight W G C O) (log : List (ℕ × Event G C O)) (e : Event G C O) (held : Held) → True w → Enters v w log e → HoldsAt v.plan v.opening v.number (log ++ (v.number, e) ∷ []) held → Hand w held
  enters-hand v w log e held true_w enters h = hand-seen w v.plan v.opening v.number (log ++ (v.number, e) ∷ []) held enters.plan enters.opening enters.number enters.seen true_w h

  own-entry : (v w : Sight W G C O) (log : List (ℕ × Event G C O)) (e : Event G C O) → True w → Enters v w log e → own v.number (log ++ (v.number, e) ∷ []) ≡ w.own
  own-entry v w log e true_w enters = own-seen v w (log ++ (v.number, e) ∷ []) enters.number enters.seen true_w

  -- a theory is taken
  pub takes-theory : (v w : Sight W G C O) (log : List (ℕ × Event G C O)) (i : ℕ) (cs : List C) → Hand v Nothing → True w → Enters v w log (TakeTheory i) → IsReady (state_of v.opening log) i cs → Hand w (Theory i) × (forks_in i w.own ≡ 0)
  takes-theory v w log i cs h true_w enters ready =
      let p = v.plan in
      let before = log-hand v w log (TakeTheory i) Nothing h true_w enters in
      let now = holds-theory (forks p.session) (closes p.session) (may p.session) (is_fault p.session) v.opening v.number log i cs before (run-entered v w log (TakeTheory i) true_w enters) ready in (
        enters-hand v w log (TakeTheory i) (Theory i) true_w enters now,
        ap (forks_in i) (sym (own-entry v w log (TakeTheory i) true_w enters)) ∙ theory-unforked (forks p.session) (closes p.session) (may p.session) (is_fault p.session) v.opening v.number log i cs now ready,
      )

  pub takes-parents : {A : Type 0} → (v w : Sight W G C O) (log : List (ℕ × Event G C O)) (i : ℕ) (f : A → C) (parents : List A) → True w → Enters v w log (TakeTheory i) → IsReady (state_of v.opening log) i (map f parents)
      → (numbers : List ℕ) × (parents_at (shape v.plan.session) i ≡ Some numbers) × EachTwo (λ i c. (n : ℕ) × closes v.plan.session i n (f c)) numbers parents
  takes-parents v w log i f parents true_w enters ready =
      let p = v.plan in
      let run : RunAt p v.opening log = run-begins (forks p.session) (closes p.session) (may p.session) (is_fault p.session) v.opening log ((v.number, TakeTheory i) ∷ []) (run-entered v w log (TakeTheory i) true_w enters) in
      parents-may (forks p.session) (closes p.session) (state_of v.opening log) i (shape p.session) f parents (run-kept (forks p.session) (closes p.session) (may p.session) (is_fault p.session) v.opening log run) (ap (λ x. x.shape) (state-opening v.opening log ∙ sym enters.opening) ∙ true_w.shaped ∙ ap (λ x. shape x.session) enters.plan) ready

  -- it forks, and is closed
  pub forks-theory : (v w : Sight W G C O) (log : List (ℕ × Event G C O)) (i m : ℕ) (g : G) → Hand v (Theory i) → True w → Enters v w log (Fork i m g) → Hand w (Theory i) × (forks_in i w.own ≡ forks_in i v.own + 1)
  forks-theory v w log i m g h true_w enters =
      let p = v.plan in
      let before = log-hand v w log (Fork i m g) (Theory i) h true_w enters in
      let now = holds-fork (forks p.session) (closes p.session) (may p.session) (is_fault p.session) v.opening v.number log i m g before (run-entered v w log (Fork i m g) true_w enters) in
      let count = theory-forked (forks p.session) (closes p.session) (may p.session) (is_fault p.session) v.opening v.number log i m g before now in
      let own_log : own v.number log ≡ v.own = same-front (own v.number log) v.own (Fork i m g) (sym (own-entered v.number log (Fork i m g)) ∙ own-entry v w log (Fork i m g) true_w enters ∙ enters.own) in (
        enters-hand v w log (Fork i m g) (Theory i) true_w enters now,
        ap (forks_in i) (sym (own-entry v w log (Fork i m g) true_w enters)) ∙ count ∙ ap (λ es. forks_in i es + 1) own_log,
      )

  pub closes-theory : (v w : Sight W G C O) (log : List (ℕ × Event G C O)) (i : ℕ) (c : C) → Hand v (Theory i) → True w → Enters v w log (CloseTheory i c) → Hand w Nothing
  closes-theory v w log i c h true_w enters =
      let p = v.plan in
      let before = log-hand v w log (CloseTheory i c) (Theory i) h true_w enters in
      enters-hand v w log (CloseTheory i c) Nothing true_w enters (holds-close (forks p.session) (closes p.session) (may p.session) (is_fault p.session) v.opening v.number log i c before (run-entered v w log (CloseTheory i c) true_w enters))

  -- a proof is taken
  pub takes-proof : (v w : Sight W G C O) (log : List (ℕ × Event G C O)) (n : ℕ) (g : G) → Hand v Nothing → True w → Enters v w log (TakeProof n) → IsGoalOf (state_of v.opening log) n g → Hand w (Proof n) × IsGoalOf (state_seen w) n g × ((i : ℕ) × (k : ℕ) × (m : ℕ) × forks v.plan.session i k m g)
  takes-proof v w log n g h true_w enters goal =
      let p = v.plan in
      let run = run-entered v w log (TakeProof n) true_w enters in
      let before = log-hand v w log (TakeProof n) Nothing h true_w enters in
      let next = (run-allows (forks p.session) (closes p.session) (may p.session) (is_fault p.session) v.opening (log ++ (v.number, TakeProof n) ∷ []) log [] v.number (TakeProof n) run refl).2 in
      let kept = (run-kept (forks p.session) (closes p.session) (may p.session) (is_fault p.session) v.opening log before.run).goals n goal.0 goal.1 in (
        enters-hand v w log (TakeProof n) (Proof n) true_w enters (holds-proof (forks p.session) (closes p.session) (may p.session) (is_fault p.session) v.opening v.number log n next.0 before run next.1.0 next.1.1),
        goal-seen w v.opening (log ++ (v.number, TakeProof n) ∷ []) n g enters.opening enters.seen (goal-stays p v.opening log ((v.number, TakeProof n) ∷ []) n g run goal),
        (kept.0, kept.1, kept.2, subst (forks p.session kept.0 kept.1 kept.2) goal.2 kept.3),
      )

  -- its outcome is delivered
  pub delivers-proof : (v w : Sight W G C O) (log : List (ℕ × Event G C O)) (n : ℕ) (u : O) (f : Bool) → Hand v (Proof n) → True w → Enters v w log (Deliver n u f) → Hand w Nothing
  delivers-proof v w log n u f h true_w enters =
      let p = v.plan in
      let run = run-entered v w log (Deliver n u f) true_w enters in
      let before = log-hand v w log (Deliver n u f) (Proof n) h true_w enters in
      let known = out-known (forks p.session) (closes p.session) (may p.session) (is_fault p.session) v.opening log v.number n before.run before.in_hand in
      let over = over-delivered (state_of v.opening log) n u f known.1.0 known.1.1 known.1.2 in
      enters-hand v w log (Deliver n u f) Nothing true_w enters (holds-deliver (forks p.session) (closes p.session) (may p.session) (is_fault p.session) v.opening v.number log n u f before run
      (subst (λ s. (q : Promise G O) × Stands s n q × IsOver q.standing) (sym (state-entered v.opening log v.number (Deliver n u f))) over))

  abbrev is_stopped : polled.Polled → Bool
  is_stopped polled_code.Stopped = true
  is_stopped _ = false

  abbrev is_cancelled : polled.Polled → Bool
  is_cancelled polled_code.Cancelled = true
  is_cancelled _ = false

  -- a poll found it in a cancelled group, or the work stopped
  polled-cancelled : (stopped gone : Bool) → polled_code.Cancelled ≡ polled_as stopped gone → gone ≡ true
  polled-cancelled true gone e = absurd (true-false (ap is_stopped (sym e)))
  polled-cancelled false true e = refl
  polled-cancelled false false e = absurd (true-false (ap is_cancelled e))

  polled-stopped : (stopped gone : Bool) → polled_code.Stopped ≡ polled_as stopped gone → stopped ≡ true
  polled-stopped true gone e = refl
  polled-stopped false true e = absurd (true-false (ap is_stopped e))
  polled-stopped false false e = absurd (true-false (ap is_stopped e))

  pub finds-cancelled : (w : Sight W G C O) (n : ℕ) → Hand w (Proof n) → polled_code.Cancelled ≡ polled_as (state_seen w).stopped (is_in_cancelled (state_seen w) (slice_get (state_seen w).promises n)) → Hand w Nothing
  finds-cancelled w n h polled =
      let p = w.plan in
      let s = state_seen w in
      let gone : is_in_cancelled s (slice_get s.promises n) ≡ true = polled-cancelled s.stopped (is_in_cancelled s (slice_get s.promises n)) polled in
      let known = out-known (forks p.session) (closes p.session) (may p.session) (is_fault p.session) w.opening w.seen w.number n h.holds.run h.holds.in_hand in
      let group : is_theory_cancelled s.cancelled known.1.0.theory ≡ true = ap (is_in_cancelled s) (sym known.1.1) ∙ gone in
      let over = (gone-after_all (forks p.session) (closes p.session) (may p.session) (is_fault p.session) (opened w.opening) (events_of w.seen) h.holds.run.run (gone-opened w.opening)).gone n known.1.0 known.1.1 group in
      let cancelled : known.1.0.standing ≡ Cancelled = elim known.1.2 [ inl taken ↦ absurd (subst IsOver taken over) | inr c ↦ c ] in
      record {
        holds = holds-cancelled (forks p.session) (closes p.session) (may p.session) (is_fault p.session) w.opening w.number w.seen n h.holds (known.1.0, known.1.1, cancelled);
        entries = h.entries;
      }

  -- the end
  pub stopped-ends : (w : Sight W G C O) (held : Held) → Hand w held → (state_seen w).stopped ≡ true → IsServedSeat w
  stopped-ends w held h stopped = record {
    ended = inr stopped;
    all_done = λ none. absurd (true-false (sym stopped ∙ unstopped w.opening w.seen none));
    orderly = h.holds.orderly;
  }

  pub polled-ends : (w : Sight W G C O) (held : Held) (n : ℕ) → Hand w held → polled_code.Stopped ≡ polled_as (state_seen w).stopped (is_in_cancelled (state_seen w) (slice_get (state_seen w).promises n)) → IsServedSeat w
  polled-ends w held n h polled = stopped-ends w held h (polled-stopped (state_seen w).stopped (is_in_cancelled (state_seen w) (slice_get (state_seen w).promises n)) polled)

  pub finished-ends : (w : Sight W G C O) → Hand w Nothing → IsFinished (state_seen w) → IsServedSeat w
  finished-ends w h finished = record {
    ended = inl finished;
    all_done = λ none. record {
      theories = λ i t. (h.holds.theories i t (no_theory i)).1;
      promises = λ n t. (h.holds.promises n t (no_proof n)).1;
    };
    orderly = h.holds.orderly;
  }

  -- the seat stops the work
  pub stop-ends : (v w : Sight W G C O) (log : List (ℕ × Event G C O)) (held : Held) → Hand v held → True w → Enters v w log Stop → IsServedSeat w
  stop-ends v w log held h true_w enters =
      let acts = log ++ (v.number, Stop) ∷ [] in
      let before = log-hand v w log Stop held h true_w enters in
      let here : (state_seen w).stopped ≡ true = ap (λ x. (state_of x w.seen).stopped) enters.opening ∙ ap (λ x. (state_of v.opening x).stopped) enters.seen ∙ ap (λ s. s.stopped) (state-entered v.opening log v.number Stop) in
      let orderly : IsOrderlySeat v.opening acts v.number = orderly-own v.opening log v.number Stop before.orderly (λ t. absurd t) in
      let orderly_now : IsOrderlySeat w.opening w.seen w.number = subst (λ x. IsOrderlySeat x w.seen w.number) (sym enters.opening) (subst (λ k. IsOrderlySeat v.opening w.seen k) (sym enters.number) (subst (λ x. IsOrderlySeat v.opening x v.number) (sym enters.seen) orderly)) in
      record {
        ended = inr here;
        all_done = λ none. absurd (true-false (sym here ∙ unstopped w.opening w.seen none));
        orderly = orderly_now;
      }

  -- the beginning
  pub fresh-hand : (v : Sight W G C O) → True v → v.own ≡ [] → Hand v Nothing
  fresh-hand v true_v none = record {
    holds = record {
      run = true_v.lawful;
      goes_on = ap stops nothing;
      orderly = λ before after e same take. absurd (subst (IsIn e) nothing (in-own v.number e v.seen (subst (IsIn (v.number, e)) (sym same) (in-append_right (v.number, e) before ((v.number, e) ∷ after) (inl refl)))));
      in_hand = tt;
      theories = λ i t other. absurd (subst (IsIn (TakeTheory i)) nothing t);
      promises = λ n t other. absurd (subst (IsIn (TakeProof n)) nothing t);
    };
    entries = true_v.entries;
  }
    where
      nothing : own v.number v.seen ≡ []
      nothing = sym true_v.entries ∙ none
