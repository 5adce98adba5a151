-- What a seat has in hand, event by event.
use Rattle.std.proofs.Common.{◌≡◌, ◌≢◌, ◌∙◌, ℕ, ◌+◌, List, [], ◌∷◌, ◌++◌, refl, sym, ap, subst, arith, Bool, Some, inl, inr, ◌⊎◌}
use Rattle.std.proofs.lemmas.Option.{same_Some}
use Rattle.std.proofs.lemmas.List.{append-nil}
use Rattle.pure_text.specs.Lists.{IsIn}
use Rattle.pure_text.proofs.ListLaws.{in_split, in-append_left, in-append_right}
use Rattle.pure_machine.specs.Policy.{Opening}
use Rattle.pure_machine.specs.State.{Progress, Waiting, Running, Closed, Promise, Standing, Ready, Event, TakeTheory, TakeProof, Fork, CloseTheory, Deliver, Stop, theory_at}
use Rattle.pure_machine.specs.Step.{Stands, IsOver, IsClosed, IsReady, forked_once, closed_by, stops}
use Rattle.pure_core.proofs.PlaceLaws.{theory-there}
use Rattle.pure_core_runs.specs.Seats.{own, state_of, IsNumberedRun, HasNothingOpen, IsTake, IsOrderlySeat, forks_in}
use Rattle.pure_pool.specs.Held.{Held, Nothing, Theory, Proof, IsHeld, WasCancelled, IsDone, IsSettled, Holds}
use Rattle.pure_core_runs.proofs.SplitLaws.{own-append, own-in, split_in, stops-append}
use Rattle.pure_core_runs.proofs.SeatLaws.{promise-keeps, closed-keeps, running-known, orderly-others, orderly-own}
use Rattle.pure_pool.proofs.EntryLaws.{eq-tells, state-entered, own-entered}

-- what is in hand, as a number, so that two are told apart
abbrev IsNothing : Held → Type 0
IsNothing Nothing = Unit {0}
IsNothing _ = ⊥

abbrev theory_of : Held → ℕ
theory_of (Theory i) = i
theory_of _ = 0

abbrev proof_of : Held → ℕ
proof_of (Proof n) = n
proof_of _ = 0

abbrev IsTheory : Held → Type 0
IsTheory (Theory i) = Unit {0}
IsTheory _ = ⊥

pub no_theory : (i : ℕ) → ◌≢◌ {A = Held} Nothing (Theory i)
no_theory i e = subst IsNothing e tt

pub no_proof : (n : ℕ) → ◌≢◌ {A = Held} Nothing (Proof n)
no_proof n e = subst IsNothing e tt

no_theory_proof : (i n : ℕ) → ◌≢◌ {A = Held} (Theory i) (Proof n)
no_theory_proof i n e = subst IsTheory e tt

no_proof_theory : (n i : ℕ) → ◌≢◌ {A = Held} (Proof n) (Theory i)
no_proof_theory n i e = subst IsTheory (sym e) tt

-- events of different kinds
abbrev kind : {G C O : Type 0} → Event G C O → ℕ
kind (TakeTheory i) = 0
kind (TakeProof n) = 1
kind (Fork i c g) = 2
kind (CloseTheory i c) = 3
kind (Deliver n o f) = 4
kind Stop = 5

abbrev place : {G C O : Type 0} → Event G C O → ℕ
place (TakeTheory i) = i
place (TakeProof n) = n
place (CloseTheory i c) = i
place (Deliver n o f) = n
place _ = 0

module _ {G C O : Type 0} (forks : ℕ → ℕ → ℕ → G → Type 0) (closes : ℕ → ℕ → C → Type 0) (may : G → O → Type 0) (is_fault : O → Bool) (o : Opening) (seat : ℕ) where
  abbrev Run : List (ℕ × Event G C O) → Type 0
  Run acts = IsNumberedRun forks closes may is_fault o acts

  abbrev Has : List (ℕ × Event G C O) → Held → Type 0
  Has acts held = Holds forks closes may is_fault o seat acts held

  done-stays : (acts more : List (ℕ × Event G C O)) (i : ℕ) → Run (acts ++ more) → IsDone (state_of o acts) (own seat acts) i → IsDone (state_of o (acts ++ more)) (own seat (acts ++ more)) i
  done-stays acts more i run done = (
    (done.0.0, closed-keeps forks closes may is_fault o acts more i done.0.0 run done.0.1 done.0.2, done.0.2),
    (done.1.0, subst (IsIn (CloseTheory i done.1.0)) (sym (own-append seat acts more)) (in-append_left (CloseTheory i done.1.0) (own seat acts) (own seat more) done.1.1)),
  )

  over-stays : (acts more : List (ℕ × Event G C O)) (n : ℕ) → Run (acts ++ more) → ((p : Promise G O) × Stands (state_of o acts) n p × IsOver p.standing) → (q : Promise G O) × Stands (state_of o (acts ++ more)) n q × IsOver q.standing
  over-stays acts more n run h =
      let q = promise-keeps forks closes may is_fault o acts more n h.0 run h.1 in
      (q.0, q.1, subst IsOver (sym (q.2.stays h.2)) h.2)

  cancelled-stays : (acts more : List (ℕ × Event G C O)) (n : ℕ) → Run (acts ++ more) → WasCancelled (state_of o acts) n → WasCancelled (state_of o (acts ++ more)) n
  cancelled-stays acts more n run h =
      let q = promise-keeps forks closes may is_fault o acts more n h.0 run h.1 in
      (q.0, q.1, q.2.stays (subst IsOver (sym h.2) tt) ∙ h.2)

  settled-stays : (acts more : List (ℕ × Event G C O)) (n : ℕ) → Run (acts ++ more) → IsSettled (state_of o acts) (own seat acts) n → IsSettled (state_of o (acts ++ more)) (own seat (acts ++ more)) n
  settled-stays acts more n run h = (
    over-stays acts more n run h.0,
    elim h.1 [
      | inl d ↦ inl (d.0, d.1, subst (IsIn (Deliver n d.0 d.1)) (sym (own-append seat acts more)) (in-append_left (Deliver n d.0 d.1) (own seat acts) (own seat more) d.2))
      | inr c ↦ inr (cancelled-stays acts more n run c)
    ],
  )

  -- others go on
  pub holds-more : (acts more : List (ℕ × Event G C O)) (held : Held) → Has acts held → Run (acts ++ more) → own seat more ≡ [] → Has (acts ++ more) held
  holds-more acts more held h run none = record {
    run = run;
    goes_on = ap stops same ∙ h.goes_on;
    orderly = orderly-others o acts more seat h.orderly none;
    in_hand = subst (λ es. IsHeld es held) (sym same) h.in_hand;
    theories = λ i t other. done-stays acts more i run (h.theories i (subst (IsIn (TakeTheory i)) same t) other);
    promises = λ n t other. settled-stays acts more n run (h.promises n (subst (IsIn (TakeProof n)) same t) other);
  }
    where
      same : own seat (acts ++ more) ≡ own seat acts
      same = own-append seat acts more ∙ ap (λ es. own seat acts ++ es) none ∙ append-nil (own seat acts)

  -- nothing is open of what a seat took that has nothing in hand
  nothing_open : (acts : List (ℕ × Event G C O)) → Has acts Nothing → HasNothingOpen (state_of o acts) (own seat acts)
  nothing_open acts h = record {
    theories = λ i t. (h.theories i t (no_theory i)).0;
    promises = λ n t. (h.promises n t (no_proof n)).0;
  }

  earlier-own : (acts before after : List (ℕ × Event G C O)) (e : Event G C O) → acts ≡ before ++ after → IsIn e (own seat before) → IsIn e (own seat acts)
  earlier-own acts before after e same h = subst (λ xs. IsIn e (own seat xs)) (sym same) (subst (IsIn e) (sym (own-append seat before after)) (in-append_left e (own seat before) (own seat after) h))

  -- what the seat closed or delivered it had taken
  close-taken : (acts : List (ℕ × Event G C O)) (i : ℕ) (c : C) → Run acts → IsIn (CloseTheory i c) (own seat acts) → IsIn (TakeTheory i) (own seat acts)
  close-taken acts i c run h =
      let at = split_in (seat, CloseTheory i c) acts (own-in seat (CloseTheory i c) acts h) in
      earlier-own acts at.0 ((seat, CloseTheory i c) ∷ at.1) (TakeTheory i) at.2 (run.takers at.0 at.1 seat (CloseTheory i c) at.2)

  deliver-taken : (acts : List (ℕ × Event G C O)) (n : ℕ) (u : O) (f : Bool) → Run acts → IsIn (Deliver n u f) (own seat acts) → IsIn (TakeProof n) (own seat acts)
  deliver-taken acts n u f run h =
      let at = split_in (seat, Deliver n u f) acts (own-in seat (Deliver n u f) acts h) in
      earlier-own acts at.0 ((seat, Deliver n u f) ∷ at.1) (TakeProof n) at.2 (run.takers at.0 at.1 seat (Deliver n u f) at.2)

  goes_on-entered : (acts : List (ℕ × Event G C O)) (e : Event G C O) → stops (own seat acts) ≡ 0 → stops (e ∷ []) ≡ 0 → stops (own seat (acts ++ (seat, e) ∷ [])) ≡ 0
  goes_on-entered acts e none one = ap stops (own-entered seat acts e) ∙ stops-append (own seat acts) (e ∷ []) ∙ omega (arith, none, one)

  -- one of the seat's own events is one of the earlier ones, or the last
  entered-or : (acts : List (ℕ × Event G C O)) (e d : Event G C O) → IsIn d (own seat (acts ++ (seat, e) ∷ [])) → IsIn d (own seat acts) ⊎ (d ≡ e)
  entered-or acts e d h = elim (in_split d (own seat acts) (e ∷ []) (subst (IsIn d) (own-entered seat acts e) h)) [
    | inl old ↦ inl old
    | inr here ↦ elim here [ inl same ↦ inr same | inr none ↦ absurd none ]
  ]

  entered-last : (acts : List (ℕ × Event G C O)) (e : Event G C O) → IsIn e (own seat (acts ++ (seat, e) ∷ []))
  entered-last acts e = subst (IsIn e) (sym (own-entered seat acts e)) (in-append_right e (own seat acts) (e ∷ []) (inl refl))

  entered-earlier : (acts : List (ℕ × Event G C O)) (e d : Event G C O) → IsIn d (own seat acts) → IsIn d (own seat (acts ++ (seat, e) ∷ []))
  entered-earlier acts e d h = subst (IsIn d) (sym (own-entered seat acts e)) (in-append_left d (own seat acts) (e ∷ []) h)

  -- of another kind than the last event
  entered-other : (acts : List (ℕ × Event G C O)) (e d : Event G C O) → (kind d ≡ kind e → ⊥) → IsIn d (own seat (acts ++ (seat, e) ∷ [])) → IsIn d (own seat acts)
  entered-other acts e d other h = elim (entered-or acts e d h) [ inl old ↦ old | inr same ↦ absurd (other (ap kind same)) ]

  orderly-entered : (acts : List (ℕ × Event G C O)) (e : Event G C O) → IsOrderlySeat o acts seat → (IsTake e → HasNothingOpen (state_of o acts) (own seat acts)) → IsOrderlySeat o (acts ++ (seat, e) ∷ []) seat
  orderly-entered acts e orderly free = orderly-own o acts seat e orderly free

  -- a theory is taken
  closed-waiting : (p : Progress C) → p ≡ Waiting → IsClosed p → ⊥
  closed-waiting p e h = subst IsClosed e h

  pub holds-theory : (acts : List (ℕ × Event G C O)) (i : ℕ) (cs : List C) → Has acts Nothing → Run (acts ++ (seat, TakeTheory i) ∷ []) → IsReady (state_of o acts) i cs → Has (acts ++ (seat, TakeTheory i) ∷ []) (Theory i)
  holds-theory acts i cs h run ready = record {
    run = run;
    goes_on = goes_on-entered acts (TakeTheory i) h.goes_on refl;
    orderly = orderly-entered acts (TakeTheory i) h.orderly (λ _. nothing_open acts h);
    in_hand = record {
      taken = entered-last acts (TakeTheory i);
      open_still = λ c closed. (
          let old = entered-other acts (TakeTheory i) (CloseTheory i c) (λ e. absurd (omega (arith, e))) closed in
          let done = h.theories i (close-taken acts i c h.run old) (no_theory i) in
          closed-waiting done.0.0 (same_Some done.0.0 Waiting (sym done.0.1 ∙ ready.waits)) done.0.2);
    };
    theories = λ j t other. elim (entered-or acts (TakeTheory i) (TakeTheory j) t) [
      | inl old ↦ done-stays acts ((seat, TakeTheory i) ∷ []) j run (h.theories j old (no_theory j))
      | inr same ↦ absurd (other (ap Theory (sym (ap place same))))
    ];
    promises = λ n t other. settled-stays acts ((seat, TakeTheory i) ∷ []) n run (h.promises n (entered-other acts (TakeTheory i) (TakeProof n) (λ e. absurd (omega (arith, e))) t) (no_proof n));
  }

  -- it has made no forks yet
  same_running : (k m : ℕ) → ◌≡◌ {A = Progress C} (Running k) (Running m) → k ≡ m
  same_running k m e = ap count e
    where
      count : Progress C → ℕ
      count (Running f) = f
      count _ = 0

  pub theory-unforked : (acts : List (ℕ × Event G C O)) (i : ℕ) (cs : List C) → Has (acts ++ (seat, TakeTheory i) ∷ []) (Theory i) → IsReady (state_of o acts) i cs → forks_in i (own seat (acts ++ (seat, TakeTheory i) ∷ [])) ≡ 0
  theory-unforked acts i cs h ready =
      let known = running-known forks closes may is_fault o (acts ++ (seat, TakeTheory i) ∷ []) seat i h.run h.in_hand in
      let there = theory-there (state_of o acts).theories i (Running 0) Waiting ready.waits in
      let now = ap (λ s. theory_at s.theories i) (state-entered o acts seat (TakeTheory i)) in
      same_running (forks_in i (own seat (acts ++ (seat, TakeTheory i) ∷ []))) 0 (same_Some (Running (forks_in i (own seat (acts ++ (seat, TakeTheory i) ∷ [])))) (Running 0) (sym known ∙ now ∙ there))

  -- it forks
  pub holds-fork : (acts : List (ℕ × Event G C O)) (i m : ℕ) (g : G) → Has acts (Theory i) → Run (acts ++ (seat, Fork i m g) ∷ []) → Has (acts ++ (seat, Fork i m g) ∷ []) (Theory i)
  holds-fork acts i m g h run = record {
    run = run;
    goes_on = goes_on-entered acts (Fork i m g) h.goes_on refl;
    orderly = orderly-entered acts (Fork i m g) h.orderly (λ t. absurd t);
    in_hand = record {
      taken = entered-earlier acts (Fork i m g) (TakeTheory i) h.in_hand.taken;
      open_still = λ c closed. h.in_hand.open_still c (entered-other acts (Fork i m g) (CloseTheory i c) (λ e. absurd (omega (arith, e))) closed);
    };
    theories = λ j t other. done-stays acts ((seat, Fork i m g) ∷ []) j run (h.theories j (entered-other acts (Fork i m g) (TakeTheory j) (λ e. absurd (omega (arith, e))) t) other);
    promises = λ n t other. settled-stays acts ((seat, Fork i m g) ∷ []) n run (h.promises n (entered-other acts (Fork i m g) (TakeProof n) (λ e. absurd (omega (arith, e))) t) other);
  }

  -- and has made one fork more
  pub theory-forked : (acts : List (ℕ × Event G C O)) (i m : ℕ) (g : G) → Has acts (Theory i) → Has (acts ++ (seat, Fork i m g) ∷ []) (Theory i) → forks_in i (own seat (acts ++ (seat, Fork i m g) ∷ [])) ≡ forks_in i (own seat acts) + 1
  theory-forked acts i m g h more =
      let s = state_of o acts in
      let k = forks_in i (own seat acts) in
      let l = forks_in i (own seat (acts ++ (seat, Fork i m g) ∷ [])) in
      let before : theory_at s.theories i ≡ Some (Running k) = running-known forks closes may is_fault o acts seat i h.run h.in_hand in
      let known : theory_at (state_of o (acts ++ (seat, Fork i m g) ∷ [])).theories i ≡ Some (Running l) = running-known forks closes may is_fault o (acts ++ (seat, Fork i m g) ∷ []) seat i more.run more.in_hand in
      let there = theory-there s.theories i (forked_once (theory_at s.theories i)) (Running k) before in
      let now = ap (λ x. theory_at x.theories i) (state-entered o acts seat (Fork i m g)) in
      same_running l (k + 1) (same_Some (Running l) (Running (k + 1)) (sym known ∙ now ∙ there ∙ ap Some (ap forked_once before)))

  -- it is closed
  closed-now : (acts : List (ℕ × Event G C O)) (i : ℕ) (c : C) → Has acts (Theory i) → (p : Progress C) × (theory_at (state_of o (acts ++ (seat, CloseTheory i c) ∷ [])).theories i ≡ Some p) × IsClosed p
  closed-now acts i c h =
      let s = state_of o acts in
      let k = forks_in i (own seat acts) in
      let known : theory_at s.theories i ≡ Some (Running k) = running-known forks closes may is_fault o acts seat i h.run h.in_hand in
      let there = theory-there s.theories i (closed_by (theory_at s.theories i) c) (Running k) known in
      let now = ap (λ x. theory_at x.theories i) (state-entered o acts seat (CloseTheory i c)) in
      (Closed k c, now ∙ there ∙ ap Some (ap (λ q. closed_by q c) known), tt)

  pub holds-close : (acts : List (ℕ × Event G C O)) (i : ℕ) (c : C) → Has acts (Theory i) → Run (acts ++ (seat, CloseTheory i c) ∷ []) → Has (acts ++ (seat, CloseTheory i c) ∷ []) Nothing
  holds-close acts i c h run = record {
    run = run;
    goes_on = goes_on-entered acts (CloseTheory i c) h.goes_on refl;
    orderly = orderly-entered acts (CloseTheory i c) h.orderly (λ t. absurd t);
    in_hand = tt;
    theories = λ j t other. (
        let old = entered-other acts (CloseTheory i c) (TakeTheory j) (λ e. absurd (omega (arith, e))) t in
        elim (eq-tells i j) [
          | inl equal ↦ subst (IsDone (state_of o (acts ++ (seat, CloseTheory i c) ∷ [])) (own seat (acts ++ (seat, CloseTheory i c) ∷ []))) equal.1 (closed-now acts i c h, (c, entered-last acts (CloseTheory i c)))
          | inr apart ↦ done-stays acts ((seat, CloseTheory i c) ∷ []) j run (h.theories j old (λ e. apart.1 (ap theory_of e)))
        ]);
    promises = λ n t other. settled-stays acts ((seat, CloseTheory i c) ∷ []) n run (h.promises n (entered-other acts (CloseTheory i c) (TakeProof n) (λ e. absurd (omega (arith, e))) t) (no_theory_proof i n));
  }

  -- a proof is taken
  over-ready : (s : Standing O) → s ≡ Ready → IsOver s → ⊥
  over-ready s e h = subst IsOver e h

  pub holds-proof : (acts : List (ℕ × Event G C O)) (n : ℕ) (p : Promise G O) → Has acts Nothing → Run (acts ++ (seat, TakeProof n) ∷ []) → Stands (state_of o acts) n p → p.standing ≡ Ready → Has (acts ++ (seat, TakeProof n) ∷ []) (Proof n)
  holds-proof acts n p h run stands ready = record {
    run = run;
    goes_on = goes_on-entered acts (TakeProof n) h.goes_on refl;
    orderly = orderly-entered acts (TakeProof n) h.orderly (λ _. nothing_open acts h);
    in_hand = record {
      taken = entered-last acts (TakeProof n);
      open_still = λ u f delivered. (
          let old = entered-other acts (TakeProof n) (Deliver n u f) (λ e. absurd (omega (arith, e))) delivered in
          let done = h.promises n (deliver-taken acts n u f h.run old) (no_proof n) in
          over-ready done.0.0.standing (ap (λ x. x.standing) (same_Some done.0.0 p (sym done.0.1 ∙ stands)) ∙ ready) done.0.2);
    };
    theories = λ i t other. done-stays acts ((seat, TakeProof n) ∷ []) i run (h.theories i (entered-other acts (TakeProof n) (TakeTheory i) (λ e. absurd (omega (arith, e))) t) (no_theory i));
    promises = λ m t other. elim (entered-or acts (TakeProof n) (TakeProof m) t) [
      | inl old ↦ settled-stays acts ((seat, TakeProof n) ∷ []) m run (h.promises m old (no_proof m))
      | inr same ↦ absurd (other (ap Proof (sym (ap place same))))
    ];
  }

  -- its outcome is delivered
  pub holds-deliver : (acts : List (ℕ × Event G C O)) (n : ℕ) (u : O) (f : Bool) → Has acts (Proof n) → Run (acts ++ (seat, Deliver n u f) ∷ []) → ((p : Promise G O) × Stands (state_of o (acts ++ (seat, Deliver n u f) ∷ [])) n p × IsOver p.standing) → Has (acts ++ (seat, Deliver n u f) ∷ []) Nothing
  holds-deliver acts n u f h run over = record {
    run = run;
    goes_on = goes_on-entered acts (Deliver n u f) h.goes_on refl;
    orderly = orderly-entered acts (Deliver n u f) h.orderly (λ t. absurd t);
    in_hand = tt;
    theories = λ i t other. done-stays acts ((seat, Deliver n u f) ∷ []) i run (h.theories i (entered-other acts (Deliver n u f) (TakeTheory i) (λ e. absurd (omega (arith, e))) t) (no_proof_theory n i));
    promises = λ m t other. (
        let old = entered-other acts (Deliver n u f) (TakeProof m) (λ e. absurd (omega (arith, e))) t in
        elim (eq-tells n m) [
          | inl equal ↦ subst (IsSettled (state_of o (acts ++ (seat, Deliver n u f) ∷ [])) (own seat (acts ++ (seat, Deliver n u f) ∷ []))) equal.1 (over, inl (u, f, entered-last acts (Deliver n u f)))
          | inr apart ↦ settled-stays acts ((seat, Deliver n u f) ∷ []) m run (h.promises m old (λ e. apart.1 (ap proof_of e)))
        ]);
  }

  -- its promise is found cancelled
  pub holds-cancelled : (acts : List (ℕ × Event G C O)) (n : ℕ) → Has acts (Proof n) → WasCancelled (state_of o acts) n → Has acts Nothing
  holds-cancelled acts n h gone = record {
    run = h.run;
    goes_on = h.goes_on;
    orderly = h.orderly;
    in_hand = tt;
    theories = λ i t other. h.theories i t (no_proof_theory n i);
    promises = λ m t other. elim (eq-tells n m) [
      | inl equal ↦ subst (IsSettled (state_of o acts) (own seat acts)) equal.1 ((gone.0, gone.1, subst IsOver (sym gone.2) tt), inr gone)
      | inr apart ↦ h.promises m t (λ e. apart.1 (ap proof_of e))
    ];
  }
