-- Laws of numbered legal runs.
use Rattle.std.proofs.Common.{◌≡◌, ◌≢◌, ◌∙◌, ◌<◌, ◌≤◌, ℕ, ◌+◌, List, [], ◌∷◌, ◌++◌, refl, sym, ap, subst, arith, append_assoc, nat_eq, Bool, true, false, if◌then◌else◌, Some, inl, inr, ◌⊎◌}
use Rattle.std.proofs.lemmas.List.{append-nil}
use Rattle.std.proofs.lemmas.Bool.{eqb-true, eq-eqb}
use Rattle.pure_text.specs.Lists.{IsIn}
use Rattle.pure_text.proofs.ListLaws.{in-append_left, in-append_right, each-append, each-left}
use Rattle.pure_machine.specs.Policy.{Opening}
use Rattle.pure_machine.specs.State.{Progress, Waiting, Running, Closed, Promise, Standing, Ready, Taken, Settled, Cancelled, Event, TakeTheory, TakeProof, Fork, CloseTheory, Deliver, Stop, theory_at, is_settled, opened}
use Rattle.pure_machine.specs.Step.{Stands, IsOut, IsOver, IsClosed, IsFinished, Allows, IsRunFrom, stops, after, after_all}
use Rattle.pure_machine.proofs.FinishLaws.{element_there}
use Rattle.pure_core.specs.Legal.{IsLegal}
use Rattle.pure_core.proofs.KeptLaws.{IsKept, kept-opened, kept-after_all}
use Rattle.pure_core.proofs.RunLaws.{run-append, history-after_all, opening-after_all}
use Rattle.pure_core.proofs.PlaceLaws.{closed_there, each_there}
use Rattle.pure_core_runs.specs.Seats.{events_of, own, state_of, IsOfTaken, IsNumberedRun, MayEnter, HasNothingOpen, IsTake, IsOrderlySeat, HasTheory, forks_in, IsVain}
use Rattle.pure_core_runs.proofs.SplitLaws.{split_in, cut_last, either_first, run-front, run-rest, events-append, events-in, entered-by, own-append, own-in, in-own, state-append, stops-append, forks-append}
use Rattle.pure_core_runs.proofs.ToldLaws.{IsTold, told-legal, opened-history, opened-opening}
use Rattle.pure_core_runs.proofs.StayLaws.{IsDone, IsLater, promise-stays, closed-stays, done-stays, vain-done, goes_on-stays}
use Rattle.pure_core_runs.proofs.FewLaws.{few_stops}

-- a cut of two lists, one after the other, is within the one or the other
pub cut_append : {A : Type 0} (xs ys before after : List A) (x : A) → xs ++ ys ≡ before ++ x ∷ after → ((rest : List A) × (xs ≡ before ++ x ∷ rest)) ⊎ ((front : List A) × (before ≡ xs ++ front) × (ys ≡ front ++ x ∷ after))
cut_append [] ys before after x e = inr (before, refl, e)
cut_append (z ∷ xs) ys [] after x e = inl (xs, cc)
cut_append (z ∷ xs) ys (b ∷ bs) after x e = elim (cut_append xs ys bs after x (cc)) [
  | inl old ↦ (let head : z ≡ b = cc in let rest = old.1 in inl (old.0, cc))
  | inr new ↦ (let head : z ≡ b = cc in let rest = new.1 in inr (new.0, cc, new.2))
]

never-cut : {A : Type 0} (before after : List A) (x : A) → [] ≡ before ++ x ∷ after → ⊥
never-cut [] after x e = cc
never-cut (b ∷ bs) after x e = cc

longer-cut : {A : Type 0} (acts more before after : List A) (x : A) → acts ≡ before ++ x ∷ after → acts ++ more ≡ before ++ x ∷ (after ++ more)
longer-cut acts more before after x e = ap (λ l. l ++ more) e ∙ append_assoc before (x ∷ after) more

-- the state's history and opening
pub state-history : {G C O : Type 0} (o : Opening) (acts : List (ℕ × Event G C O)) → (state_of o acts).history ≡ events_of acts
state-history {G} {C} {O} o acts = history-after_all (opened o) (events_of acts) ∙ ap (λ h. h ++ events_of acts) (opened-history {G = G} {C = C} {O = O} o)

pub state-opening : {G C O : Type 0} (o : Opening) (acts : List (ℕ × Event G C O)) → (state_of o acts).opening ≡ o
state-opening {G} {C} {O} o acts = opening-after_all (opened o) (events_of acts) ∙ opened-opening G C O o

-- a seat stays orderly in a front
pub orderly-front : {G C O : Type 0} (o : Opening) (acts more : List (ℕ × Event G C O)) (seat : ℕ) → IsOrderlySeat o (acts ++ more) seat → IsOrderlySeat o acts seat
orderly-front o acts more seat orderly before after e cut take = orderly before (after ++ more) e (longer-cut acts more before after (seat, e) cut) take

-- and by events of others
pub orderly-others : {G C O : Type 0} (o : Opening) (acts more : List (ℕ × Event G C O)) (seat : ℕ) → IsOrderlySeat o acts seat → own seat more ≡ [] → IsOrderlySeat o (acts ++ more) seat
orderly-others o acts more seat orderly none before after e cut take = elim (cut_append acts more before after (seat, e) cut) [
  | inl old ↦ orderly before old.0 e old.1 take
  | inr new ↦ absurd (subst (IsIn e) none (in-own seat e more (subst (IsIn (seat, e)) (sym new.2) (in-append_right (seat, e) new.0 ((seat, e) ∷ after) (inl refl)))))
]

-- and by an event of its own with which it takes nothing, or before which it has nothing open
pub orderly-own : {G C O : Type 0} (o : Opening) (acts : List (ℕ × Event G C O)) (seat : ℕ) (e : Event G C O) → IsOrderlySeat o acts seat → (IsTake e → HasNothingOpen (state_of o acts) (own seat acts)) → IsOrderlySeat o (acts ++ (seat, e) ∷ []) seat
orderly-own {G} {C} {O} o acts seat e orderly free before after f cut take = elim (cut_last acts (seat, e) before after (seat, f) cut) [
  | inl here ↦ subst (λ (b : List (ℕ × Event G C O)). HasNothingOpen (state_of o b) (own seat b)) (sym here.0) (free (subst IsTake (ap (λ x. x.1) here.1) take))
  | inr old ↦ orderly before old.0 f old.1 take
]

module _ {G C O : Type 0} (forks : ℕ → ℕ → ℕ → G → Type 0) (closes : ℕ → ℕ → C → Type 0) (may : G → O → Type 0) (is_fault : O → Bool) where
  abbrev Run : Opening → List (ℕ × Event G C O) → Type 0
  Run o acts = IsNumberedRun forks closes may is_fault o acts

  -- no event
  pub run-nothing : (o : Opening) → Run o []
  run-nothing o = record { run = tt; few = tt; takers = λ before after seat e cut. absurd (never-cut before after (seat, e) cut); stops_once = λ seat. omega arith }

  -- a front of a run
  pub run-begins : (o : Opening) (acts more : List (ℕ × Event G C O)) → Run o (acts ++ more) → Run o acts
  run-begins o acts more r = record {
    run = run-front forks closes may is_fault (opened o) (events_of acts) (events_of more) (subst (IsRunFrom forks closes may is_fault (opened o)) (events-append acts more) r.run);
    few = each-left (λ a. a.0 < o.workers) acts more r.few;
    takers = λ before after seat e cut. r.takers before (after ++ more) seat e (longer-cut acts more before after (seat, e) cut);
    stops_once = λ seat. (let both = ap stops (own-append seat acts more) in let sum = stops-append (own seat acts) (own seat more) in let once = r.stops_once seat in omega arith);
  }

  -- one event more
  pub run-grows : (o : Opening) (acts : List (ℕ × Event G C O)) (seat : ℕ) (e : Event G C O) → Run o acts → MayEnter forks closes may is_fault o acts seat e → Run o (acts ++ (seat, e) ∷ [])
  run-grows o acts seat e r m = record {
    run = subst (IsRunFrom forks closes may is_fault (opened o)) (sym (events-append acts ((seat, e) ∷ []))) (run-append forks closes may is_fault (opened o) (events_of acts) (e ∷ []) r.run (m.allowed, tt));
    few = each-append (λ a. a.0 < o.workers) acts ((seat, e) ∷ []) r.few (m.few, tt);
    takers = λ before after x f cut. elim (cut_last acts (seat, e) before after (x, f) cut) [
      | inl here ↦ subst (λ (b : List (ℕ × Event G C O)). IsOfTaken (own x b) f) (sym here.0) (subst (λ (y : ℕ × Event G C O). IsOfTaken (own y.0 acts) y.1) (sym here.1) m.taker)
      | inr old ↦ r.takers before old.0 x f old.1
    ];
    stops_once = λ x. once x (nat_eq seat x) refl;
  }
    where
      once : (x : ℕ) (b : Bool) → nat_eq seat x ≡ b → stops (own x (acts ++ (seat, e) ∷ [])) ≤ 1
      once x true is =
          let same : own x (acts ++ (seat, e) ∷ []) ≡ own seat acts ++ e ∷ [] = own-append x acts ((seat, e) ∷ []) ∙ ap (λ b. own x acts ++ (if b then (e ∷ []) else [])) is ∙ ap (λ y. own y acts ++ e ∷ []) (sym (eqb-true seat x is)) in
          let most = m.stops_once in
          let count = ap stops same in
          omega arith
      once x false is =
          let same : own x (acts ++ (seat, e) ∷ []) ≡ own x acts = own-append x acts ((seat, e) ∷ []) ∙ ap (λ b. own x acts ++ (if b then (e ∷ []) else [])) is ∙ append-nil (own x acts) in
          let most = r.stops_once x in
          let count = ap stops same in
          omega arith

  -- the state is that of a legal run
  pub run-legal : (o : Opening) (acts : List (ℕ × Event G C O)) → Run o acts → IsLegal o.shape forks closes may is_fault (state_of o acts)
  run-legal o acts r = record {
    shaped = ap (λ x. x.shape) (state-opening o acts);
    run = subst (λ x. IsRunFrom forks closes may is_fault (opened x) (state_of o acts).history) (sym (state-opening o acts)) (subst (IsRunFrom forks closes may is_fault (opened o)) (sym (state-history o acts)) r.run);
    state = sym (ap (λ x. after_all (opened x) (state_of o acts).history) (state-opening o acts) ∙ ap (after_all (opened o)) (state-history o acts));
  }

  pub run-told : (o : Opening) (acts : List (ℕ × Event G C O)) → Run o acts → IsTold (state_of o acts)
  run-told o acts r = told-legal forks closes may is_fault o (events_of acts) r.run

  pub run-kept : (o : Opening) (acts : List (ℕ × Event G C O)) → Run o acts → IsKept forks closes (state_of o acts)
  run-kept o acts r = kept-after_all forks closes may is_fault (opened o) (events_of acts) r.run (kept-opened forks closes o)

  -- further events from the state
  pub run-further : (o : Opening) (acts more : List (ℕ × Event G C O)) → Run o (acts ++ more) → IsRunFrom forks closes may is_fault (state_of o acts) (events_of more)
  run-further o acts more r = run-rest forks closes may is_fault (opened o) (events_of acts) (events_of more) (subst (IsRunFrom forks closes may is_fault (opened o)) (events-append acts more) r.run)

  -- the event that stands at a cut may happen there
  pub run-allows : (o : Opening) (acts before after : List (ℕ × Event G C O)) (seat : ℕ) (e : Event G C O) → Run o acts → acts ≡ before ++ (seat, e) ∷ after → Allows forks closes may is_fault (state_of o before) e
  run-allows o acts before after seat e r cut = (run-further o before ((seat, e) ∷ after) (subst (Run o) cut r)).0

  pub promise-keeps : (o : Opening) (acts more : List (ℕ × Event G C O)) (n : ℕ) (p : Promise G O) → Run o (acts ++ more) → Stands (state_of o acts) n p → (q : Promise G O) × Stands (state_of o (acts ++ more)) n q × IsLater p q
  promise-keeps o acts more n p r at =
      let first = run-begins o acts more r in
      let later = promise-stays forks closes may is_fault (state_of o acts) (events_of more) n p (run-further o acts more r) (run-kept o acts first) (run-told o acts first) at in
      (later.0, subst (λ s. Stands s n later.0) (sym (state-append o acts more)) later.1, later.2)

  pub closed-keeps : (o : Opening) (acts more : List (ℕ × Event G C O)) (i : ℕ) (p : Progress C) → Run o (acts ++ more) → theory_at (state_of o acts).theories i ≡ Some p → IsClosed p → theory_at (state_of o (acts ++ more)).theories i ≡ Some p
  closed-keeps o acts more i p r at closed =
      let first = run-begins o acts more r in
      subst (λ s. theory_at s.theories i ≡ Some p) (sym (state-append o acts more)) (closed-stays forks closes may is_fault (state_of o acts) (events_of more) i p (run-further o acts more r) (run-kept o acts first) (run-told o acts first) at closed)

  pub open-keeps : (o : Opening) (acts more : List (ℕ × Event G C O)) (events : List (Event G C O)) → Run o (acts ++ more) → HasNothingOpen (state_of o acts) events → HasNothingOpen (state_of o (acts ++ more)) events
  open-keeps o acts more events r h = record {
    theories = λ i m. (let old = h.theories i m in (old.0, closed-keeps o acts more i old.0 r old.1 old.2, old.2));
    promises = λ n m. (let old = h.promises n m in let new = promise-keeps o acts more n old.0 r old.1 in (new.0, new.1, subst IsOver (sym (new.2.stays old.2)) old.2));
  }

  -- from Finished on
  pub done-keeps : (o : Opening) (acts more : List (ℕ × Event G C O)) → Run o (acts ++ more) → IsFinished (state_of o acts) → IsDone (state_of o (acts ++ more))
  done-keeps o acts more r f =
      let first = run-begins o acts more r in
      subst IsDone (sym (state-append o acts more)) (done-stays forks closes may is_fault (state_of o acts) (events_of more) (run-further o acts more r) (run-kept o acts first) (run-told o acts first) (record { theories = f.theories; promises = f.promises }))

  pub finished-vain : (o : Opening) (acts before after : List (ℕ × Event G C O)) (seat : ℕ) (e : Event G C O) → Run o ((acts ++ before) ++ (seat, e) ∷ after) → IsFinished (state_of o acts) → IsVain (state_of o (acts ++ before)) e
  finished-vain o acts before after seat e r f =
      let front = run-begins o (acts ++ before) ((seat, e) ∷ after) r in
      vain-done forks closes may is_fault (state_of o (acts ++ before)) e (run-allows o ((acts ++ before) ++ (seat, e) ∷ after) (acts ++ before) after seat e r refl) (run-told o (acts ++ before) front) (done-keeps o acts before front f)

  pub finished-keeps : (o : Opening) (acts more : List (ℕ × Event G C O)) → Run o (acts ++ more) → IsFinished (state_of o acts) → stops (events_of more) ≡ 0 → IsFinished (state_of o (acts ++ more))
  finished-keeps o acts more r f none = let d = done-keeps o acts more r f in record {
    goes_on = subst (λ s. s.stopped ≡ false) (sym (state-append o acts more)) (goes_on-stays (state_of o acts) (events_of more) f.goes_on none);
    theories = d.theories;
    promises = d.promises;
  }

  -- nothing is taken twice
  not_again : (o : Opening) (acts before after : List (ℕ × Event G C O)) (seat : ℕ) (e : Event G C O) → Run o acts → IsTake e → acts ≡ before ++ (seat, e) ∷ after → IsIn e (events_of before) → ⊥
  not_again o acts before after seat e r take cut m =
      by_event e take (run-allows o acts before after seat e r cut) (subst (IsIn e) (sym (state-history o before)) m)
    where
      told : IsTold (state_of o before)
      told = run-told o before (run-begins o before ((seat, e) ∷ after) (subst (Run o) cut r))

      by_event : (f : Event G C O) → IsTake f → Allows forks closes may is_fault (state_of o before) f → IsIn f (state_of o before).history → ⊥
      by_event (TakeTheory i) t a n = (told.waits i a.1.1.0.waits).0 n
      by_event (TakeProof k) t a n = told.ready k a.2.0 a.2.1.0 a.2.1.1 n
      by_event (Fork i c g) t a n = absurd t
      by_event (CloseTheory i c) t a n = absurd t
      by_event (Deliver k p f) t a n = absurd t
      by_event Stop t a n = absurd t

  pub taker-one : (o : Opening) (acts : List (ℕ × Event G C O)) (seat other : ℕ) (e : Event G C O) → Run o acts → IsTake e → IsIn (seat, e) acts → IsIn (other, e) acts → seat ≡ other
  taker-one o acts seat other e r take m n =
      let at = split_in (seat, e) acts m in
      elim (either_first (seat, e) (other, e) at.0 at.1 (subst (IsIn (other, e)) at.2 n)) [
        | inl earlier ↦ absurd (not_again o acts at.0 at.1 seat e r take at.2 (events-in other e at.0 earlier))
        | inr rest ↦ elim rest [
          | inl same ↦ sym (ap (λ x. x.0) same)
          | inr later ↦ absurd (behind at.0 at.1 at.2 (split_in (other, e) at.1 later))
        ]
      ]
    where
      behind : (before after : List (ℕ × Event G C O)) → acts ≡ before ++ (seat, e) ∷ after → ((b : List (ℕ × Event G C O)) × (c : List (ℕ × Event G C O)) × (after ≡ b ++ (other, e) ∷ c)) → ⊥
      behind before after cut next = not_again o acts (before ++ (seat, e) ∷ next.0) next.1 other e r take (cut ∙ ap (λ l. before ++ (seat, e) ∷ l) next.2 ∙ sym (append_assoc before ((seat, e) ∷ next.0) ((other, e) ∷ next.1))) (events-in seat e (before ++ (seat, e) ∷ next.0) (in-append_right (seat, e) before ((seat, e) ∷ next.0) (inl refl)))

  -- whoever entered an event of something that was taken took it
  pub by_taker : (o : Opening) (acts : List (ℕ × Event G C O)) (seat x : ℕ) (e f : Event G C O) → Run o acts → IsTake f → ((events : List (Event G C O)) → IsOfTaken events e → IsIn f events) → IsIn f (own seat acts) → IsIn (x, e) acts → x ≡ seat
  by_taker o acts seat x e f r take of m n =
      let at = split_in (x, e) acts n in
      let took = of (own x at.0) (r.takers at.0 at.1 x e at.2) in
      taker-one o acts x seat f r take (subst (IsIn (x, f)) (sym at.2) (in-append_left (x, f) at.0 ((x, e) ∷ at.1) (own-in x f at.0 took))) (own-in seat f acts m)

  -- what a seat took is there
  pub taken-there : (o : Opening) (acts : List (ℕ × Event G C O)) (seat : ℕ) → Run o acts → ((i : ℕ) → IsIn (TakeTheory i) (own seat acts) → (q : Progress C) × (theory_at (state_of o acts).theories i ≡ Some q)) × ((n : ℕ) → IsIn (TakeProof n) (own seat acts) → (p : Promise G O) × Stands (state_of o acts) n p)
  taken-there o acts seat r = (
    λ i m. (run-told o acts r).begun i (in_history (TakeTheory i) m),
    λ n m. element_there (state_of o acts).promises n ((run-told o acts r).promised n (in_history (TakeProof n) m)),
  )
    where
      in_history : (e : Event G C O) → IsIn e (own seat acts) → IsIn e (state_of o acts).history
      in_history e m = subst (IsIn e) (sym (state-history o acts)) (events-in seat e acts (own-in seat e acts m))

  -- a proof that a seat took and didn't deliver
  pub out-known : (o : Opening) (acts : List (ℕ × Event G C O)) (seat n : ℕ) → Run o acts → IsOut (own seat acts) n → IsOut (events_of acts) n × ((p : Promise G O) × Stands (state_of o acts) n p × ((p.standing ≡ Taken) ⊎ (p.standing ≡ Cancelled)))
  out-known o acts seat n r out = (whole, (there.0, there.1, by_standing there.0 there.1 there.0.standing refl))
    where
      whole : IsOut (events_of acts) n
      whole = record {
        taken = events-in seat (TakeProof n) acts (own-in seat (TakeProof n) acts out.taken);
        open_still = λ outcome fault m. (let by = entered-by (Deliver n outcome fault) acts m in
            out.open_still outcome fault (subst (λ x. IsIn (Deliver n outcome fault) (own x acts)) (by_taker o acts seat by.0 (Deliver n outcome fault) (TakeProof n) r tt (λ events h. h) out.taken by.1) (in-own by.0 (Deliver n outcome fault) acts by.1)));
      }

      told : IsTold (state_of o acts)
      told = run-told o acts r

      there : (p : Promise G O) × Stands (state_of o acts) n p
      there = (taken-there o acts seat r).1 n out.taken

      by_standing : (p : Promise G O) → Stands (state_of o acts) n p → (t : Standing O) → p.standing ≡ t → (p.standing ≡ Taken) ⊎ (p.standing ≡ Cancelled)
      by_standing p at Ready is = absurd (told.ready n p at is (subst (IsIn (TakeProof n)) (sym (state-history o acts)) whole.taken))
      by_standing p at Taken is = inl is
      by_standing p at (Settled x) is = absurd (let old = told.settled n p at (ap is_settled is) in whole.open_still old.0 old.1 (subst (IsIn (Deliver n old.0 old.1)) (state-history o acts) old.2))
      by_standing p at Cancelled is = inr is

  -- a seat's own forks of a theory are all of it, where no other seat forked one
  one_fork : (i : ℕ) (e : Event G C O) → ((c : ℕ) (g : G) → e ≢ Fork i c g) → forks_in i (e ∷ []) ≡ 0
  one_fork i (TakeTheory j) other = refl
  one_fork i (TakeProof n) other = refl
  one_fork i (Fork j c g) other = by_flag (nat_eq j i) refl
    where
      by_flag : (b : Bool) → nat_eq j i ≡ b → (if b then (0 + 1) else 0) ≡ 0
      by_flag true is = absurd (other c g (ap (λ k. Fork k c g) (eqb-true j i is)))
      by_flag false is = refl
  one_fork i (CloseTheory j c) other = refl
  one_fork i (Deliver n p f) other = refl
  one_fork i Stop other = refl

  entry-shown : (a : ℕ × Event G C O) (e : Event G C O) → a.1 ≡ e → (a.0, e) ≡ a
  entry-shown a e is = λ i. (a.0, sym is i)

  own-forks : (seat i : ℕ) (acts : List (ℕ × Event G C O)) → ((x c : ℕ) (g : G) → IsIn (x, Fork i c g) acts → x ≡ seat) → forks_in i (events_of acts) ≡ forks_in i (own seat acts)
  own-forks seat i [] alone = refl
  own-forks seat i (a ∷ acts) alone = by_flag (nat_eq a.0 seat) refl (own-forks seat i acts (λ x c g m. alone x c g (inr m)))
    where
      by_flag : (b : Bool) → nat_eq a.0 seat ≡ b → forks_in i (events_of acts) ≡ forks_in i (own seat acts) → forks_in i (a.1 ∷ events_of acts) ≡ forks_in i (if b then a.1 ∷ own seat acts else own seat acts)
      by_flag true is rest = let one = forks-append i (a.1 ∷ []) (events_of acts) in let two = forks-append i (a.1 ∷ []) (own seat acts) in omega arith
      by_flag false is rest = let one = forks-append i (a.1 ∷ []) (events_of acts) in let none = one_fork i a.1 (λ c g what. absurd (let found = eq-eqb a.0 seat (alone a.0 c g (inl (entry-shown a (Fork i c g) what))) in cc)) in omega arith

  -- a theory that a seat took and didn't close
  pub running-known : (o : Opening) (acts : List (ℕ × Event G C O)) (seat i : ℕ) → Run o acts → HasTheory (own seat acts) i → theory_at (state_of o acts).theories i ≡ Some (Running (forks_in i (own seat acts)))
  running-known o acts seat i r has = by_progress there.0 there.1
    where
      told : IsTold (state_of o acts)
      told = run-told o acts r

      there : (q : Progress C) × (theory_at (state_of o acts).theories i ≡ Some q)
      there = (taken-there o acts seat r).0 i has.taken

      count : forks_in i (events_of acts) ≡ forks_in i (own seat acts)
      count = own-forks seat i acts (λ x c g m. by_taker o acts seat x (Fork i c g) (TakeTheory i) r tt (λ events h. h) has.taken m)

      by_progress : (q : Progress C) → theory_at (state_of o acts).theories i ≡ Some q → theory_at (state_of o acts).theories i ≡ Some (Running (forks_in i (own seat acts)))
      by_progress Waiting at = absurd ((told.waits i at).0 (subst (IsIn (TakeTheory i)) (sym (state-history o acts)) (events-in seat (TakeTheory i) acts (own-in seat (TakeTheory i) acts has.taken))))
      by_progress (Running k) at = at ∙ ap (λ x. Some (Running x)) (told.runs i k at ∙ ap (forks_in i) (state-history o acts) ∙ count)
      by_progress (Closed k c) at = absurd (
          let by = entered-by (CloseTheory i c) acts (subst (IsIn (CloseTheory i c)) (state-history o acts) (told.closed i k c at)) in
          has.open_still c (subst (λ x. IsIn (CloseTheory i c) (own x acts)) (by_taker o acts seat by.0 (CloseTheory i c) (TakeTheory i) r tt (λ events h. h) has.taken by.1) (in-own by.0 (CloseTheory i c) acts by.1)))

  no_stop-more : (o : Opening) (acts : List (ℕ × Event G C O)) (seat : ℕ) (e : Event G C O) → Run o acts → stops (e ∷ []) ≡ 0 → stops (own seat acts ++ e ∷ []) ≤ 1
  no_stop-more o acts seat e r none = let sum = stops-append (own seat acts) (e ∷ []) in let once = r.stops_once seat in omega arith

  -- what a seat may enter
  pub enter-fork : (o : Opening) (acts : List (ℕ × Event G C O)) (seat i c : ℕ) (g : G) → Run o acts → seat < o.workers → HasTheory (own seat acts) i → forks i (forks_in i (own seat acts)) c g → MayEnter forks closes may is_fault o acts seat (Fork i c g)
  enter-fork o acts seat i c g r within has fork = record {
    allowed = (forks_in i (own seat acts), running-known o acts seat i r has, fork);
    few = within;
    taker = has.taken;
    stops_once = no_stop-more o acts seat (Fork i c g) r refl;
  }

  pub enter-close : (o : Opening) (acts : List (ℕ × Event G C O)) (seat i : ℕ) (c : C) → Run o acts → seat < o.workers → HasTheory (own seat acts) i → closes i (forks_in i (own seat acts)) c → MayEnter forks closes may is_fault o acts seat (CloseTheory i c)
  enter-close o acts seat i c r within has close = record {
    allowed = (forks_in i (own seat acts), running-known o acts seat i r has, close);
    few = within;
    taker = has.taken;
    stops_once = no_stop-more o acts seat (CloseTheory i c) r refl;
  }

  pub enter-deliver : (o : Opening) (acts : List (ℕ × Event G C O)) (seat n : ℕ) (p : Promise G O) (outcome : O) (fault : Bool) → Run o acts → seat < o.workers → IsOut (own seat acts) n → Stands (state_of o acts) n p → may p.goal outcome → fault ≡ is_fault outcome → MayEnter forks closes may is_fault o acts seat (Deliver n outcome fault)
  enter-deliver o acts seat n p outcome fault r within out at fits is = record {
    allowed = (p, at, subst (λ es. IsOut es n) (sym (state-history o acts)) (out-known o acts seat n r out).0, fits, is);
    few = within;
    taker = out.taken;
    stops_once = no_stop-more o acts seat (Deliver n outcome fault) r refl;
  }

  pub enter-stop : (o : Opening) (acts : List (ℕ × Event G C O)) (seat : ℕ) → Run o acts → seat < o.workers → stops (own seat acts) ≡ 0 → MayEnter forks closes may is_fault o acts seat Stop
  enter-stop o acts seat r within none = record {
    allowed = subst (λ x. stops (state_of o acts).history < x.workers) (sym (state-opening o acts)) (subst (λ es. stops es < o.workers) (sym (state-history o acts)) (few_stops o.workers seat acts r.few r.stops_once within none));
    few = within;
    taker = tt;
    stops_once = (let last : List (Event G C O) = Stop ∷ [] in let sum = stops-append (own seat acts) last in omega arith);
  }

  -- at Finished
  pub finished-closed : (o : Opening) (acts : List (ℕ × Event G C O)) (seat : ℕ) → Run o acts → IsFinished (state_of o acts) → HasNothingOpen (state_of o acts) (own seat acts)
  finished-closed o acts seat r f = record {
    theories = λ i m. (let there = (taken-there o acts seat r).0 i m in (there.0, there.1, closed_there (state_of o acts).theories i there.0 f.theories there.1));
    promises = λ n m. (let there = (taken-there o acts seat r).1 n m in (there.0, there.1, each_there (λ p. IsOver p.standing) (state_of o acts).promises n there.0 f.promises there.1));
  }
