-- What a seat may do while it holds the core, and what it knows when it has given the core back.
use Rattle.std.proofs.Common.{◌≡◌, ◌≢◌, ◌∙◌, ℕ, zero, suc, ◌<◌, ◌≤◌, List, [], ◌∷◌, ◌++◌, length, Bool, true, if◌then◌else◌, nat_eq, Option, Some, None, slice_get, refl, sym, ap, subst, arith, append-nil}
use Rattle.atomic_table.specs.Seated.{TableId}
use Rattle.atomic_table.specs.Table.{Me}
use Rattle.atomic_table.specs.declared.shared.Seat.{Seat}
use Rattle.pure_machine.specs.Policy.{Opening}
use Rattle.pure_machine.specs.State.{State, Promise, Event, TakeTheory, TakeProof, Fork, CloseTheory, Deliver, Stop, Running, theory_at}
use Rattle.pure_machine.specs.Step.{Allows, Stands, IsOut, after, stops}
use Rattle.pure_text.specs.Lists.{IsIn}
use Rattle.pure_board_lock.specs.History.{entered_by, events}
use Rattle.pure_board_lock.specs.View.{View, holding, looking, entering, releasing}
use Rattle.pure_board_lock.specs.Steps.{IsHeld}
use Rattle.pure_board_lock.specs.Seats.{view_of, IsFree, HasTurn, IsAsKept, IsNext}
use Rattle.pure_board_lock.proofs.HistoryLaws.{entered-more}
use Rattle.pure_core_runs.specs.Seats.{own, state_of, IsNumberedRun, MayEnter, HasTheory, forks_in}
use Rattle.pure_core_runs.proofs.SplitLaws.{state-append, stops-append}
use Rattle.pure_core_runs.proofs.SeatLaws.{state-history, run-grows, promise-keeps, taken-there, running-known, enter-fork, enter-close, enter-deliver, enter-stop}
use Rattle.pure_board.specs.Course.{IsLawful}
use Rattle.pure_board.specs.Sight.{Sight, Sees, Enters}
use Rattle.pure_board.specs.Taken.{IsGoalOf}
use Rattle.pure_board.specs.Tokens.{sight, IsSeated, IsDone}

-- the entries of a seat, by either name
pub own-is : {E : Type 0} (n : ℕ) (log : List (ℕ × E)) → entered_by n log ≡ own n log
own-is n [] = refl
own-is n (a ∷ log) = ap (λ es. if nat_eq a.0 n then (a.1 ∷ es) else es) (own-is n log)

own-more : {E : Type 0} (n : ℕ) (e : E) (log : List (ℕ × E)) (es : List E) → own n log ≡ es → own n (log ++ (n, e) ∷ []) ≡ es ++ e ∷ []
own-more n e log es is = sym (own-is n (log ++ (n, e) ∷ [])) ∙ entered-more n e log es (own-is n log ∙ is)

pub some-same : {A : Type 0} (x y : A) (o : Option A) → o ≡ Some x → o ≡ Some y → x ≡ y
some-same x y o e f = cc (e, f)

-- a place that has something is one of the list
pub below-there : {A : Type 0} (xs : List A) (n : ℕ) (x : A) → slice_get xs n ≡ Some x → n < length xs
below-there [] n x e = absurd (cc e)
below-there (y ∷ xs) zero x e = omega arith
below-there (y ∷ xs) (suc n) x e = let h = below-there xs n x e in omega arith

-- the holder that has looked still holds
pub still-turn : {C K O E : Type 0} (t t' : Seat (Option C) (View K O E)) → HasTurn t → t'.me ≡ (looking t.me.0, t.me.1) → HasTurn t'
still-turn {C} {K} {O} {E} t t' h e = record {
  has_place = ap (λ (m : Me (Option C) (View K O E)). m.1) e ∙ h.has_place;
  lives = ap (λ (m : Me (Option C) (View K O E)). m.0.lives) e ∙ h.lives;
  is_opened = λ none'. h.is_opened (sym (ap (λ (m : Me (Option C) (View K O E)). m.0.opening) e) ∙ none');
  has_turn = ap (λ (m : Me (Option C) (View K O E)). m.0.holds) e ∙ h.has_turn;
}

module _ {W G C O : Type 0} (shape : W → List (List ℕ)) (forks : W → ℕ → ℕ → ℕ → G → Type 0) (closes : W → ℕ → ℕ → C → Type 0) (may : W → G → O → Type 0) (is_fault : W → O → Bool) where
  abbrev V : Type 0
  V = View W Opening (Event G C O)

  abbrev St : Type 0
  St = State G C O

  abbrev Log : Type 0
  Log = List (ℕ × Event G C O)

  abbrev Legal : W → Opening → Log → Type 0
  Legal = IsLawful shape forks closes may is_fault

  abbrev Seated : V → Type 0
  Seated = IsSeated shape forks closes may is_fault

  abbrev Held : V → V → St → Type 0
  Held = IsHeld state_of Legal

  abbrev Done : (Sight W G C O → Sight W G C O → Type 0) → V → Me (Option St) V → Type 0
  Done = IsDone shape forks closes may is_fault

  abbrev May : W → Opening → Log → ℕ → Event G C O → Type 0
  May k = MayEnter (forks k) (closes k) (may k) (is_fault k)

  is-opened : (v : V) → Seated v → v.opening ≢ None
  is-opened v s e = absurd (cc (e, s.opening_is))

  -- a token of a seat is free
  pub token-free : (t : Seat (Option St) V) → t.me.1 ≡ [] → Seated (view_of t) → IsFree t
  token-free t place s = record { has_none = place; lives = s.lives; is_opened = is-opened (view_of t) s; is_free = s.is_free }

  module _ (v u : V) (c : St) (s : Seated v) (h : Held v u c) where
    pub as-kept : (c' : St) → c' ≡ c → IsAsKept state_of u c'
    as-kept c' same = record { opening = h.opening; opening_is = ap (λ (x : V). x.opening) h.view_is ∙ h.opening_is; object_is = same ∙ (h.object_is ∙ ap (λ (x : V). state_of h.opening x.kept) (sym h.view_is)) }

    pub looked-kept : (w : V) (c' : St) → w ≡ looking u → c' ≡ c → IsAsKept state_of w c'
    looked-kept w c' looked same = let k = as-kept c' same in record { opening = k.opening; opening_is = ap (λ (x : V). x.opening) looked ∙ k.opening_is; object_is = k.object_is ∙ ap (λ (x : V). state_of k.opening x.kept) (sym looked) }

    pub is-alone : u.joined ≡ []
    is-alone = ap (λ (x : V). x.joined) h.view_is ∙ s.alone

    same-opening : s.opening ≡ h.opening
    same-opening = some-same s.opening h.opening v.opening s.opening_is h.opening_is

    pub is-few : v.number < h.opening.workers
    is-few = subst (λ (x : Opening). v.number < x.workers) same-opening s.few

    own-held : v.own ≡ own v.number h.log
    own-held = sym h.entries ∙ own-is v.number h.log

    pub next-of : (c' : St) (e : Event G C O) → May h.session h.opening h.log v.number e → c' ≡ after c e → IsNext (λ (x : St). x.history) state_of Legal u c' e
    next-of c' e ok is = subst (λ (x : V). IsNext (λ (y : St). y.history) state_of Legal x c' e) (sym h.view_is) (record {
      session = h.session;
      opening = h.opening;
      session_is = h.session_is;
      opening_is = h.opening_is;
      lawful = record { shaped = h.lawful.shaped; run = run-grows (forks h.session) (closes h.session) (may h.session) (is_fault h.session) h.opening h.log v.number e h.lawful.run ok };
      object_is = is ∙ (ap (λ (x : St). after x e) h.object_is ∙ sym (state-append h.opening h.log ((v.number, e) ∷ [])));
      event_is = ap (λ (x : St). x.history) is ∙ ap (λ es. es ++ e ∷ []) (ap (λ (x : St). x.history) h.object_is ∙ state-history h.opening h.log);
    })

    counted-same : v.counts ≡ true → v.made ≡ h.opening.workers
    counted-same counting = s.counted counting ∙ ap (λ (x : Opening). x.workers) same-opening

    seated-entered : (e : Event G C O) → May h.session h.opening h.log v.number e → Seated (releasing (entering (holding v h.log) e))
    seated-entered e ok = record {
      session = h.session;
      opening = h.opening;
      session_is = h.session_is;
      opening_is = h.opening_is;
      lives = s.lives;
      is_free = refl;
      alone = s.alone;
      counts = s.counts;
      counted = counted-same;
      shaped = h.lawful.shaped;
      few = is-few;
      lawful = run-grows (forks h.session) (closes h.session) (may h.session) (is_fault h.session) h.opening h.log v.number e h.lawful.run ok;
      entries = sym (own-more v.number e h.log v.own (sym own-held));
    }

    seated-looked : Seated (releasing (looking (holding v h.log)))
    seated-looked = record {
      session = h.session;
      opening = h.opening;
      session_is = h.session_is;
      opening_is = h.opening_is;
      lives = s.lives;
      is_free = refl;
      alone = s.alone;
      counts = s.counts;
      counted = counted-same;
      shaped = h.lawful.shaped;
      few = is-few;
      lawful = h.lawful.run;
      entries = own-held;
    }

    seated-missed : Seated (releasing (holding v h.log))
    seated-missed = record {
      session = s.session;
      opening = s.opening;
      session_is = s.session_is;
      opening_is = s.opening_is;
      lives = s.lives;
      is_free = refl;
      alone = s.alone;
      counts = s.counts;
      counted = s.counted;
      shaped = s.shaped;
      few = s.few;
      lawful = s.lawful;
      entries = s.entries;
    }

    pub state-there : (o : Opening) → v.opening ≡ Some o → state_of o h.log ≡ c
    state-there o is = ap (λ (x : Opening). state_of x h.log) (some-same o h.opening v.opening is h.opening_is) ∙ sym h.object_is

    -- an event was entered
    pub done-entering : (P : Sight W G C O → Sight W G C O → Type 0) (c' : St) (e : Event G C O) (m : Me (Option St) V) → May h.session h.opening h.log v.number e → c' ≡ after c e
        → ((e' : Event G C O) → c'.history ≡ events u.kept ++ e' ∷ [] → m ≡ (releasing (entering u e'), []))
        → ((name : TableId) (k : W) (o : Opening) (new : Sight W G C O) → v.session ≡ Some k → state_of o h.log ≡ c → Enters (sight name k o v) new h.log e → P (sight name k o v) new) → Done P v m
    done-entering P c' e m ok is told tells = subst (Done P v) (sym (told e (next-of c' e ok is).event_is ∙ ap (λ (x : V). (releasing (entering x e), [])) h.view_is)) (record {
      place = refl;
      seated = seated-entered e ok;
      session_same = refl;
      opening_same = refl;
      told = λ name k o k-is o-is. tells name k o (sight name k o (releasing (entering (holding v h.log) e))) k-is (state-there o o-is) (record { plan = refl; opening = refl; number = refl; more = h.begins.0; log_is = sym h.begins.1; seen = refl; own = refl });
    })

    -- the whole history was seen, and nothing entered
    pub done-looking : (P : Sight W G C O → Sight W G C O → Type 0) (m1 m : Me (Option St) V) → m1.0 ≡ looking u → m ≡ (releasing m1.0, [])
        → ((name : TableId) (k : W) (o : Opening) (new : Sight W G C O) → Sees (sight name k o v) new → state_of new.opening new.seen ≡ c → P (sight name k o v) new) → Done P v m
    done-looking P m1 m looked told tells = subst (Done P v) (sym (told ∙ (ap (λ (x : V). (releasing x, [])) looked ∙ ap (λ (x : V). (releasing (looking x), [])) h.view_is))) (record {
      place = refl;
      seated = seated-looked;
      session_same = refl;
      opening_same = refl;
      told = λ name k o k-is o-is. tells name k o (sight name k o (releasing (looking (holding v h.log)))) (record { plan = refl; opening = refl; number = refl; more = h.begins.0; seen = sym h.begins.1; own = refl }) (state-there o o-is);
    })

    -- nothing was entered, for want of memory
    pub done-missing : (P : Sight W G C O → Sight W G C O → Type 0) (m : Me (Option St) V) → m ≡ (releasing u, [])
        → ((old new : Sight W G C O) → Sees old new → P old new) → Done P v m
    done-missing P m told tells = subst (Done P v) (sym (told ∙ ap (λ (x : V). (releasing x, [])) h.view_is)) (record {
      place = refl;
      seated = seated-missed;
      session_same = refl;
      opening_same = refl;
      told = λ name k o k-is o-is. tells (sight name k o v) (sight name k o (releasing (holding v h.log))) (record { plan = refl; opening = refl; number = refl; more = []; seen = sym (append-nil v.seen); own = refl });
    })

    -- what the holder may enter
    once-more : (e : Event G C O) → stops (e ∷ []) ≡ 0 → stops (own v.number h.log ++ e ∷ []) ≤ 1
    once-more e none' = let sum = stops-append (own v.number h.log) (e ∷ []) in let once = h.lawful.run.stops_once v.number in omega arith

    pub may-take-theory : (i : ℕ) → Allows (forks h.session) (closes h.session) (may h.session) (is_fault h.session) c (TakeTheory i) → May h.session h.opening h.log v.number (TakeTheory i)
    may-take-theory i ok = record { allowed = subst (λ (x : St). Allows (forks h.session) (closes h.session) (may h.session) (is_fault h.session) x (TakeTheory i)) h.object_is ok; few = is-few; taker = tt; stops_once = once-more (TakeTheory i) refl }

    pub may-take-proof : (n : ℕ) → Allows (forks h.session) (closes h.session) (may h.session) (is_fault h.session) c (TakeProof n) → May h.session h.opening h.log v.number (TakeProof n)
    may-take-proof n ok = record { allowed = subst (λ (x : St). Allows (forks h.session) (closes h.session) (may h.session) (is_fault h.session) x (TakeProof n)) h.object_is ok; few = is-few; taker = tt; stops_once = once-more (TakeProof n) refl }

    pub theory-runs : (i : ℕ) → HasTheory v.own i → (k : ℕ) × (theory_at c.theories i ≡ Some (Running k))
    theory-runs i has = (
      forks_in i (own v.number h.log),
      subst (λ (x : St). theory_at x.theories i ≡ Some (Running (forks_in i (own v.number h.log)))) (sym h.object_is)
          (running-known (forks h.session) (closes h.session) (may h.session) (is_fault h.session) h.opening h.log v.number i h.lawful.run (subst (λ es. HasTheory es i) own-held has)),
    )

    pub may-fork : (i m : ℕ) (g : G) → HasTheory v.own i → ((k : W) → v.session ≡ Some k → forks k i (forks_in i v.own) m g) → May h.session h.opening h.log v.number (Fork i m g)
    may-fork i m g has ok = enter-fork (forks h.session) (closes h.session) (may h.session) (is_fault h.session) h.opening h.log v.number i m g h.lawful.run is-few (subst (λ es. HasTheory es i) own-held has) (subst (λ es. forks h.session i (forks_in i es) m g) own-held (ok h.session h.session_is))

    pub may-close : (i : ℕ) (x : C) → HasTheory v.own i → ((k : W) → v.session ≡ Some k → closes k i (forks_in i v.own) x) → May h.session h.opening h.log v.number (CloseTheory i x)
    may-close i x has ok = enter-close (forks h.session) (closes h.session) (may h.session) (is_fault h.session) h.opening h.log v.number i x h.lawful.run is-few (subst (λ es. HasTheory es i) own-held has) (subst (λ es. closes h.session i (forks_in i es) x) own-held (ok h.session h.session_is))

    pub promise-there : (n : ℕ) → IsIn (TakeProof n) v.own → n < length c.promises
    promise-there n m = let t = (taken-there (forks h.session) (closes h.session) (may h.session) (is_fault h.session) h.opening h.log v.number h.lawful.run).1 n (subst (IsIn (TakeProof n)) own-held m) in
        subst (λ (x : St). n < length x.promises) (sym h.object_is) (below-there (state_of h.opening h.log).promises n t.0 t.1)

    pub may-deliver : (n : ℕ) (x : O) (fault : Bool) → IsOut v.own n → ((k : W) → v.session ≡ Some k → (o : Opening) → v.opening ≡ Some o → (g : G) × IsGoalOf (state_of o v.seen) n g × may k g x) → ((k : W) → v.session ≡ Some k → fault ≡ is_fault k x) → May h.session h.opening h.log v.number (Deliver n x fault)
    may-deliver n x fault out ok is = let g = ok h.session h.session_is h.opening h.opening_is in let p : Promise G O = g.1.0 in
        let whole : IsNumberedRun (forks h.session) (closes h.session) (may h.session) (is_fault h.session) h.opening (v.seen ++ h.begins.0) = subst (IsNumberedRun (forks h.session) (closes h.session) (may h.session) (is_fault h.session) h.opening) (sym h.begins.1) h.lawful.run in
        let later = promise-keeps (forks h.session) (closes h.session) (may h.session) (is_fault h.session) h.opening v.seen h.begins.0 n p whole g.1.1 in
        enter-deliver (forks h.session) (closes h.session) (may h.session) (is_fault h.session) h.opening h.log v.number n later.0 x fault h.lawful.run is-few (subst (λ es. IsOut es n) own-held out)
        (subst (λ (l : Log). Stands (state_of h.opening l) n later.0) h.begins.1 later.1)
        (subst (λ (y : G). may h.session y x) (sym (later.2.goal_is ∙ g.1.2)) g.2)
        (is h.session h.session_is)

    pub may-stop : stops v.own ≡ 0 → May h.session h.opening h.log v.number Stop
    may-stop none' = enter-stop (forks h.session) (closes h.session) (may h.session) (is_fault h.session) h.opening h.log v.number h.lawful.run is-few (subst (λ es. stops es ≡ 0) own-held none')

    pub stop-fits : stops v.own ≡ 0 → stops c.history < c.opening.workers
    stop-fits none' = subst (λ (x : St). stops x.history < x.opening.workers) (sym h.object_is) (may-stop none').allowed
