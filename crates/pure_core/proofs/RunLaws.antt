-- Legal runs, one after the other.
use Rattle.std.proofs.Common.{◌≡◌, ◌∙◌, ℕ, ◌+◌, List, [], ◌∷◌, ◌++◌, refl, sym, ap, subst, arith, Bool, true, false, if◌then◌else◌, Some, append_assoc}
use Rattle.std.proofs.lemmas.Option.{none-some}
use Rattle.std.proofs.lemmas.List.{append-nil}
use Rattle.pure_machine.specs.State.{Progress, Waiting, Running, State, Event, TakeTheory, TakeProof, Fork, CloseTheory, Deliver, Stop, opened, waiting, unmarked, theory_at}
use Rattle.pure_machine.specs.Policy.{Opening, due}
use Rattle.pure_machine.specs.Step.{after, after_all, stops, Allows, IsRunFrom, is_cancelled_promise, cancelled_by, settled}
use Rattle.pure_core.specs.Legal.{IsLegal, GoesOn, IsAtRest}
use Rattle.pure_core.proofs.KeptLaws.{IsKept, kept-opened, kept-after_all, cancel-keeps, before-cancel, waiting-at}

abbrev IsWaiting : {C : Type 0} → Progress C → Type 0
IsWaiting Waiting = Unit {0}
IsWaiting _ = ⊥

pub after_all-append : {G C O : Type 0} (s : State G C O) (es fs : List (Event G C O)) → after_all s (es ++ fs) ≡ after_all (after_all s es) fs
after_all-append s [] fs = refl
after_all-append s (e ∷ es) fs = after_all-append (after s e) es fs

pub run-append : {G C O : Type 0} (forks : ℕ → ℕ → ℕ → G → Type 0) (closes : ℕ → ℕ → C → Type 0) (may : G → O → Type 0) (is_fault : O → Bool) (s : State G C O) (es fs : List (Event G C O))
    → IsRunFrom forks closes may is_fault s es → IsRunFrom forks closes may is_fault (after_all s es) fs → IsRunFrom forks closes may is_fault s (es ++ fs)
run-append forks closes may is_fault s [] fs one two = two
run-append forks closes may is_fault s (e ∷ es) fs one two = (one.0, run-append forks closes may is_fault (after s e) es fs one.1 two)

stops-append : {G C O : Type 0} (es fs : List (Event G C O)) → stops es ≡ 0 → stops fs ≡ 0 → stops (es ++ fs) ≡ 0
stops-append [] fs a b = b
stops-append (TakeTheory i ∷ es) fs a b = stops-append es fs a b
stops-append (TakeProof n ∷ es) fs a b = stops-append es fs a b
stops-append (Fork i c g ∷ es) fs a b = stops-append es fs a b
stops-append (CloseTheory i c ∷ es) fs a b = stops-append es fs a b
stops-append (Deliver n o f ∷ es) fs a b = stops-append es fs a b
stops-append (Stop ∷ es) fs a b = absurd (omega (arith, a))

pub goes_on-not : {G C O : Type 0} (forks : ℕ → ℕ → ℕ → G → Type 0) (closes : ℕ → ℕ → C → Type 0) (may : G → O → Type 0) (is_fault : O → Bool) (old new : State G C O) → new ≡ old → GoesOn forks closes may is_fault old new
goes_on-not forks closes may is_fault old new same = record { events = []; run = tt; state = same; none_stops = refl }

pub goes_on-by : {G C O : Type 0} (forks : ℕ → ℕ → ℕ → G → Type 0) (closes : ℕ → ℕ → C → Type 0) (may : G → O → Type 0) (is_fault : O → Bool) (old new : State G C O) (e : Event G C O) → Allows forks closes may is_fault old e → stops (e ∷ []) ≡ 0 → new ≡ after old e → GoesOn forks closes may is_fault old new
goes_on-by forks closes may is_fault old new e allowed none same = record { events = e ∷ []; run = (allowed, tt); state = same; none_stops = none }

pub goes_on-then : {G C O : Type 0} (forks : ℕ → ℕ → ℕ → G → Type 0) (closes : ℕ → ℕ → C → Type 0) (may : G → O → Type 0) (is_fault : O → Bool) (old mid new : State G C O) → GoesOn forks closes may is_fault old mid → GoesOn forks closes may is_fault mid new → GoesOn forks closes may is_fault old new
goes_on-then forks closes may is_fault old mid new one two = record {
  events = one.events ++ two.events;
  run = run-append forks closes may is_fault old one.events two.events one.run (subst (λ s. IsRunFrom forks closes may is_fault s two.events) one.state two.run);
  state = two.state ∙ ap (λ s. after_all s two.events) one.state ∙ sym (after_all-append old one.events two.events);
  none_stops = stops-append one.events two.events one.none_stops two.none_stops;
}

opening-after : {G C O : Type 0} (s : State G C O) (e : Event G C O) → (after s e).opening ≡ s.opening
opening-after s (TakeTheory i) = refl
opening-after s (TakeProof n) = refl
opening-after s (Fork i c g) = refl
opening-after s (CloseTheory i c) = refl
opening-after {G} {C} {O} s (Deliver n o f) = by_flag (is_cancelled_promise _)
  where
    by_flag : (b : Bool) → State.opening (if b then s else settled s n o f) ≡ s.opening
    by_flag true = refl
    by_flag false = (cancel-keeps (record s { promises = _; kept = s.kept + 1 }) (cancelled_by s.opening.policy (s.kept + 1) f)).4
opening-after s Stop = refl

pub opening-after_all : {G C O : Type 0} (s : State G C O) (es : List (Event G C O)) → (after_all s es).opening ≡ s.opening
opening-after_all s [] = refl
opening-after_all s (e ∷ es) = opening-after_all (after s e) es ∙ opening-after s e

pub history-after_all : {G C O : Type 0} (s : State G C O) (es : List (Event G C O)) → (after_all s es).history ≡ s.history ++ es
history-after_all s [] = sym (append-nil s.history)
history-after_all s (e ∷ es) = history-after_all (after s e) es ∙ append_assoc s.history (e ∷ []) es

-- what goes on from a legal run is one
pub legal-goes_on : {G C O : Type 0} (shape : List (List ℕ)) (forks : ℕ → ℕ → ℕ → G → Type 0) (closes : ℕ → ℕ → C → Type 0) (may : G → O → Type 0) (is_fault : O → Bool) (old new : State G C O) → IsLegal shape forks closes may is_fault old → GoesOn forks closes may is_fault old new → IsLegal shape forks closes may is_fault new
legal-goes_on {G} {C} {O} shape forks closes may is_fault old new legal more = record {
  shaped = ap (λ o. o.shape) opening ∙ legal.shaped;
  run = subst (λ o. IsRunFrom forks closes may is_fault (opened o) new.history) (sym opening) (subst (IsRunFrom forks closes may is_fault (opened old.opening)) (sym history) whole);
  state = more.state ∙ ap (λ s. after_all s more.events) legal.state ∙ sym (after_all-append (opened old.opening) old.history more.events) ∙ ap (after_all (opened old.opening)) (sym history) ∙ ap (λ o. after_all (opened o) new.history) (sym opening);
}
  where
    opening : new.opening ≡ old.opening
    opening = ap (λ s. s.opening) more.state ∙ opening-after_all old more.events

    history : new.history ≡ old.history ++ more.events
    history = ap (λ s. s.history) more.state ∙ history-after_all old more.events

    whole : IsRunFrom forks closes may is_fault (opened old.opening) (old.history ++ more.events)
    whole = run-append forks closes may is_fault (opened old.opening) old.history more.events legal.run (subst (λ s. IsRunFrom forks closes may is_fault s more.events) legal.state more.run)

-- what holds in each state of a legal run
pub kept-legal : {G C O : Type 0} (shape : List (List ℕ)) (forks : ℕ → ℕ → ℕ → G → Type 0) (closes : ℕ → ℕ → C → Type 0) (may : G → O → Type 0) (is_fault : O → Bool) (s : State G C O) → IsLegal shape forks closes may is_fault s → IsKept forks closes s
kept-legal shape forks closes may is_fault s legal = subst (IsKept forks closes) (sym legal.state) (kept-after_all forks closes may is_fault (opened s.opening) s.history legal.run (kept-opened forks closes s.opening))

-- the opening is a legal run of no event
pub legal-opened : {G C O : Type 0} (shape : List (List ℕ)) (forks : ℕ → ℕ → ℕ → G → Type 0) (closes : ℕ → ℕ → C → Type 0) (may : G → O → Type 0) (is_fault : O → Bool) (o : Opening) → o.shape ≡ shape → IsLegal {G = G} {C = C} {O = O} shape forks closes may is_fault (opened o)
legal-opened {G} {C} {O} shape forks closes may is_fault o same = record {
  shaped = ap (λ x. x.shape) opening ∙ same;
  run = subst (IsRunFrom forks closes may is_fault (opened (opened {G = G} {C = C} {O = O} o).opening)) (sym history) tt;
  state = sym (ap (λ x. after_all (opened x) (opened {G = G} {C = C} {O = O} o).history) opening ∙ ap (after_all (opened {G = G} {C = C} {O = O} o)) history);
}
  where
    begun : State G C O
    begun = record { opening = o; theories = waiting o.shape; promises = []; cancelled = unmarked o.shape; kept = 0; stopped = false; history = [] }

    opening : (opened {G = G} {C = C} {O = O} o).opening ≡ o
    opening = (cancel-keeps begun (due o.policy.cancels 0)).4

    history : (opened {G = G} {C = C} {O = O} o).history ≡ []
    history = (cancel-keeps begun (due o.policy.cancels 0)).1

-- and nothing runs there
pub rest-opened : {G C O : Type 0} (o : Opening) → IsAtRest {G = G} {C = C} {O = O} (opened o)
rest-opened {G} {C} {O} o = record {
  goes_on = (cancel-keeps begun (due o.policy.cancels 0)).3;
  theories = λ i k at. waits k (sym (waiting-at o.shape i (Running k) (subst (λ ts. theory_at ts i ≡ Some (Running k)) (cancel-keeps begun (due o.policy.cancels 0)).0 at)));
  promises = λ n p at taken. (let old = before-cancel begun (due o.policy.cancels 0) n p at in none-some old.0 old.1);
}
  where
    begun : State G C O
    begun = record { opening = o; theories = waiting o.shape; promises = []; cancelled = unmarked o.shape; kept = 0; stopped = false; history = [] }

    waits : (k : ℕ) → ◌≡◌ {A = Progress C} Waiting (Running k) → ⊥
    waits k e = subst IsWaiting e tt

-- one event behind a legal run
pub legal-grows : {G C O : Type 0} (shape : List (List ℕ)) (forks : ℕ → ℕ → ℕ → G → Type 0) (closes : ℕ → ℕ → C → Type 0) (may : G → O → Type 0) (is_fault : O → Bool) (s : State G C O) (e : Event G C O) → IsLegal shape forks closes may is_fault s → Allows forks closes may is_fault s e → IsLegal shape forks closes may is_fault (after s e)
legal-grows {G} {C} {O} shape forks closes may is_fault s e legal allowed = record {
  shaped = ap (λ o. o.shape) opening ∙ legal.shaped;
  run = subst (λ o. IsRunFrom forks closes may is_fault (opened o) (s.history ++ e ∷ [])) (sym opening) (run-append forks closes may is_fault (opened s.opening) s.history (e ∷ []) legal.run (subst (λ x. IsRunFrom forks closes may is_fault x (e ∷ [])) legal.state (allowed, tt)));
  state = ap (λ x. after x e) legal.state ∙ sym (after_all-append (opened s.opening) s.history (e ∷ [])) ∙ ap (λ o. after_all (opened o) (s.history ++ e ∷ [])) (sym opening);
}
  where
    opening : (after s e).opening ≡ s.opening
    opening = opening-after s e
