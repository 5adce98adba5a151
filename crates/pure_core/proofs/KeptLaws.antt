-- What holds in each state of a legal run: who was closed may be closed so, who was forked may be forked, and no outcome of a ready promise was delivered.
use Rattle.std.proofs.Common.{◌≡◌, ◌≢◌, ◌∙◌, ◌<◌, ℕ, zero, suc, ◌+◌, List, [], ◌∷◌, ◌++◌, map, length, refl, sym, ap, subst, arith, Bool, true, false, not, ◌&&◌, if◌then◌else◌, Some, slice_get, inl, inr, ◌⊎◌}
use Rattle.std.proofs.lemmas.Option.{same_Some, none-some, slice_get_within}
use Rattle.std.proofs.lemmas.List.{length-map}
use Rattle.pure_text.specs.Lists.{IsIn}
use Rattle.pure_text.proofs.ListLaws.{in_split}
use Rattle.pure_machine.specs.declared.policy.Group.{Group}
use Rattle.pure_machine.specs.Policy.{Opening, due}
use Rattle.pure_machine.specs.State.{Progress, Waiting, Running, Closed, Promise, Standing, Ready, Taken, Settled, Cancelled, Event, TakeTheory, TakeProof, Fork, CloseTheory, Deliver, Stop, Marks, State, theory_at, waiting, unmarked, with_standing, is_theory_cancelled, is_settled, cancelled_promise, with_cancelled, opened}
use Rattle.pure_machine.specs.Step.{Stands, IsOver, IsClosed, forked_once, closed_by, new_promise, is_cancelled_standing, is_cancelled_promise, cancelled_by, settled, after, after_all, Allows, IsRunFrom}
use Rattle.pure_machine.proofs.PromiseLaws.{slice_get-mapped, ready-cancelled}
use Rattle.pure_core.proofs.PlaceLaws.{theory-changed, promise-changed, pushed-at, length-standing}

-- an outcome of the promise was delivered
abbrev pub Delivered : {G C O : Type 0} → List (Event G C O) → ℕ → Type 0
Delivered {G} {C} {O} es n = (o : O) × (fault : Bool) × IsIn (Deliver n o fault) es

pub record IsKept {G C O : Type 0} (forks : ℕ → ℕ → ℕ → G → Type 0) (closes : ℕ → ℕ → C → Type 0) (s : State G C O) : Type 0 where
  pub closed : (i k : ℕ) (c : C) → theory_at s.theories i ≡ Some (Closed k c) → closes i k c
  pub goals : (n : ℕ) (p : Promise G O) → Stands s n p → (i : ℕ) × (k : ℕ) × (c : ℕ) × forks i k c p.goal
  pub fresh : (n : ℕ) (p : Promise G O) → Stands s n p → p.standing ≡ Ready → ¬ Delivered s.history n
  pub known : (n : ℕ) → Delivered s.history n → n < length s.promises

-- ways to stand and to have come so far that differ
abbrev IsReadyStanding : {O : Type 0} → Standing O → Type 0
IsReadyStanding Ready = Unit {0}
IsReadyStanding _ = ⊥

not_ready : {O : Type 0} (s t : Standing O) → s ≡ t → t ≡ Ready → ¬ IsReadyStanding s → ⊥
not_ready s t e ready other = other (subst IsReadyStanding (sym ready ∙ sym e) tt)

abbrev ClosedBy : {C : Type 0} → (ℕ → C → Type 0) → Progress C → Type 0
ClosedBy P (Closed k c) = P k c
ClosedBy P _ = ⊥

from_closed : {C : Type 0} (P : ℕ → C → Type 0) (q : Progress C) (k : ℕ) (c : C) → q ≡ Closed k c → ClosedBy P q → P k c
from_closed P q k c e h = subst (ClosedBy P) e h

not_closed : {C : Type 0} (q : Progress C) (k : ℕ) (c : C) → q ≡ Closed k c → ¬ IsClosed q → ⊥
not_closed q k c e other = other (subst IsClosed (sym e) tt)

-- an event that delivers nothing, behind others
abbrev IsDelivery : {G C O : Type 0} → Event G C O → Type 0
IsDelivery (Deliver n o fault) = Unit {0}
IsDelivery _ = ⊥

delivered-before : {G C O : Type 0} (es : List (Event G C O)) (e : Event G C O) (n : ℕ) → ¬ IsDelivery e → Delivered (es ++ e ∷ []) n → Delivered es n
delivered-before es e n other d = elim (in_split (Deliver n d.0 d.1) es (e ∷ []) d.2) [
  | inl old ↦ (d.0, d.1, old)
  | inr here ↦ elim here [ inl same ↦ absurd (other (subst IsDelivery same tt)) | inr none ↦ absurd none ]
]

abbrev number_of : {G C O : Type 0} → Event G C O → ℕ
number_of (Deliver n o fault) = n
number_of _ = 0

delivered-with : {G C O : Type 0} (es : List (Event G C O)) (n : ℕ) (o : O) (fault : Bool) (m : ℕ) → Delivered (es ++ Deliver n o fault ∷ []) m → (m ≡ n) ⊎ Delivered es m
delivered-with {G} {C} {O} es n o fault m d = elim (in_split (Deliver m d.0 d.1) es (Deliver n o fault ∷ []) d.2) [
  | inl old ↦ inr (d.0, d.1, old)
  | inr here ↦ elim here [ inl same ↦ inl (ap number_of same) | inr none ↦ absurd none ]
]

-- what stands where groups were cancelled stood there before, and if it is ready now it was so
cancelled-at : {G O : Type 0} (m : Marks) (ps : List (Promise G O)) (n : ℕ) (q : Promise G O) → slice_get (map (cancelled_promise m) ps) n ≡ Some q
    → (p : Promise G O) × (slice_get ps n ≡ Some p) × (q.goal ≡ p.goal) × (q.standing ≡ Ready → p.standing ≡ Ready) × (q.standing ≡ Taken → p.standing ≡ Taken)
cancelled-at {G} {O} m ps n q e =
    let old = slice_get-mapped (cancelled_promise m) ps n q e in
    (old.0, old.1, goal_is (is_theory_cancelled m old.0.theory && not (is_settled old.0.standing)) old.0 old.2, ready-cancelled (is_theory_cancelled m old.0.theory && not (is_settled old.0.standing)) old.0 q old.2, taken_is (is_theory_cancelled m old.0.theory && not (is_settled old.0.standing)) old.0 old.2)
  where
    goal_is : (b : Bool) (p : Promise G O) → (if b then (record { theory = p.theory; command = p.command; goal = p.goal; standing = Cancelled }) else p) ≡ q → q.goal ≡ p.goal
    goal_is true p e = sym (ap (λ x. x.goal) e)
    goal_is false p e = sym (ap (λ x. x.goal) e)

    never : {O : Type 0} → ◌≡◌ {A = Standing O} Cancelled Taken → ⊥
    never e = subst IsOver e tt

    taken_is : (b : Bool) (p : Promise G O) → (if b then (record { theory = p.theory; command = p.command; goal = p.goal; standing = Cancelled }) else p) ≡ q → q.standing ≡ Taken → p.standing ≡ Taken
    taken_is true p e taken = absurd (never (ap (λ x. x.standing) e ∙ taken))
    taken_is false p e taken = ap (λ x. x.standing) e ∙ taken

-- what a promise of a state was before some groups were cancelled
pub before-cancel : {G C O : Type 0} (s : State G C O) (gs : List Group) (n : ℕ) (q : Promise G O) → Stands (with_cancelled s gs) n q
    → (p : Promise G O) × Stands s n p × (q.goal ≡ p.goal) × (q.standing ≡ Ready → p.standing ≡ Ready) × (q.standing ≡ Taken → p.standing ≡ Taken)
before-cancel s [] n q e = (q, e, refl, λ r. r, λ t. t)
before-cancel s (g ∷ gs) n q e = cancelled-at _ s.promises n q e

pub cancel-keeps : {G C O : Type 0} (s : State G C O) (gs : List Group) → ((with_cancelled s gs).theories ≡ s.theories) × ((with_cancelled s gs).history ≡ s.history) × (length (with_cancelled s gs).promises ≡ length s.promises) × ((with_cancelled s gs).stopped ≡ s.stopped) × ((with_cancelled s gs).opening ≡ s.opening)
cancel-keeps s [] = (refl, refl, refl, refl, refl)
cancel-keeps s (g ∷ gs) = (refl, refl, length-map s.promises _, refl, refl)

pub waiting-at : {C : Type 0} (shape : List (List ℕ)) (i : ℕ) (q : Progress C) → theory_at (waiting shape) i ≡ Some q → q ≡ Waiting
waiting-at shape zero q e = absurd (none-some q e)
waiting-at shape (suc i) q e = mapped shape i e
  where
    mapped : (xs : List (List ℕ)) (k : ℕ) → slice_get (waiting xs) k ≡ Some q → q ≡ Waiting
    mapped [] k e = absurd (none-some q e)
    mapped (x ∷ xs) zero e = sym (same_Some Waiting q e)
    mapped (x ∷ xs) (suc k) e = mapped xs k e

-- at the opening
pub kept-opened : {G C O : Type 0} (forks : ℕ → ℕ → ℕ → G → Type 0) (closes : ℕ → ℕ → C → Type 0) (o : Opening) → IsKept {G = G} {C = C} {O = O} forks closes (opened o)
kept-opened {G} {C} {O} forks closes o = record { closed = closed_so; goals = goals_so; fresh = fresh_so; known = known_so }
  where
    s : State G C O
    s = record { opening = o; theories = waiting o.shape; promises = []; cancelled = unmarked o.shape; kept = 0; stopped = false; history = [] }

    none : (n : ℕ) (p : Promise G O) → Stands (with_cancelled s (due o.policy.cancels 0)) n p → ⊥
    none n p e = let old = before-cancel s (due o.policy.cancels 0) n p e in none-some old.0 old.1

    closed_so : (i k : ℕ) (c : C) → theory_at (opened {G = G} {C = C} {O = O} o).theories i ≡ Some (Closed k c) → closes i k c
    closed_so i k c e = absurd (not_closed Waiting k c (sym (waiting-at o.shape i (Closed k c) (subst (λ ts. theory_at ts i ≡ Some (Closed k c)) (cancel-keeps s (due o.policy.cancels 0)).0 e))) (λ x. x))

    goals_so : (n : ℕ) (p : Promise G O) → Stands (opened {G = G} {C = C} {O = O} o) n p → (i : ℕ) × (k : ℕ) × (c : ℕ) × forks i k c p.goal
    goals_so n p e = absurd (none n p e)

    fresh_so : (n : ℕ) (p : Promise G O) → Stands (opened {G = G} {C = C} {O = O} o) n p → p.standing ≡ Ready → ¬ Delivered (opened {G = G} {C = C} {O = O} o).history n
    fresh_so n p e = absurd (none n p e)

    known_so : (n : ℕ) → Delivered (opened {G = G} {C = C} {O = O} o).history n → n < length (opened {G = G} {C = C} {O = O} o).promises
    known_so n d = absurd (subst (λ es. IsIn (Deliver n d.0 d.1) es) (cancel-keeps s (due o.policy.cancels 0)).1 d.2)

-- after a theory is taken
kept-take_theory : {G C O : Type 0} (forks : ℕ → ℕ → ℕ → G → Type 0) (closes : ℕ → ℕ → C → Type 0) (s : State G C O) (i : ℕ) → IsKept forks closes s → IsKept forks closes (after s (TakeTheory i))
kept-take_theory {G} {C} {O} forks closes s i h = record {
  closed = λ j k c e. elim (theory-changed s.theories i (Running 0) j (Closed k c) e) [
    | inl here ↦ absurd (not_closed (Running 0) k c here.1 (λ x. x))
    | inr there ↦ h.closed j k c there.1
  ];
  goals = h.goals;
  fresh = λ n p e ready d. h.fresh n p e ready (delivered-before s.history (TakeTheory i) n (λ x. x) d);
  known = λ n d. h.known n (delivered-before s.history (TakeTheory i) n (λ x. x) d);
}

-- after a proof is taken
kept-take_proof : {G C O : Type 0} (forks : ℕ → ℕ → ℕ → G → Type 0) (closes : ℕ → ℕ → C → Type 0) (s : State G C O) (n : ℕ) → IsKept forks closes s → IsKept forks closes (after s (TakeProof n))
kept-take_proof {G} {C} {O} forks closes s n h = record {
  closed = h.closed;
  goals = λ m q e. elim (promise-changed s.promises n Taken m q e) [
    | inl here ↦ (let old = h.goals n here.0 here.1 in (old.0, old.1, old.2, subst (λ x. forks old.0 old.1 old.2 x.goal) here.3 old.3))
    | inr there ↦ h.goals m q there.0
  ];
  fresh = λ m q e ready d. elim (promise-changed s.promises n Taken m q e) [
    | inl here ↦ not_ready Taken q.standing (ap (λ x. x.standing) here.3) ready (λ x. x)
    | inr there ↦ h.fresh m q there.0 ready (delivered-before s.history (TakeProof n) m (λ x. x) d)
  ];
  known = λ m d. rw (length-standing s.promises n Taken) (h.known m (delivered-before s.history (TakeProof n) m (λ x. x) d));
}

-- after a fork
kept-fork : {G C O : Type 0} (forks : ℕ → ℕ → ℕ → G → Type 0) (closes : ℕ → ℕ → C → Type 0) (s : State G C O) (i k c : ℕ) (g : G) → theory_at s.theories i ≡ Some (Running k) → forks i k c g → IsKept forks closes s → IsKept forks closes (after s (Fork i c g))
kept-fork {G} {C} {O} forks closes s i k c g runs may h = record {
  closed = λ j l d e. elim (theory-changed s.theories i (forked_once (theory_at s.theories i)) j (Closed l d) e) [
    | inl here ↦ absurd (not_closed (Running (k + 1)) l d (sym (ap forked_once runs) ∙ here.1) (λ x. x))
    | inr there ↦ h.closed j l d there.1
  ];
  goals = λ m q e. elim (pushed-at s.promises (new_promise s i c g) m q e) [
    | inl here ↦ (i, k, c, subst (λ x. forks i k c x.goal) here.1 may)
    | inr there ↦ h.goals m q there
  ];
  fresh = λ m q e ready d. elim (pushed-at s.promises (new_promise s i c g) m q e) [
    | inl here ↦ absurd (omega (arith, here.0, h.known m (delivered-before s.history (Fork i c g) m (λ x. x) d)))
    | inr there ↦ h.fresh m q there ready (delivered-before s.history (Fork i c g) m (λ x. x) d)
  ];
  known = λ m d. longer s.promises m (h.known m (delivered-before s.history (Fork i c g) m (λ x. x) d));
}
  where
    longer : (ps : List (Promise G O)) (m : ℕ) → m < length ps → m < length (ps ++ new_promise s i c g ∷ [])
    longer [] m within = absurd (omega (arith, within))
    longer (p ∷ ps) zero within = omega arith
    longer (p ∷ ps) (suc m) within = omega (arith, longer ps m (omega (arith, within)))

-- after a theory is closed
kept-close : {G C O : Type 0} (forks : ℕ → ℕ → ℕ → G → Type 0) (closes : ℕ → ℕ → C → Type 0) (s : State G C O) (i k : ℕ) (c : C) → theory_at s.theories i ≡ Some (Running k) → closes i k c → IsKept forks closes s → IsKept forks closes (after s (CloseTheory i c))
kept-close {G} {C} {O} forks closes s i k c runs may h = record {
  closed = λ j l d e. elim (theory-changed s.theories i (closed_by (theory_at s.theories i) c) j (Closed l d) e) [
    | inl here ↦ from_closed (closes j) (Closed k c) l d (sym (ap (λ o. closed_by o c) runs) ∙ here.1) (subst (λ x. closes x k c) (sym here.0) may)
    | inr there ↦ h.closed j l d there.1
  ];
  goals = h.goals;
  fresh = λ n p e ready d. h.fresh n p e ready (delivered-before s.history (CloseTheory i c) n (λ x. x) d);
  known = λ n d. h.known n (delivered-before s.history (CloseTheory i c) n (λ x. x) d);
}

-- the state once an outcome is delivered, by whether the promise was cancelled
abbrev pub delivered_state : {G C O : Type 0} → State G C O → (n : ℕ) → O → (fault cancelled : Bool) → State G C O
delivered_state s n o fault b = record (if b then s else settled s n o fault) { history = s.history ++ Deliver n o fault ∷ [] }

kept-dropped : {G C O : Type 0} (forks : ℕ → ℕ → ℕ → G → Type 0) (closes : ℕ → ℕ → C → Type 0) (s : State G C O) (n : ℕ) (o : O) (fault : Bool) (p : Promise G O) → Stands s n p → p.standing ≢ Ready → IsKept forks closes s → IsKept forks closes (delivered_state s n o fault true)
kept-dropped {G} {C} {O} forks closes s n o fault p at other h = record {
  closed = h.closed;
  goals = h.goals;
  fresh = λ m q e ready d. elim (delivered-with s.history n o fault m d) [
    | inl same ↦ other (ap (λ x. x.standing) (same_Some p q (sym at ∙ ap (slice_get s.promises) (sym same) ∙ e)) ∙ ready)
    | inr old ↦ h.fresh m q e ready old
  ];
  known = λ m d. elim (delivered-with s.history n o fault m d) [
    | inl same ↦ subst (λ x. x < length s.promises) (sym same) (slice_get_within s.promises n p at)
    | inr old ↦ h.known m old
  ];
}

kept-settled : {G C O : Type 0} (forks : ℕ → ℕ → ℕ → G → Type 0) (closes : ℕ → ℕ → C → Type 0) (s : State G C O) (n : ℕ) (o : O) (fault : Bool) (p : Promise G O) → Stands s n p → IsKept forks closes s → IsKept forks closes (delivered_state s n o fault false)
kept-settled {G} {C} {O} forks closes s n o fault p at h = record {
  closed = λ i k c e. h.closed i k c (subst (λ ts. theory_at ts i ≡ Some (Closed k c)) keeps.0 e);
  goals = λ m q e. (let mid = before-cancel between groups m q e in
      elim (promise-changed s.promises n (Settled o) m mid.0 mid.1) [
        | inl here ↦ (let old = h.goals n here.0 here.1 in (old.0, old.1, old.2, subst (forks old.0 old.1 old.2) (ap (λ x. x.goal) here.3 ∙ sym mid.2) old.3))
        | inr there ↦ (let old = h.goals m mid.0 there.0 in (old.0, old.1, old.2, subst (forks old.0 old.1 old.2) (sym mid.2) old.3))
      ]);
  fresh = λ m q e ready d. (let mid = before-cancel between groups m q e in
      elim (promise-changed s.promises n (Settled o) m mid.0 mid.1) [
        | inl here ↦ not_ready (Settled o) mid.0.standing (ap (λ x. x.standing) here.3) (mid.3 ready) (λ x. x)
        | inr there ↦ elim (delivered-with s.history n o fault m d) [
          | inl same ↦ there.1 same
          | inr old ↦ h.fresh m mid.0 there.0 (mid.3 ready) old
        ]
      ]);
  known = λ m d. rw (keeps.2, length-standing s.promises n (Settled o)) (elim (delivered-with s.history n o fault m d) [
    | inl same ↦ subst (λ x. x < length s.promises) (sym same) (slice_get_within s.promises n p at)
    | inr old ↦ h.known m old
  ]);
}
  where
    groups : List Group
    groups = cancelled_by s.opening.policy (s.kept + 1) fault

    between : State G C O
    between = record s { promises = with_standing s.promises n (Settled o); kept = s.kept + 1 }

    keeps : ((with_cancelled between groups).theories ≡ s.theories) × ((with_cancelled between groups).history ≡ s.history) × (length (with_cancelled between groups).promises ≡ length (with_standing s.promises n (Settled o))) × ((with_cancelled between groups).stopped ≡ s.stopped) × ((with_cancelled between groups).opening ≡ s.opening)
    keeps = cancel-keeps between groups

abbrev IsFalse : Bool → Type 0
IsFalse false = Unit {0}
IsFalse true = ⊥

-- after a delivery
kept-deliver : {G C O : Type 0} (forks : ℕ → ℕ → ℕ → G → Type 0) (closes : ℕ → ℕ → C → Type 0) (s : State G C O) (n : ℕ) (o : O) (fault : Bool) (p : Promise G O) → Stands s n p → IsKept forks closes s → IsKept forks closes (after s (Deliver n o fault))
kept-deliver {G} {C} {O} forks closes s n o fault p at h = by_flag (is_cancelled_promise (slice_get s.promises n)) refl
  where
    not_ready_now : is_cancelled_promise (slice_get s.promises n) ≡ true → p.standing ≢ Ready
    not_ready_now e ready = absurd (differ (sym (ap is_cancelled_standing ready) ∙ ap is_cancelled_promise (sym at) ∙ e))
      where
        differ : ◌≡◌ {A = Bool} false true → ⊥
        differ e = subst IsFalse e tt

    by_flag : (b : Bool) → is_cancelled_promise (slice_get s.promises n) ≡ b → IsKept forks closes (delivered_state s n o fault b)
    by_flag true e = kept-dropped forks closes s n o fault p at (not_ready_now e) h
    by_flag false e = kept-settled forks closes s n o fault p at h

-- after the work is stopped
kept-stop : {G C O : Type 0} (forks : ℕ → ℕ → ℕ → G → Type 0) (closes : ℕ → ℕ → C → Type 0) (s : State G C O) → IsKept forks closes s → IsKept forks closes (after s Stop)
kept-stop {G} {C} {O} forks closes s h = record {
  closed = h.closed;
  goals = h.goals;
  fresh = λ n p e ready d. h.fresh n p e ready (delivered-before s.history Stop n (λ x. x) d);
  known = λ n d. h.known n (delivered-before s.history Stop n (λ x. x) d);
}

-- after an event that may happen
pub kept-after : {G C O : Type 0} (forks : ℕ → ℕ → ℕ → G → Type 0) (closes : ℕ → ℕ → C → Type 0) (may : G → O → Type 0) (is_fault : O → Bool) (s : State G C O) (e : Event G C O) → Allows forks closes may is_fault s e → IsKept forks closes s → IsKept forks closes (after s e)
kept-after forks closes may is_fault s (TakeTheory i) a h = kept-take_theory forks closes s i h
kept-after forks closes may is_fault s (TakeProof n) a h = kept-take_proof forks closes s n h
kept-after forks closes may is_fault s (Fork i c g) a h = kept-fork forks closes s i a.0 c g a.1 a.2 h
kept-after forks closes may is_fault s (CloseTheory i c) a h = kept-close forks closes s i a.0 c a.1 a.2 h
kept-after forks closes may is_fault s (Deliver n o fault) a h = kept-deliver forks closes s n o fault a.0 a.1 h
kept-after forks closes may is_fault s Stop a h = kept-stop forks closes s h

-- after a legal run
pub kept-after_all : {G C O : Type 0} (forks : ℕ → ℕ → ℕ → G → Type 0) (closes : ℕ → ℕ → C → Type 0) (may : G → O → Type 0) (is_fault : O → Bool) (s : State G C O) (es : List (Event G C O)) → IsRunFrom forks closes may is_fault s es → IsKept forks closes s → IsKept forks closes (after_all s es)
kept-after_all forks closes may is_fault s [] run h = h
kept-after_all forks closes may is_fault s (e ∷ es) run h = kept-after_all forks closes may is_fault (after s e) es run.1 (kept-after forks closes may is_fault s e run.0 h)
