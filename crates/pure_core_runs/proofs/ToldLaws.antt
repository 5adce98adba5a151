-- What the history of a legal run says of each promise and each theory of its state.
use Rattle.std.proofs.Common.{◌≡◌, ◌≢◌, ◌∙◌, ◌<◌, ℕ, ◌+◌, List, [], ◌∷◌, ◌++◌, length, refl, sym, ap, subst, arith, nat_eq, Bool, true, false, if◌then◌else◌, Some, inl, inr}
use Rattle.std.proofs.lemmas.Option.{none-some, slice_get_within}
use Rattle.std.proofs.lemmas.Bool.{eqb-true, eq-eqb}
use Rattle.pure_text.specs.Lists.{IsIn}
use Rattle.pure_text.proofs.ListLaws.{in-append_left, in-append_right}
use Rattle.pure_machine.specs.Policy.{Opening, due}
use Rattle.pure_machine.specs.State.{Progress, Waiting, Running, Closed, Promise, Standing, Ready, Taken, Settled, Cancelled, Event, TakeTheory, TakeProof, Fork, CloseTheory, Deliver, Stop, State, theory_at, waiting, unmarked, is_settled, opened}
use Rattle.pure_machine.specs.Step.{Stands, IsOut, Allows, IsRunFrom, IsNextPromise, NoTheoryReady, IsNextTheory, forked_once, closed_by, is_cancelled_standing, after, after_all}
use Rattle.pure_core.proofs.KeptLaws.{Delivered, IsKept, kept-opened, kept-after, cancel-keeps, before-cancel, waiting-at}
use Rattle.pure_core_runs.specs.Seats.{forks_in}
use Rattle.pure_core_runs.proofs.SplitLaws.{in_last, forks-append}
use Rattle.pure_core_runs.proofs.ChangeLaws.{LeavesPromise, LeavesTheory, Became, stayed, was_forked, was_taken, was_settled, was_cancelled, became, Came, left_so, began, went_on, ended, came, allowed_there, promises-grow, theory-there_after}

pub record IsTold {G C O : Type 0} (s : State G C O) : Type 0 where
  pub ready : (n : ℕ) (p : Promise G O) → Stands s n p → p.standing ≡ Ready → ¬ IsIn (TakeProof n) s.history
  pub taken : (n : ℕ) (p : Promise G O) → Stands s n p → p.standing ≡ Taken → IsOut s.history n
  pub settled : (n : ℕ) (p : Promise G O) → Stands s n p → is_settled p.standing ≡ true → Delivered s.history n
  pub promised : (n : ℕ) → IsIn (TakeProof n) s.history → n < length s.promises
  pub waits : (i : ℕ) → theory_at s.theories i ≡ Some Waiting → (¬ IsIn (TakeTheory i) s.history) × (forks_in i s.history ≡ 0)
  pub runs : (i k : ℕ) → theory_at s.theories i ≡ Some (Running k) → k ≡ forks_in i s.history
  pub closed : (i k : ℕ) (c : C) → theory_at s.theories i ≡ Some (Closed k c) → IsIn (CloseTheory i c) s.history
  pub begun : (i : ℕ) → IsIn (TakeTheory i) s.history → (q : Progress C) × (theory_at s.theories i ≡ Some q)
  pub moved : (i : ℕ) (q : Progress C) → theory_at s.theories i ≡ Some q → q ≢ Waiting → IsIn (TakeTheory i) s.history

-- how a new promise stands
new-not_taken : {O : Type 0} (b : Bool) → ◌≡◌ {A = Standing O} (if b then Cancelled else Ready) Taken → ⊥
new-not_taken true e = cc
new-not_taken false e = cc

new-not_settled : (O : Type 0) (b : Bool) → is_settled {O = O} (if b then Cancelled else Ready) ≡ true → ⊥
new-not_settled O true e = cc
new-not_settled O false e = cc

-- an event of another theory forks nothing of this one
pub left-forks : {G C O : Type 0} (i : ℕ) (e : Event G C O) → LeavesTheory i e → forks_in i (e ∷ []) ≡ 0
left-forks i (TakeTheory j) leaves = refl
left-forks i (TakeProof n) leaves = refl
left-forks i (Fork j c g) leaves = by_flag (nat_eq j i) refl
  where
    by_flag : (b : Bool) → nat_eq j i ≡ b → (if b then (0 + 1) else 0) ≡ 0
    by_flag true e = absurd (leaves (sym (eqb-true j i e)))
    by_flag false e = refl
left-forks i (CloseTheory j c) leaves = refl
left-forks i (Deliver n o f) leaves = refl
left-forks i Stop leaves = refl

fork-counts : (G C O : Type 0) (i c : ℕ) (g : G) → forks_in {G = G} {C = C} {O = O} i (Fork i c g ∷ []) ≡ 1
fork-counts G C O i c g = by_flag (nat_eq i i) (eq-eqb i i refl)
  where
    by_flag : (b : Bool) → b ≡ true → (if b then (0 + 1) else 0) ≡ 1
    by_flag true e = refl
    by_flag false e = absurd (cc)

module _ {G C O : Type 0} (forks : ℕ → ℕ → ℕ → G → Type 0) (closes : ℕ → ℕ → C → Type 0) (may : G → O → Type 0) (is_fault : O → Bool) where
  abbrev May : State G C O → Event G C O → Type 0
  May s e = Allows forks closes may is_fault s e

  module _ (s : State G C O) (e : Event G C O) (a : May s e) (kept : IsKept forks closes s) (h : IsTold s) where
    -- what is known where the event is of some sort
    pub take-ready : (n : ℕ) → e ≡ TakeProof n → (p : Promise G O) × IsNextPromise s n p
    take-ready n is = let at : (s.stopped ≡ false) × NoTheoryReady s × ((p : Promise G O) × IsNextPromise s n p) = subst (May s) is a in at.2

    pub take-waits : (i : ℕ) → e ≡ TakeTheory i → theory_at s.theories i ≡ Some Waiting
    take-waits i is = let at : (s.stopped ≡ false) × ((cs : List C) × IsNextTheory s i cs) = subst (May s) is a in at.1.1.0.waits

    pub fork-runs : (i c : ℕ) (g : G) → e ≡ Fork i c g → (k : ℕ) × (theory_at s.theories i ≡ Some (Running k))
    fork-runs i c g is = let at : (k : ℕ) × (theory_at s.theories i ≡ Some (Running k)) × forks i k c g = subst (May s) is a in (at.0, at.1)

    pub close-runs : (i : ℕ) (c : C) → e ≡ CloseTheory i c → (k : ℕ) × (theory_at s.theories i ≡ Some (Running k))
    close-runs i c is = let at : (k : ℕ) × (theory_at s.theories i ≡ Some (Running k)) × closes i k c = subst (May s) is a in (at.0, at.1)

    pub deliver-out : (n : ℕ) (o : O) (fault : Bool) → e ≡ Deliver n o fault → IsOut s.history n
    deliver-out n o fault is = let at : (p : Promise G O) × Stands s n p × IsOut s.history n × may p.goal o × (fault ≡ is_fault o) = subst (May s) is a in at.2

    ready_so : (n : ℕ) (q : Promise G O) → Became s e n q → q.standing ≡ Ready → ¬ IsIn (TakeProof n) (s.history ++ e ∷ [])
    ready_so n q (stayed at leaves) is m = elim (in_last (TakeProof n) e s.history m) [
      | inl old ↦ h.ready n q at is old
      | inr here ↦ subst (LeavesPromise n q.standing) (sym here) leaves refl
    ]
    ready_so n q (was_forked i c g what last new) is m = elim (in_last (TakeProof n) e s.history m) [
      | inl old ↦ (let within = h.promised n old in omega arith)
      | inr here ↦ (let two : ◌≡◌ {A = Event G C O} (TakeProof n) (Fork i c g) = here ∙ what in cc)
    ]
    ready_so n q (was_taken p what at new) is m = let two : ◌≡◌ {A = Standing O} Taken Ready = ap (λ x. x.standing) new ∙ is in cc
    ready_so n q (was_settled p o fault what at lives new) is m = let two : ◌≡◌ {A = Standing O} (Settled o) Ready = ap (λ x. x.standing) new ∙ is in cc
    ready_so n q (was_cancelled p other k o fault what apart there lives at unsettled marked new) is m = let two : ◌≡◌ {A = Standing O} Cancelled Ready = ap (λ x. x.standing) new ∙ is in cc

    taken_so : (n : ℕ) (q : Promise G O) → Became s e n q → q.standing ≡ Taken → IsOut (s.history ++ e ∷ []) n
    taken_so n q (stayed at leaves) is = record {
      taken = in-append_left (TakeProof n) s.history (e ∷ []) (h.taken n q at is).taken;
      open_still = λ o fault m. elim (in_last (Deliver n o fault) e s.history m) [
        | inl old ↦ (h.taken n q at is).open_still o fault old
        | inr here ↦ (let dropped : is_cancelled_standing q.standing ≡ true = subst (LeavesPromise n q.standing) (sym here) leaves refl in let alive : is_cancelled_standing q.standing ≡ false = ap is_cancelled_standing is in cc)
      ];
    }
    taken_so n q (was_forked i c g what last new) is = absurd (new-not_taken _ (ap (λ x. x.standing) new ∙ is))
    taken_so n q (was_taken p what at new) is = record {
      taken = in-append_right (TakeProof n) s.history (e ∷ []) (inl (sym what));
      open_still = λ o fault m. elim (in_last (Deliver n o fault) e s.history m) [
        | inl old ↦ (let next = take-ready n what in kept.fresh n next.0 next.1.0 next.1.1 (o, fault, old))
        | inr here ↦ (let two : ◌≡◌ {A = Event G C O} (Deliver n o fault) (TakeProof n) = here ∙ what in cc)
      ];
    }
    taken_so n q (was_settled p o fault what at lives new) is = absurd (let two : ◌≡◌ {A = Standing O} (Settled o) Taken = ap (λ x. x.standing) new ∙ is in cc)
    taken_so n q (was_cancelled p other k o fault what apart there lives at unsettled marked new) is = absurd (let two : ◌≡◌ {A = Standing O} Cancelled Taken = ap (λ x. x.standing) new ∙ is in cc)

    settled_so : (n : ℕ) (q : Promise G O) → Became s e n q → is_settled q.standing ≡ true → Delivered (s.history ++ e ∷ []) n
    settled_so n q (stayed at leaves) is = let old = h.settled n q at is in (old.0, old.1, in-append_left (Deliver n old.0 old.1) s.history (e ∷ []) old.2)
    settled_so n q (was_forked i c g what last new) is = absurd (new-not_settled O _ (ap (λ x. is_settled x.standing) new ∙ is))
    settled_so n q (was_taken p what at new) is = absurd (let two : ◌≡◌ {A = Bool} false true = ap (λ x. is_settled x.standing) new ∙ is in cc)
    settled_so n q (was_settled p o fault what at lives new) is = (o, fault, in-append_right (Deliver n o fault) s.history (e ∷ []) (inl (sym what)))
    settled_so n q (was_cancelled p other k o fault what apart there lives at unsettled marked new) is = absurd (let two : ◌≡◌ {A = Bool} false true = ap (λ x. is_settled x.standing) new ∙ is in cc)

    waits_so : (i : ℕ) → Came s e i Waiting → (¬ IsIn (TakeTheory i) (s.history ++ e ∷ [])) × (forks_in i (s.history ++ e ∷ []) ≡ 0)
    waits_so i (left_so at leaves) = (
      λ m. elim (in_last (TakeTheory i) e s.history m) [
        | inl old ↦ (h.waits i at).0 old
        | inr here ↦ subst (LeavesTheory i) (sym here) leaves refl
      ],
      (let none = (h.waits i at).1 in let more = forks-append i s.history (e ∷ []) in let no_fork = left-forks i e leaves in omega arith),
    )
    waits_so i (began what new) = absurd (cc)
    waits_so i (went_on m g what new) = absurd (let run = fork-runs i m g what in let two : ◌≡◌ {A = Progress C} (Running (run.0 + 1)) Waiting = sym (ap forked_once run.1) ∙ new in cc)
    waits_so i (ended c what new) = absurd (let run = close-runs i c what in let two : ◌≡◌ {A = Progress C} (Closed run.0 c) Waiting = sym (ap (λ x. closed_by x c) run.1) ∙ new in cc)

    runs_so : (i k : ℕ) → Came s e i (Running k) → k ≡ forks_in i (s.history ++ e ∷ [])
    runs_so i k (left_so at leaves) = let old = h.runs i k at in let more = forks-append i s.history (e ∷ []) in let no_fork = left-forks i e leaves in omega arith
    runs_so i k (began what new) = let none = (h.waits i (take-waits i what)).1 in let more = forks-append i s.history (e ∷ []) in let no_fork : forks_in i (e ∷ []) ≡ 0 = ap (λ x. forks_in i (x ∷ [])) what in let zero_is : 0 ≡ k = cc in omega arith
    runs_so i k (went_on m g what new) =
        let run = fork-runs i m g what in
        let two : ◌≡◌ {A = Progress C} (Running (run.0 + 1)) (Running k) = sym (ap forked_once run.1) ∙ new in
        let next : run.0 + 1 ≡ k = cc in
        let old = h.runs i run.0 run.1 in
        let more = forks-append i s.history (e ∷ []) in
        let one : forks_in i (e ∷ []) ≡ 1 = ap (λ x. forks_in i (x ∷ [])) what ∙ fork-counts G C O i m g in
        omega arith
    runs_so i k (ended c what new) = absurd (let run = close-runs i c what in let two : ◌≡◌ {A = Progress C} (Closed run.0 c) (Running k) = sym (ap (λ x. closed_by x c) run.1) ∙ new in cc)

    closed_so : (i k : ℕ) (c : C) → Came s e i (Closed k c) → IsIn (CloseTheory i c) (s.history ++ e ∷ [])
    closed_so i k c (left_so at leaves) = in-append_left (CloseTheory i c) s.history (e ∷ []) (h.closed i k c at)
    closed_so i k c (began what new) = absurd (cc)
    closed_so i k c (went_on m g what new) = absurd (let run = fork-runs i m g what in let two : ◌≡◌ {A = Progress C} (Running (run.0 + 1)) (Closed k c) = sym (ap forked_once run.1) ∙ new in cc)
    closed_so i k c (ended d what new) =
        let run = close-runs i d what in
        let two : ◌≡◌ {A = Progress C} (Closed run.0 d) (Closed k c) = sym (ap (λ x. closed_by x d) run.1) ∙ new in
        let values : d ≡ c = cc in
        in-append_right (CloseTheory i c) s.history (e ∷ []) (inl (ap (CloseTheory i) (sym values) ∙ sym what))

    moved_so : (i : ℕ) (q : Progress C) → Came s e i q → q ≢ Waiting → IsIn (TakeTheory i) (s.history ++ e ∷ [])
    moved_so i q (left_so at leaves) other = in-append_left (TakeTheory i) s.history (e ∷ []) (h.moved i q at other)
    moved_so i q (began what new) other = in-append_right (TakeTheory i) s.history (e ∷ []) (inl (sym what))
    moved_so i q (went_on m g what new) other = let run = fork-runs i m g what in in-append_left (TakeTheory i) s.history (e ∷ []) (h.moved i (Running run.0) run.1 (λ two. cc))
    moved_so i q (ended c what new) other = let run = close-runs i c what in in-append_left (TakeTheory i) s.history (e ∷ []) (h.moved i (Running run.0) run.1 (λ two. cc))

    pub told-after : IsTold (after s e)
    told-after = record {
      ready = λ n q at. ready_so n q (became s e n q (allowed_there forks closes may is_fault s e a) at);
      taken = λ n q at. taken_so n q (became s e n q (allowed_there forks closes may is_fault s e a) at);
      settled = λ n q at. settled_so n q (became s e n q (allowed_there forks closes may is_fault s e a) at);
      promised = λ n m. elim (in_last (TakeProof n) e s.history m) [
        | inl old ↦ (let within = h.promised n old in let more = promises-grow s e in omega arith)
        | inr here ↦ (let next = take-ready n (sym here) in let within = slice_get_within s.promises n next.0 next.1.0 in let more = promises-grow s e in omega arith)
      ];
      waits = λ i at. waits_so i (came s e i Waiting at);
      runs = λ i k at. runs_so i k (came s e i (Running k) at);
      closed = λ i k c at. closed_so i k c (came s e i (Closed k c) at);
      begun = λ i m. elim (in_last (TakeTheory i) e s.history m) [
        | inl old ↦ (let there = h.begun i old in theory-there_after s e i there.0 there.1)
        | inr here ↦ theory-there_after s e i Waiting (take-waits i (sym here))
      ];
      moved = λ i q at. moved_so i q (came s e i q at);
    }

  -- after a legal run
  pub told-after_all : (s : State G C O) (es : List (Event G C O)) → IsRunFrom forks closes may is_fault s es → IsKept forks closes s → IsTold s → IsTold (after_all s es)
  told-after_all s [] run kept h = h
  told-after_all s (e ∷ es) run kept h = told-after_all (after s e) es run.1 (kept-after forks closes may is_fault s e run.0 kept) (told-after s e run.0 kept h)

pub opened-history : {G C O : Type 0} (o : Opening) → (opened {G = G} {C = C} {O = O} o).history ≡ []
opened-history {G} {C} {O} o = (cancel-keeps (record { opening = o; theories = waiting o.shape; promises = []; cancelled = unmarked o.shape; kept = 0; stopped = false; history = [] }) (due o.policy.cancels 0)).1

pub opened-opening : (G C O : Type 0) (o : Opening) → (opened {G = G} {C = C} {O = O} o).opening ≡ o
opened-opening G C O o = (cancel-keeps (record { opening = o; theories = waiting o.shape; promises = []; cancelled = unmarked o.shape; kept = 0; stopped = false; history = [] }) (due o.policy.cancels 0)).4

pub opened-goes_on : (G C O : Type 0) (o : Opening) → (opened {G = G} {C = C} {O = O} o).stopped ≡ false
opened-goes_on G C O o = (cancel-keeps (record { opening = o; theories = waiting o.shape; promises = []; cancelled = unmarked o.shape; kept = 0; stopped = false; history = [] }) (due o.policy.cancels 0)).3

pub opened-waits : (G C O : Type 0) (o : Opening) (i : ℕ) (q : Progress C) → theory_at (opened {G = G} {C = C} {O = O} o).theories i ≡ Some q → q ≡ Waiting
opened-waits G C O o i q at = waiting-at o.shape i q (subst (λ ts. theory_at ts i ≡ Some q) (cancel-keeps (record { opening = o; theories = waiting o.shape; promises = []; cancelled = unmarked o.shape; kept = 0; stopped = false; history = [] }) (due o.policy.cancels 0)).0 at)

pub opened-none : (G C O : Type 0) (o : Opening) (n : ℕ) (p : Promise G O) → Stands (opened {G = G} {C = C} {O = O} o) n p → ⊥
opened-none G C O o n p at = let old = before-cancel (record { opening = o; theories = waiting o.shape; promises = []; cancelled = unmarked o.shape; kept = 0; stopped = false; history = [] }) (due o.policy.cancels 0) n p at in none-some old.0 old.1

-- at the opening
pub told-opened : {G C O : Type 0} (o : Opening) → IsTold (opened {G = G} {C = C} {O = O} o)
told-opened {G} {C} {O} o = record {
  ready = λ n p at. absurd (opened-none G C O o n p at);
  taken = λ n p at. absurd (opened-none G C O o n p at);
  settled = λ n p at. absurd (opened-none G C O o n p at);
  promised = λ n m. absurd (nothing (TakeProof n) m);
  waits = λ i at. (λ m. nothing (TakeTheory i) m, ap (forks_in i) (opened-history {G = G} {C = C} {O = O} o));
  runs = λ i k at. absurd (let two = opened-waits G C O o i (Running k) at in cc);
  closed = λ i k c at. absurd (let two = opened-waits G C O o i (Closed k c) at in cc);
  begun = λ i m. absurd (nothing (TakeTheory i) m);
  moved = λ i q at other. absurd (other (opened-waits G C O o i q at));
}
  where
    nothing : (e : Event G C O) → IsIn e (opened {G = G} {C = C} {O = O} o).history → ⊥
    nothing e m = subst (IsIn e) (opened-history {G = G} {C = C} {O = O} o) m

-- in each state of a legal run
pub told-legal : {G C O : Type 0} (forks : ℕ → ℕ → ℕ → G → Type 0) (closes : ℕ → ℕ → C → Type 0) (may : G → O → Type 0) (is_fault : O → Bool) (o : Opening) (es : List (Event G C O)) → IsRunFrom forks closes may is_fault (opened o) es → IsTold (after_all (opened o) es)
told-legal {G} {C} {O} forks closes may is_fault o es run = told-after_all forks closes may is_fault (opened o) es run (kept-opened forks closes o) (told-opened {G = G} {C = C} {O = O} o)
