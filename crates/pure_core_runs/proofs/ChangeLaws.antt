-- What a promise or a theory of the state after an event was before it.
use Rattle.std.proofs.Common.{◌≡◌, ◌≢◌, ◌∙◌, ◌≤◌, ℕ, zero, suc, ◌+◌, List, [], ◌∷◌, ◌++◌, length, set, refl, sym, ap, subst, arith, Bool, true, false, not, ◌&&◌, if◌then◌else◌, Some, slice_get, inl, inr}
use Rattle.std.proofs.lemmas.Option.{same_Some, none-some, slice_get_within}
use Rattle.std.proofs.lemmas.List.{length-set}
use Rattle.pure_machine.specs.declared.policy.Group.{Group}
use Rattle.pure_machine.specs.State.{Progress, Running, Promise, Standing, Taken, Settled, Cancelled, Event, TakeTheory, TakeProof, Fork, CloseTheory, Deliver, Stop, Marks, State, theory_at, with_progress, with_standing, is_theory_cancelled, is_settled, cancelled_promise, with_cancelled}
use Rattle.pure_machine.specs.Step.{Stands, Allows, forked_once, closed_by, new_promise, is_cancelled_standing, is_cancelled_promise, cancelled_by, after}
use Rattle.pure_machine.proofs.PromiseLaws.{slice_get-mapped}
use Rattle.pure_machine.proofs.FinishLaws.{element_there}
use Rattle.pure_core.proofs.PlaceLaws.{theory-changed, promise-changed, pushed-at, standing_so, length-standing, length-progress}
use Rattle.pure_core.proofs.KeptLaws.{cancel-keeps, delivered_state}

-- The promise of which an outcome is delivered is there.
abbrev pub IsThere : {G C O : Type 0} → State G C O → Event G C O → Type 0
IsThere {G} {C} {O} s (Deliver n o fault) = (p : Promise G O) × Stands s n p
IsThere s _ = Unit {0}

pub allowed_there : {G C O : Type 0} (forks : ℕ → ℕ → ℕ → G → Type 0) (closes : ℕ → ℕ → C → Type 0) (may : G → O → Type 0) (is_fault : O → Bool) (s : State G C O) (e : Event G C O) → Allows forks closes may is_fault s e → IsThere s e
allowed_there forks closes may is_fault s (TakeTheory i) a = tt
allowed_there forks closes may is_fault s (TakeProof n) a = tt
allowed_there forks closes may is_fault s (Fork i c g) a = tt
allowed_there forks closes may is_fault s (CloseTheory i c) a = tt
allowed_there forks closes may is_fault s (Deliver n o fault) a = (a.0, a.1)
allowed_there forks closes may is_fault s Stop a = tt

-- the event leaves a promise that stands so: it doesn't take it, and an outcome that it delivers is dropped
abbrev pub LeavesPromise : {G C O : Type 0} → (number : ℕ) → Standing O → Event G C O → Type 0
LeavesPromise n s (TakeProof m) = n ≢ m
LeavesPromise n s (Deliver m o fault) = n ≡ m → is_cancelled_standing s ≡ true
LeavesPromise n s _ = Unit {0}

-- what a promise of the state after the event was before: it stood so; or it was forked; or taken; or settled; or it wasn't settled, and is cancelled by a delivery
pub data Became {G C O : Type 0} (s : State G C O) (e : Event G C O) (n : ℕ) (q : Promise G O) : Type 0 where
  stayed : Stands s n q → LeavesPromise n q.standing e → Became s e n q
  was_forked : (i c : ℕ) (g : G) → e ≡ Fork i c g → n ≡ length s.promises → new_promise s i c g ≡ q → Became s e n q
  was_taken : (p : Promise G O) → e ≡ TakeProof n → Stands s n p → standing_so p Taken ≡ q → Became s e n q
  was_settled : (p : Promise G O) (o : O) (fault : Bool) → e ≡ Deliver n o fault → Stands s n p → is_cancelled_standing p.standing ≡ false → standing_so p (Settled o) ≡ q → Became s e n q
  was_cancelled : (p other : Promise G O) (m : ℕ) (o : O) (fault : Bool) → e ≡ Deliver m o fault → n ≢ m → Stands s m other → is_cancelled_standing other.standing ≡ false → Stands s n p → is_settled p.standing ≡ false → is_theory_cancelled (after s e).cancelled p.theory ≡ true → standing_so p Cancelled ≡ q → Became s e n q

-- what a promise of the state in which some groups are cancelled was before
pub data Stood {G C O : Type 0} (s : State G C O) (marks : Marks) (n : ℕ) (q : Promise G O) : Type 0 where
  stood_so : Stands s n q → Stood s marks n q
  went : (p : Promise G O) → Stands s n p → is_settled p.standing ≡ false → is_theory_cancelled marks p.theory ≡ true → standing_so p Cancelled ≡ q → Stood s marks n q

both-true : (b c : Bool) → (b && not c) ≡ true → (b ≡ true) × (c ≡ false)
both-true true true e = absurd (cc)
both-true true false e = (refl, refl)
both-true false c e = absurd (cc)

pub cancel-stood : {G C O : Type 0} (s : State G C O) (gs : List Group) (n : ℕ) (q : Promise G O) → Stands (with_cancelled s gs) n q → Stood s (with_cancelled s gs).cancelled n q
cancel-stood s [] n q at = stood_so at
cancel-stood {G} {C} {O} s (g ∷ gs) n q at =
    let old = slice_get-mapped (cancelled_promise _) s.promises n q at in
    by_flag old.0 old.1 (is_theory_cancelled (with_cancelled s (g ∷ gs)).cancelled old.0.theory && not (is_settled old.0.standing)) refl old.2
  where
    by_flag : (p : Promise G O) → Stands s n p → (b : Bool) → (is_theory_cancelled (with_cancelled s (g ∷ gs)).cancelled p.theory && not (is_settled p.standing)) ≡ b → (if b then (record { theory = p.theory; command = p.command; goal = p.goal; standing = Cancelled }) else p) ≡ q → Stood s (with_cancelled s (g ∷ gs)).cancelled n q
    by_flag p here true e is = let both : (is_theory_cancelled (with_cancelled s (g ∷ gs)).cancelled p.theory ≡ true) × (is_settled p.standing ≡ false) = both-true (is_theory_cancelled (with_cancelled s (g ∷ gs)).cancelled p.theory) (is_settled p.standing) e in went p here both.1 both.0 is
    by_flag p here false e is = stood_so (here ∙ ap Some is)

-- the state once an outcome is kept, before the policy cancels
abbrev pub kept_state : {G C O : Type 0} → State G C O → ℕ → O → State G C O
kept_state s m o = record s { promises = with_standing s.promises m (Settled o); kept = s.kept + 1 }

-- each promise of the state after an event became so by the event
pub became : {G C O : Type 0} (s : State G C O) (e : Event G C O) (n : ℕ) (q : Promise G O) → IsThere s e → Stands (after s e) n q → Became s e n q
became s (TakeTheory i) n q there at = stayed at tt
became s (TakeProof m) n q there at = elim (promise-changed s.promises m Taken n q at) [
  | inl here ↦ was_taken here.0 (ap TakeProof (sym here.2)) (ap (slice_get s.promises) here.2 ∙ here.1) here.3
  | inr other ↦ stayed other.0 other.1
]
became s (Fork i c g) n q there at = elim (pushed-at s.promises (new_promise s i c g) n q at) [
  | inl here ↦ was_forked i c g refl here.0 here.1
  | inr other ↦ stayed other tt
]
became s (CloseTheory i c) n q there at = stayed at tt
became {G} {C} {O} s (Deliver m o fault) n q there at = by_flag (is_cancelled_standing old.standing) refl
  where
    old : Promise G O
    old = there.0

    dropped : is_cancelled_promise (slice_get s.promises m) ≡ true → Became s (Deliver m o fault) n q
    dropped e = stayed here (λ is. ap is_cancelled_promise (sym here ∙ ap (slice_get s.promises) is) ∙ e)
      where
        here : Stands s n q
        here = subst (λ b. Stands (delivered_state s m o fault b) n q) e at

    by_stood : Stood (kept_state s m o) (after s (Deliver m o fault)).cancelled n q → is_cancelled_standing old.standing ≡ false → Became s (Deliver m o fault) n q
    by_stood (stood_so mid) lives = elim (promise-changed s.promises m (Settled o) n q mid) [
      | inl here ↦ was_settled here.0 o fault (ap (λ k. Deliver k o fault) (sym here.2)) (ap (slice_get s.promises) here.2 ∙ here.1) (ap (λ p. is_cancelled_standing p.standing) (same_Some here.0 old (sym here.1 ∙ there.1)) ∙ lives) here.3
      | inr other ↦ stayed other.0 (λ e. absurd (other.1 e))
    ]
    by_stood (went p mid unsettled marked is) lives = elim (promise-changed s.promises m (Settled o) n p mid) [
      | inl here ↦ absurd (let so : is_settled p.standing ≡ true = ap (λ x. is_settled x.standing) (sym here.3) in cc)
      | inr other ↦ was_cancelled p old m o fault refl other.1 there.1 lives other.0 unsettled marked is
    ]

    kept_one : is_cancelled_standing old.standing ≡ false → is_cancelled_promise (slice_get s.promises m) ≡ false → Became s (Deliver m o fault) n q
    kept_one lives e = by_stood (subst (λ marks. Stood (kept_state s m o) marks n q) (sym (ap (λ b. (delivered_state s m o fault b).cancelled) e)) (cancel-stood (kept_state s m o) (cancelled_by s.opening.policy (s.kept + 1) fault) n q (subst (λ b. Stands (delivered_state s m o fault b) n q) e at))) lives

    by_flag : (b : Bool) → is_cancelled_standing old.standing ≡ b → Became s (Deliver m o fault) n q
    by_flag true e = dropped (ap is_cancelled_promise there.1 ∙ e)
    by_flag false e = kept_one e (ap is_cancelled_promise there.1 ∙ e)
became s Stop n q there at = stayed at tt

-- the event is of another theory, or of none
abbrev pub LeavesTheory : {G C O : Type 0} → (number : ℕ) → Event G C O → Type 0
LeavesTheory i (TakeTheory j) = i ≢ j
LeavesTheory i (Fork j c g) = i ≢ j
LeavesTheory i (CloseTheory j c) = i ≢ j
LeavesTheory i _ = Unit {0}

-- how a theory of the state after the event came to be so: it had come so far before; or it was taken; or it forked; or it was closed
pub data Came {G C O : Type 0} (s : State G C O) (e : Event G C O) (i : ℕ) (q : Progress C) : Type 0 where
  left_so : theory_at s.theories i ≡ Some q → LeavesTheory i e → Came s e i q
  began : e ≡ TakeTheory i → Running 0 ≡ q → Came s e i q
  went_on : (c : ℕ) (g : G) → e ≡ Fork i c g → forked_once (theory_at s.theories i) ≡ q → Came s e i q
  ended : (c : C) → e ≡ CloseTheory i c → closed_by (theory_at s.theories i) c ≡ q → Came s e i q

-- a delivery leaves the theories, the opening and whether the work was stopped, and loses no promise
pub delivered-keeps : {G C O : Type 0} (s : State G C O) (m : ℕ) (o : O) (fault : Bool) → ((after s (Deliver m o fault)).theories ≡ s.theories) × ((after s (Deliver m o fault)).stopped ≡ s.stopped) × (length (after s (Deliver m o fault)).promises ≡ length s.promises)
delivered-keeps {G} {C} {O} s m o fault = by_flag (is_cancelled_promise (slice_get s.promises m))
  where
    keeps : ((with_cancelled (kept_state s m o) (cancelled_by s.opening.policy (s.kept + 1) fault)).theories ≡ s.theories) × ((with_cancelled (kept_state s m o) (cancelled_by s.opening.policy (s.kept + 1) fault)).history ≡ s.history) × (length (with_cancelled (kept_state s m o) (cancelled_by s.opening.policy (s.kept + 1) fault)).promises ≡ length (with_standing s.promises m (Settled o))) × ((with_cancelled (kept_state s m o) (cancelled_by s.opening.policy (s.kept + 1) fault)).stopped ≡ s.stopped) × ((with_cancelled (kept_state s m o) (cancelled_by s.opening.policy (s.kept + 1) fault)).opening ≡ s.opening)
    keeps = cancel-keeps (kept_state s m o) (cancelled_by s.opening.policy (s.kept + 1) fault)

    by_flag : (b : Bool) → ((delivered_state s m o fault b).theories ≡ s.theories) × ((delivered_state s m o fault b).stopped ≡ s.stopped) × (length (delivered_state s m o fault b).promises ≡ length s.promises)
    by_flag true = (refl, refl, refl)
    by_flag false = (keeps.0, keeps.3, keeps.2 ∙ length-standing s.promises m (Settled o))

length-one_more : {A : Type 0} (xs : List A) (x : A) → length xs ≤ length (xs ++ x ∷ [])
length-one_more [] x = omega arith
length-one_more (y ∷ xs) x = omega (arith, length-one_more xs x)

-- no event takes a promise away
pub promises-grow : {G C O : Type 0} (s : State G C O) (e : Event G C O) → length s.promises ≤ length (after s e).promises
promises-grow s (TakeTheory i) = omega arith
promises-grow s (TakeProof n) = let same = length-standing s.promises n Taken in omega arith
promises-grow s (Fork i c g) = length-one_more s.promises (new_promise s i c g)
promises-grow s (CloseTheory i c) = omega arith
promises-grow s (Deliver n o fault) = let same = (delivered-keeps s n o fault).2 in omega arith
promises-grow s Stop = omega arith

-- a promise that was there is there
pub promise-there_after : {G C O : Type 0} (s : State G C O) (e : Event G C O) (n : ℕ) (p : Promise G O) → Stands s n p → (q : Promise G O) × Stands (after s e) n q
promise-there_after s e n p at = element_there (after s e).promises n (let within = slice_get_within s.promises n p at in let more = promises-grow s e in omega arith)

-- each theory of the state after an event came to be so by the event
pub came : {G C O : Type 0} (s : State G C O) (e : Event G C O) (i : ℕ) (q : Progress C) → theory_at (after s e).theories i ≡ Some q → Came s e i q
came s (TakeTheory j) i q at = elim (theory-changed s.theories j (Running 0) i q at) [
  | inl here ↦ began (ap TakeTheory (sym here.0)) here.1
  | inr other ↦ left_so other.1 other.0
]
came s (TakeProof n) i q at = left_so at tt
came s (Fork j c g) i q at = elim (theory-changed s.theories j (forked_once (theory_at s.theories j)) i q at) [
  | inl here ↦ went_on c g (ap (λ k. Fork k c g) (sym here.0)) (ap (λ k. forked_once (theory_at s.theories k)) here.0 ∙ here.1)
  | inr other ↦ left_so other.1 other.0
]
came s (CloseTheory j c) i q at = elim (theory-changed s.theories j (closed_by (theory_at s.theories j) c) i q at) [
  | inl here ↦ ended c (ap (λ k. CloseTheory k c) (sym here.0)) (ap (λ k. closed_by (theory_at s.theories k) c) here.0 ∙ here.1)
  | inr other ↦ left_so other.1 other.0
]
came s (Deliver n o fault) i q at = left_so (subst (λ ts. theory_at ts i ≡ Some q) (delivered-keeps s n o fault).0 at) tt
came s Stop i q at = left_so at tt

-- there are as many theories as before
pub theories-as_many : {G C O : Type 0} (s : State G C O) (e : Event G C O) → length (after s e).theories ≡ length s.theories
theories-as_many s (TakeTheory j) = length-progress s.theories j (Running 0)
theories-as_many s (TakeProof n) = refl
theories-as_many s (Fork j c g) = length-progress s.theories j (forked_once (theory_at s.theories j))
theories-as_many s (CloseTheory j c) = length-progress s.theories j (closed_by (theory_at s.theories j) c)
theories-as_many s (Deliver n o fault) = ap length (delivered-keeps s n o fault).0
theories-as_many s Stop = refl

theory-there_set : {C : Type 0} (ts : List (Progress C)) (j : ℕ) (p : Progress C) (i : ℕ) (q : Progress C) → theory_at ts i ≡ Some q → (r : Progress C) × (theory_at (with_progress ts j p) i ≡ Some r)
theory-there_set ts zero p i q at = (q, at)
theory-there_set ts (suc j) p zero q at = absurd (none-some q at)
theory-there_set ts (suc j) p (suc i) q at = element_there (set ts j p) i (let within = slice_get_within ts i q at in let same = length-set ts j p in omega arith)

-- a theory that was there is there
pub theory-there_after : {G C O : Type 0} (s : State G C O) (e : Event G C O) (i : ℕ) (q : Progress C) → theory_at s.theories i ≡ Some q → (r : Progress C) × (theory_at (after s e).theories i ≡ Some r)
theory-there_after s (TakeTheory j) i q at = theory-there_set s.theories j (Running 0) i q at
theory-there_after s (TakeProof n) i q at = (q, at)
theory-there_after s (Fork j c g) i q at = theory-there_set s.theories j (forked_once (theory_at s.theories j)) i q at
theory-there_after s (CloseTheory j c) i q at = theory-there_set s.theories j (closed_by (theory_at s.theories j) c) i q at
theory-there_after s (Deliver n o fault) i q at = (q, subst (λ ts. theory_at ts i ≡ Some q) (sym (delivered-keeps s n o fault).0) at)
theory-there_after s Stop i q at = (q, at)
