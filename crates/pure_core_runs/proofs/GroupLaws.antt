-- Promises of cancelled groups are settled or cancelled, in each state of each legal run; and so is one of which an outcome was delivered.
use Rattle.std.proofs.Common.{◌≡◌, ◌∙◌, ℕ, zero, suc, ◌+◌, List, [], ◌∷◌, map, refl, sym, ap, subst, Bool, true, false, not, ◌&&◌, if◌then◌else◌, Some, slice_get, inl, inr, ◌⊎◌}
use Rattle.std.proofs.lemmas.Option.{same_Some, none-some}
use Rattle.pure_machine.specs.declared.policy.Group.{Group}
use Rattle.pure_machine.specs.Policy.{Opening, due}
use Rattle.pure_machine.specs.State.{Promise, Standing, Ready, Taken, Settled, Cancelled, Event, TakeTheory, TakeProof, Fork, CloseTheory, Deliver, Stop, Marks, State, waiting, unmarked, with_standing, is_theory_cancelled, is_settled, cancelled_promise, with_cancelled, all_marked, opened}
use Rattle.pure_machine.specs.Step.{Stands, IsOver, new_promise, is_cancelled_promise, is_cancelled_standing, cancelled_by, after, after_all, Allows, IsRunFrom}
use Rattle.pure_machine.proofs.PromiseLaws.{slice_get-mapped}
use Rattle.pure_core.proofs.PlaceLaws.{promise-changed, promise-there, pushed-at, standing_so}
use Rattle.pure_core.proofs.KeptLaws.{delivered_state}

-- the promises of cancelled groups are over
pub record AreGone {G C O : Type 0} (s : State G C O) : Type 0 where
  pub gone : (n : ℕ) (p : Promise G O) → Stands s n p → is_theory_cancelled s.cancelled p.theory ≡ true → IsOver p.standing

mapped-at : {A B : Type 0} (f : A → B) (xs : List A) (n : ℕ) (x : A) → slice_get xs n ≡ Some x → slice_get (map f xs) n ≡ Some (f x)
mapped-at f [] n x e = absurd (none-some x e)
mapped-at f (y ∷ xs) zero x e = ap (λ z. Some (f z)) (same_Some y x e)
mapped-at f (y ∷ xs) (suc n) x e = mapped-at f xs n x e

abbrev IsYes : Bool → Type 0
IsYes true = Unit {0}
IsYes false = ⊥

true-false : true ≡ false → ⊥
true-false e = subst IsYes e tt

-- a promise whose group is cancelled, once that was done
abbrev put_by : {G O : Type 0} → (b : Bool) → Promise G O → Promise G O
put_by b p = if b then record { theory = p.theory; command = p.command; goal = p.goal; standing = Cancelled } else p

theory-put : {G O : Type 0} (b : Bool) (p : Promise G O) → (put_by b p).theory ≡ p.theory
theory-put true p = refl
theory-put false p = refl

over-put : {G O : Type 0} (b : Bool) (p : Promise G O) → IsOver p.standing → IsOver (put_by b p).standing
over-put true p h = tt
over-put false p h = h

over-marked : {G O : Type 0} (s : Standing O) (i c : ℕ) (g : G) → IsOver (put_by (true && not (is_settled s)) (record { theory = i; command = c; goal = g; standing = s })).standing
over-marked Ready i c g = tt
over-marked Taken i c g = tt
over-marked (Settled o) i c g = tt
over-marked Cancelled i c g = tt

over-cancelled : {G O : Type 0} (m : Marks) (p : Promise G O) → is_theory_cancelled m (cancelled_promise m p).theory ≡ true → IsOver (cancelled_promise m p).standing
over-cancelled m p e =
    let marked : is_theory_cancelled m p.theory ≡ true = ap (is_theory_cancelled m) (sym (theory-put (is_theory_cancelled m p.theory && not (is_settled p.standing)) p)) ∙ e in
    subst (λ b. IsOver (put_by (b && not (is_settled p.standing)) p).standing) (sym marked) (over-marked p.standing p.theory p.command p.goal)

gone-marked : {G C O : Type 0} (s : State G C O) (m : Marks) (n : ℕ) (q : Promise G O) → slice_get (map (cancelled_promise m) s.promises) n ≡ Some q → is_theory_cancelled m q.theory ≡ true → IsOver q.standing
gone-marked s m n q at e =
    let old = slice_get-mapped (cancelled_promise m) s.promises n q at in
    subst (λ x. IsOver x.standing) old.2 (over-cancelled m old.0 (ap (λ x. is_theory_cancelled m x.theory) old.2 ∙ e))

gone-cancel : {G C O : Type 0} (s : State G C O) (gs : List Group) → AreGone s → AreGone (with_cancelled s gs)
gone-cancel s [] h = h
gone-cancel s (g ∷ gs) h = record { gone = gone-marked s (all_marked s.cancelled (g ∷ gs)) }

pub gone-opened : {G C O : Type 0} (o : Opening) → AreGone (opened {G = G} {C = C} {O = O} o)
gone-opened {G = G} {C = C} {O = O} o = gone-cancel {G = G} {C = C} {O = O} (record { opening = o; theories = waiting o.shape; promises = []; cancelled = unmarked o.shape; kept = 0; stopped = false; history = [] }) (due o.policy.cancels 0) (record { gone = λ n p at. absurd (none-some p at) })

-- after each event
gone-take : {G C O : Type 0} (s : State G C O) (n : ℕ) (p : Promise G O) → Stands s n p → p.standing ≡ Ready → AreGone s → AreGone (after s (TakeProof n))
gone-take s n p at ready h = record {
  gone = λ m q there e. elim (promise-changed s.promises n Taken m q there) [
    | inl here ↦ absurd (subst IsOver ready (h.gone n p at (ap (λ x. is_theory_cancelled s.cancelled x.theory) (same_Some p here.0 (sym at ∙ here.1)) ∙ ap (λ x. is_theory_cancelled s.cancelled x.theory) here.3 ∙ e)))
    | inr other ↦ h.gone m q other.0 e
  ];
}

over-new : (O : Type 0) (b : Bool) → b ≡ true → IsOver {O = O} (if b then Cancelled else Ready)
over-new O true e = tt
over-new O false e = absurd (true-false (sym e))

gone-fork : {G C O : Type 0} (s : State G C O) (i c : ℕ) (g : G) → AreGone s → AreGone (after s (Fork i c g))
gone-fork {G} {C} {O} s i c g h = record {
  gone = λ m q there e. elim (pushed-at s.promises (new_promise s i c g) m q there) [
    | inl here ↦ subst (λ x. IsOver x.standing) here.1 (over-new O (is_theory_cancelled s.cancelled i) (ap (λ x. is_theory_cancelled s.cancelled x.theory) here.1 ∙ e))
    | inr old ↦ h.gone m q old e
  ];
}

gone-settled : {G C O : Type 0} (s : State G C O) (n : ℕ) (o : O) (k : ℕ) → AreGone s → AreGone (record s { promises = with_standing s.promises n (Settled o); kept = k })
gone-settled s n o k h = record {
  gone = λ m q there e. elim (promise-changed s.promises n (Settled o) m q there) [
    | inl here ↦ subst (λ x. IsOver x.standing) here.3 tt
    | inr other ↦ h.gone m q other.0 e
  ];
}

gone-deliver : {G C O : Type 0} (s : State G C O) (n : ℕ) (o : O) (fault : Bool) → AreGone s → AreGone (after s (Deliver n o fault))
gone-deliver {G} {C} {O} s n o fault h = by_flag (is_cancelled_promise (slice_get s.promises n))
  where
    settled_too : AreGone (with_cancelled (record s { promises = with_standing s.promises n (Settled o); kept = s.kept + 1 }) (cancelled_by s.opening.policy (s.kept + 1) fault))
    settled_too = gone-cancel (record s { promises = with_standing s.promises n (Settled o); kept = s.kept + 1 }) (cancelled_by s.opening.policy (s.kept + 1) fault) (gone-settled s n o (s.kept + 1) h)

    by_flag : (b : Bool) → AreGone (delivered_state s n o fault b)
    by_flag true = record { gone = h.gone }
    by_flag false = record { gone = settled_too.gone }

pub gone-after : {G C O : Type 0} (forks : ℕ → ℕ → ℕ → G → Type 0) (closes : ℕ → ℕ → C → Type 0) (may : G → O → Type 0) (is_fault : O → Bool) (s : State G C O) (e : Event G C O) → Allows forks closes may is_fault s e → AreGone s → AreGone (after s e)
gone-after forks closes may is_fault s (TakeTheory i) a h = record { gone = h.gone }
gone-after forks closes may is_fault s (TakeProof n) a h = gone-take s n a.2.0 a.2.1.0 a.2.1.1 h
gone-after forks closes may is_fault s (Fork i c g) a h = gone-fork s i c g h
gone-after forks closes may is_fault s (CloseTheory i c) a h = record { gone = h.gone }
gone-after forks closes may is_fault s (Deliver n o fault) a h = gone-deliver s n o fault h
gone-after forks closes may is_fault s Stop a h = record { gone = h.gone }

pub gone-after_all : {G C O : Type 0} (forks : ℕ → ℕ → ℕ → G → Type 0) (closes : ℕ → ℕ → C → Type 0) (may : G → O → Type 0) (is_fault : O → Bool) (s : State G C O) (es : List (Event G C O)) → IsRunFrom forks closes may is_fault s es → AreGone s → AreGone (after_all s es)
gone-after_all forks closes may is_fault s [] run h = h
gone-after_all forks closes may is_fault s (e ∷ es) run h = gone-after_all forks closes may is_fault (after s e) es run.1 (gone-after forks closes may is_fault s e run.0 h)

-- a promise of which an outcome is delivered is over then
over-cancel : {G C O : Type 0} (s : State G C O) (gs : List Group) (n : ℕ) (p : Promise G O) → Stands s n p → IsOver p.standing → (q : Promise G O) × Stands (with_cancelled s gs) n q × IsOver q.standing
over-cancel s [] n p at h = (p, at, h)
over-cancel s (g ∷ gs) n p at h =
    let m = all_marked s.cancelled (g ∷ gs) in
    (cancelled_promise m p, mapped-at (cancelled_promise m) s.promises n p at, over-put (is_theory_cancelled m p.theory && not (is_settled p.standing)) p h)

pub over-delivered : {G C O : Type 0} (s : State G C O) (n : ℕ) (o : O) (fault : Bool) (p : Promise G O) → Stands s n p → (p.standing ≡ Taken) ⊎ (p.standing ≡ Cancelled) → (q : Promise G O) × Stands (after s (Deliver n o fault)) n q × IsOver q.standing
over-delivered {G} {C} {O} s n o fault p at how = elim how [
  | inl taken ↦ subst Ends (sym (ap is_cancelled_promise at ∙ ap is_cancelled_standing taken)) (over-cancel between (cancelled_by s.opening.policy (s.kept + 1) fault) n (standing_so p (Settled o)) (promise-there s.promises n (Settled o) p at) tt)
  | inr gone ↦ subst Ends (sym (ap is_cancelled_promise at ∙ ap is_cancelled_standing gone)) (p, at, subst IsOver (sym gone) tt)
]
  where
    between : State G C O
    between = record s { promises = with_standing s.promises n (Settled o); kept = s.kept + 1 }

    Ends : Bool → Type 0
    Ends b = (q : Promise G O) × Stands (delivered_state s n o fault b) n q × IsOver q.standing
