-- Where no policy cancels, nothing is cancelled.
use Rattle.std.proofs.Common.{◌≡◌, ◌∙◌, ℕ, zero, suc, ◌+◌, List, [], ◌∷◌, ◌++◌, map, refl, sym, ap, subst, Bool, true, false, if◌then◌else◌, slice_get, inl, inr}
use Rattle.std.proofs.lemmas.Option.{none-some}
use Rattle.pure_text.proofs.ListLaws.{each_of, each_at}
use Rattle.pure_machine.specs.Policy.{Opening, Policy, due}
use Rattle.pure_machine.specs.State.{Promise, Ready, Taken, Settled, Cancelled, Event, TakeTheory, TakeProof, Fork, CloseTheory, Deliver, Stop, State, waiting, unmarked, is_true_there, is_theory_cancelled, with_standing, with_cancelled, opened}
use Rattle.pure_machine.specs.Step.{Stands, new_promise, is_cancelled_standing, is_cancelled_promise, cancelled_by, after, after_all}
use Rattle.pure_machine.proofs.FinishLaws.{each_element}
use Rattle.pure_core.specs.Legal.{IsLegal}
use Rattle.pure_core.proofs.PlaceLaws.{promise-changed, pushed-at}
use Rattle.pure_core.proofs.KeptLaws.{delivered_state}
use Rattle.pure_core_end.specs.Promises.{AreInOrder}
use Rattle.pure_core_end.specs.Uncancelled.{no_policy, NoneCancelled}
use Rattle.pure_core_end.proofs.JoinLaws.{in-ordered}

record IsWhole {G C O : Type 0} (s : State G C O) : Type 0 where
  policy : s.opening.policy ≡ no_policy
  marks : (i : ℕ) → is_theory_cancelled s.cancelled i ≡ false
  promises : (n : ℕ) (p : Promise G O) → Stands s n p → is_cancelled_standing p.standing ≡ false

pub unmarked-at : (shape : List (List ℕ)) (i : ℕ) → is_theory_cancelled (unmarked shape) i ≡ false
unmarked-at shape zero = refl
unmarked-at shape (suc i) = none shape i
  where
    none : (xs : List (List ℕ)) (k : ℕ) → is_true_there (slice_get (map (λ _. false) xs) k) ≡ false
    none [] k = refl
    none (x ∷ xs) zero = refl
    none (x ∷ xs) (suc k) = none xs k

whole-opened : {G C O : Type 0} (o : Opening) → o.policy ≡ no_policy → IsWhole {G = G} {C = C} {O = O} (opened o)
whole-opened {G} {C} {O} o none = subst IsWhole (sym same) (record { policy = none; marks = unmarked-at o.shape; promises = λ n p e. absurd (none-some p e) })
  where
    begun : State G C O
    begun = record { opening = o; theories = waiting o.shape; promises = []; cancelled = unmarked o.shape; kept = 0; stopped = false; history = [] }

    same : opened o ≡ begun
    same = ap (λ (p : Policy). with_cancelled begun (due p.cancels 0)) none

ready-new : (O : Type 0) (b : Bool) → b ≡ false → is_cancelled_standing {O = O} (if b then Cancelled else Ready) ≡ false
ready-new O b e = ap (λ x. is_cancelled_standing {O = O} (if x then Cancelled else Ready)) e

whole-settled : {G C O : Type 0} (s : State G C O) (n : ℕ) (o : O) (fault : Bool) → IsWhole s → IsWhole (delivered_state s n o fault false)
whole-settled {G} {C} {O} s n o fault h = subst (λ (t : State G C O). IsWhole (record t { history = s.history ++ Deliver n o fault ∷ [] })) (sym same) (record {
  policy = h.policy;
  marks = h.marks;
  promises = λ m q e. elim (promise-changed s.promises n (Settled o) m q e) [
    | inl here ↦ sym (ap (λ x. is_cancelled_standing x.standing) here.3)
    | inr there ↦ h.promises m q there.0
  ];
})
  where
    between : State G C O
    between = record s { promises = with_standing s.promises n (Settled o); kept = s.kept + 1 }

    same : with_cancelled between (cancelled_by s.opening.policy (s.kept + 1) fault) ≡ between
    same = ap (λ (p : Policy). with_cancelled between (cancelled_by p (s.kept + 1) fault)) h.policy

whole-after : {G C O : Type 0} (s : State G C O) (e : Event G C O) → IsWhole s → IsWhole (after s e)
whole-after s (TakeTheory i) h = record { policy = h.policy; marks = h.marks; promises = h.promises }
whole-after s (TakeProof n) h = record {
  policy = h.policy;
  marks = h.marks;
  promises = λ m q e. elim (promise-changed s.promises n Taken m q e) [
    | inl here ↦ sym (ap (λ x. is_cancelled_standing x.standing) here.3)
    | inr there ↦ h.promises m q there.0
  ];
}
whole-after {G} {C} {O} s (Fork i c g) h = record {
  policy = h.policy;
  marks = h.marks;
  promises = λ m q e. elim (pushed-at s.promises (new_promise s i c g) m q e) [
    | inl here ↦ sym (ap (λ x. is_cancelled_standing x.standing) here.1) ∙ ready-new O (is_theory_cancelled s.cancelled i) (h.marks i)
    | inr there ↦ h.promises m q there
  ];
}
whole-after s (CloseTheory i c) h = record { policy = h.policy; marks = h.marks; promises = h.promises }
whole-after {G} {C} {O} s (Deliver n o fault) h = by_flag (is_cancelled_promise (slice_get s.promises n))
  where
    by_flag : (b : Bool) → IsWhole (delivered_state s n o fault b)
    by_flag true = record { policy = h.policy; marks = h.marks; promises = h.promises }
    by_flag false = whole-settled s n o fault h
whole-after s Stop h = record { policy = h.policy; marks = h.marks; promises = h.promises }

whole-after_all : {G C O : Type 0} (s : State G C O) (es : List (Event G C O)) → IsWhole s → IsWhole (after_all s es)
whole-after_all s [] h = h
whole-after_all s (e ∷ es) h = whole-after_all (after s e) es (whole-after s e h)

pub nothing-cancelled : {G C O : Type 0} (shape : List (List ℕ)) (forks : ℕ → ℕ → ℕ → G → Type 0) (closes : ℕ → ℕ → C → Type 0) (may : G → O → Type 0) (is_fault : O → Bool) (s : State G C O) → IsLegal shape forks closes may is_fault s → s.opening.policy ≡ no_policy → NoneCancelled s.promises
nothing-cancelled {G} {C} {O} shape forks closes may is_fault s legal none =
    let whole : IsWhole s = subst IsWhole (sym legal.state) (whole-after_all (opened s.opening) s.history (whole-opened s.opening none)) in
    each_element (λ p. is_cancelled_standing p.standing ≡ false) s.promises whole.promises

-- the same of them in load order
pub none-ordered : {G O : Type 0} (promises ordered : List (Promise G O)) → AreInOrder promises ordered → NoneCancelled promises → NoneCancelled ordered
none-ordered {G} {O} promises ordered in_order none = each_of (λ (p : Promise G O). is_cancelled_standing p.standing ≡ false) ordered (λ p at. each_at (λ (q : Promise G O). is_cancelled_standing q.standing ≡ false) promises none p (in-ordered promises ordered in_order p at))
