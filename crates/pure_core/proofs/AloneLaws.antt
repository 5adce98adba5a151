-- What runs after an event, where one theory, one proof or nothing ran.
use Rattle.std.proofs.Common.{◌≡◌, ◌≢◌, ◌∙◌, ℕ, ◌+◌, List, [], ◌∷◌, map, refl, sym, ap, subst, Bool, true, false, if◌then◌else◌, Option, Some, None, slice_get, inl, inr}
use Rattle.std.proofs.lemmas.Option.{same_Some, none-some}
use Rattle.pure_text.specs.Lists.{EachTwo}
use Rattle.pure_text.proofs.ListLaws.{in_split, in-append_right}
use Rattle.pure_machine.specs.declared.policy.Group.{Group}
use Rattle.pure_machine.specs.State.{Progress, Waiting, Running, Closed, Promise, Standing, Ready, Taken, Settled, Cancelled, Event, TakeTheory, TakeProof, Fork, CloseTheory, Deliver, State, theory_at, parents_at, with_standing, is_theory_cancelled}
use Rattle.pure_machine.specs.Step.{IsReady, IsNextPromise, forked_once, closed_by, closed_value, closed_values, joined_values, new_promise, is_cancelled_promise, is_cancelled_standing, cancelled_by, after}
use Rattle.pure_core.specs.Legal.{IsAtRest, IsTheoryAlone, IsProofAlone}
use Rattle.pure_core.proofs.PlaceLaws.{theory-changed, theory-there, promise-changed, promise-there, pushed-at, standing_so}
use Rattle.pure_core.proofs.KeptLaws.{delivered_state, IsKept, before-cancel, cancel-keeps}

abbrev RunsNow : {C : Type 0} → Progress C → Type 0
RunsNow (Running k) = Unit {0}
RunsNow _ = ⊥

not_running : {C : Type 0} (q : Progress C) (k : ℕ) → q ≡ Running k → ¬ RunsNow q → ⊥
not_running q k e other = other (subst RunsNow (sym e) tt)

abbrev TakenNow : {O : Type 0} → Standing O → Type 0
TakenNow Taken = Unit {0}
TakenNow _ = ⊥

not_taken : {O : Type 0} (s : Standing O) → s ≡ Taken → ¬ TakenNow s → ⊥
not_taken s e other = other (subst TakenNow (sym e) tt)

-- a theory is taken where nothing ran
pub theory-taken : {G C O : Type 0} (s : State G C O) (i : ℕ) (cs : List C) → IsAtRest s → IsReady s i cs → IsTheoryAlone (after s (TakeTheory i)) i 0
theory-taken s i cs rest ready = record {
  goes_on = rest.goes_on;
  runs = theory-there s.theories i (Running 0) Waiting ready.waits;
  theories = λ j k e. elim (theory-changed s.theories i (Running 0) j (Running k) e) [ inl here ↦ here.0 | inr there ↦ absurd (rest.theories j k there.1) ];
  promises = rest.promises;
}

not_taken_new : {O : Type 0} (b : Bool) → ◌≢◌ {A = Standing O} (if b then Cancelled else Ready) Taken
not_taken_new true e = not_taken Cancelled e (λ x. x)
not_taken_new false e = not_taken Ready e (λ x. x)

-- the theory forks
pub theory-forks : {G C O : Type 0} (s : State G C O) (i k c : ℕ) (g : G) → IsTheoryAlone s i k → IsTheoryAlone (after s (Fork i c g)) i (k + 1)
theory-forks {G} {C} {O} s i k c g alone = record {
  goes_on = alone.goes_on;
  runs = theory-there s.theories i (forked_once (theory_at s.theories i)) (Running k) alone.runs ∙ ap Some (ap forked_once alone.runs);
  theories = λ j l e. elim (theory-changed s.theories i (forked_once (theory_at s.theories i)) j (Running l) e) [ inl here ↦ here.0 | inr there ↦ alone.theories j l there.1 ];
  promises = λ n p at taken. elim (pushed-at s.promises (new_promise s i c g) n p at) [
    | inl here ↦ not_taken_new (is_theory_cancelled s.cancelled i) (ap (λ x. x.standing) here.1 ∙ taken)
    | inr there ↦ alone.promises n p there taken
  ];
}

-- the theory is closed
pub theory-closes : {G C O : Type 0} (s : State G C O) (i k : ℕ) (c : C) → IsTheoryAlone s i k → IsAtRest (after s (CloseTheory i c))
theory-closes s i k c alone = record {
  goes_on = alone.goes_on;
  theories = λ j l e. elim (theory-changed s.theories i (closed_by (theory_at s.theories i) c) j (Running l) e) [
    | inl here ↦ not_running (Closed k c) l (sym (ap (λ o. closed_by o c) alone.runs) ∙ here.1) (λ x. x)
    | inr there ↦ there.0 (alone.theories j l there.1)
  ];
  promises = alone.promises;
}

abbrev IsDelivery : {G C O : Type 0} → Event G C O → Type 0
IsDelivery (Deliver n o fault) = Unit {0}
IsDelivery _ = ⊥

-- a proof is taken where nothing ran
pub proof-taken : {G C O : Type 0} (forks : ℕ → ℕ → ℕ → G → Type 0) (closes : ℕ → ℕ → C → Type 0) (s : State G C O) (n : ℕ) (p : Promise G O) → IsKept forks closes s → IsAtRest s → IsNextPromise s n p → IsProofAlone (after s (TakeProof n)) n p.goal
proof-taken {G} {C} {O} forks closes s n p kept rest next = record {
  goes_on = rest.goes_on;
  promise = standing_so p Taken;
  stands = promise-there s.promises n Taken p next.0;
  is_goal = refl;
  out = record {
    taken = in-append_right (TakeProof n) s.history (TakeProof n ∷ []) (inl refl);
    open_still = λ o fault delivered. elim (in_split (Deliver n o fault) s.history (TakeProof n ∷ []) delivered) [
      | inl old ↦ kept.fresh n p next.0 next.1 (o, fault, old)
      | inr here ↦ elim here [ inl same ↦ subst IsDelivery same tt | inr none ↦ none ]
    ];
  };
  taken = refl;
  theories = rest.theories;
  promises = λ m q at taken. elim (promise-changed s.promises n Taken m q at) [ inl here ↦ here.2 | inr there ↦ absurd (rest.promises m q there.0 taken) ];
}

-- its outcome is delivered
pub proof-delivered : {G C O : Type 0} (s : State G C O) (n : ℕ) (g : G) (o : O) (fault : Bool) → IsProofAlone s n g → IsAtRest (after s (Deliver n o fault))
proof-delivered {G} {C} {O} s n g o fault alone = subst (λ b. IsAtRest (delivered_state s n o fault b)) (sym not_cancelled) at_rest
  where
    not_cancelled : is_cancelled_promise (slice_get s.promises n) ≡ false
    not_cancelled = ap is_cancelled_promise alone.stands ∙ ap is_cancelled_standing alone.taken

    groups : List Group
    groups = cancelled_by s.opening.policy (s.kept + 1) fault

    between : State G C O
    between = record s { promises = with_standing s.promises n (Settled o); kept = s.kept + 1 }

    at_rest : IsAtRest (delivered_state s n o fault false)
    at_rest = record {
      goes_on = (cancel-keeps between groups).3 ∙ alone.goes_on;
      theories = λ i k e. alone.theories i k (subst (λ ts. theory_at ts i ≡ Some (Running k)) (cancel-keeps between groups).0 e);
      promises = λ m q at taken. (let mid = before-cancel between groups m q at in
          elim (promise-changed s.promises n (Settled o) m mid.0 mid.1) [
            | inl here ↦ not_taken (Settled o) (ap (λ x. x.standing) here.3 ∙ mid.4 taken) (λ x. x)
            | inr there ↦ there.1 (alone.promises m mid.0 there.0 (mid.4 taken))
          ]);
    }

-- the values of closed parents are such as may close them
joined-parts : {C : Type 0} (a : Option C) (b : Option (List C)) (cs : List C) → joined_values a b ≡ Some cs → (c : C) × (ds : List C) × (a ≡ Some c) × (b ≡ Some ds) × (c ∷ ds ≡ cs)
joined-parts None b cs e = absurd (none-some cs e)
joined-parts (Some a) None cs e = absurd (none-some cs e)
joined-parts (Some a) (Some ds) cs e = (a, ds, refl, refl, same_Some (a ∷ ds) cs e)

closed-from : {C : Type 0} (o : Option (Progress C)) (c : C) → closed_value o ≡ Some c → (k : ℕ) × (o ≡ Some (Closed k c))
closed-from None c e = absurd (none-some c e)
closed-from (Some Waiting) c e = absurd (none-some c e)
closed-from (Some (Running k)) c e = absurd (none-some c e)
closed-from (Some (Closed k d)) c e = (k, ap (λ x. Some (Closed k x)) (same_Some d c e))

values-may : {C : Type 0} (closes : ℕ → ℕ → C → Type 0) (ts : List (Progress C)) → ((i k : ℕ) (c : C) → theory_at ts i ≡ Some (Closed k c) → closes i k c) → (numbers : List ℕ) (cs : List C) → closed_values ts numbers ≡ Some cs → EachTwo (λ i c. (n : ℕ) × closes i n c) numbers cs
values-may closes ts may [] cs e = subst (EachTwo (λ i c. (n : ℕ) × closes i n c) []) (same_Some [] cs e) tt
values-may closes ts may (i ∷ is) cs e =
    let parts = joined-parts (closed_value (theory_at ts i)) (closed_values ts is) cs e in
    let here = closed-from (theory_at ts i) parts.0 parts.2 in
    subst (EachTwo (λ i c. (n : ℕ) × closes i n c) (i ∷ is)) parts.4 ((here.0, may i here.0 parts.0 here.1), values-may closes ts may is parts.1 parts.3)

each_two-mapped : {A B C : Type 0} (R : A → C → Type 0) (f : B → C) (xs : List A) (ys : List B) → EachTwo R xs (map f ys) → EachTwo (λ a b. R a (f b)) xs ys
each_two-mapped R f [] [] h = tt
each_two-mapped R f [] (b ∷ ys) h = absurd h
each_two-mapped R f (a ∷ xs) [] h = absurd h
each_two-mapped R f (a ∷ xs) (b ∷ ys) h = (h.0, each_two-mapped R f xs ys h.1)

pub parents-may : {G C O A : Type 0} (forks : ℕ → ℕ → ℕ → G → Type 0) (closes : ℕ → ℕ → C → Type 0) (s : State G C O) (i : ℕ) (shape : List (List ℕ)) (f : A → C) (parents : List A) → IsKept forks closes s → s.opening.shape ≡ shape → IsReady s i (map f parents)
    → (numbers : List ℕ) × (parents_at shape i ≡ Some numbers) × EachTwo (λ i c. (n : ℕ) × closes i n (f c)) numbers parents
parents-may forks closes s i shape f parents kept shaped ready =
    (ready.numbers, subst (λ x. parents_at x i ≡ Some ready.numbers) shaped ready.parents_are, each_two-mapped (λ i c. (n : ℕ) × closes i n c) f ready.numbers parents (values-may closes s.theories kept.closed ready.numbers (map f parents) ready.closed))
