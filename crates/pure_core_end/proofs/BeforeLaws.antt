-- Promises of a theory's ancestors, and its own earlier ones, have smaller numbers.
use Rattle.std.proofs.Common.{◌≡◌, ◌∙◌, ◌⊎◌, ◌<◌, ◌≤◌, ℕ, zero, suc, ◌+◌, List, [], ◌∷◌, ◌++◌, length, take, cond, nat_eq, refl, sym, ap, subst, arith, Bool, true, false, Option, Some, None, slice_get, inl, inr}
use Rattle.std.proofs.lemmas.Option.{same_Some, none-some, slice_get_within}
use Rattle.std.proofs.lemmas.Bool.{cases_lt}
use Rattle.pure_text.specs.Lists.{IsIn}
use Rattle.pure_machine.specs.Policy.{Opening, due}
use Rattle.pure_machine.specs.State.{Progress, Waiting, Running, Closed, Promise, Settled, Taken, Event, TakeTheory, TakeProof, Fork, CloseTheory, Deliver, Stop, State, theory_at, parents_at, waiting, unmarked, with_progress, with_standing, opened}
use Rattle.pure_machine.specs.Step.{IsReady, forked_once, closed_by, closed_value, closed_values, joined_values, new_promise, is_cancelled_promise, cancelled_by, after, after_all, Allows, IsRunFrom}
use Rattle.pure_core.specs.Legal.{IsLegal}
use Rattle.pure_core.proofs.PlaceLaws.{theory-changed, theory-there, pushed-at}
use Rattle.pure_core.proofs.KeptLaws.{cancel-keeps, waiting-at, delivered_state}
use Rattle.pure_core.proofs.RunLaws.{opening-after_all, kept-legal}
use Rattle.pure_core_end.specs.Promises.{promises_of}
use Rattle.pure_core_end.specs.Places.{IsPlaced, IsAncestor, parent, above, HaveSmallerNumbers, AreForked}
use Rattle.pure_core_end.proofs.OriginLaws.{origin, origins, same_or_not, length-goals_at, goal-at, origin-at, origins-push, origins-standing, origins-cancel}
use Rattle.pure_core_end.proofs.TheoryLaws.{theory-elsewhere}
use Rattle.pure_core_end.proofs.ToldLaws.{told-legal}

-- the theory runs or is closed
abbrev HasBegun : {C : Type 0} → Progress C → Type 0
HasBegun Waiting = ⊥
HasBegun _ = Unit {0}

abbrev IsClosedThere : {C : Type 0} → List (Progress C) → ℕ → Type 0
IsClosedThere {C} ts j = (k : ℕ) × (c : C) × (theory_at ts j ≡ Some (Closed k c))

abbrev HasBegunThere : {C : Type 0} → List (Progress C) → ℕ → Type 0
HasBegunThere {C} ts j = (q : Progress C) × (theory_at ts j ≡ Some q) × HasBegun q

-- the parents of theories that have begun are closed; promises are of such theories; and those of ancestors have smaller numbers
record IsGoverned {G C O : Type 0} (shape : List (List ℕ)) (s : State G C O) : Type 0 where
  begun : (i : ℕ) (parents : List ℕ) → HasBegunThere s.theories i → parents_at shape i ≡ Some parents → (j : ℕ) → IsIn j parents → IsClosedThere s.theories j
  theirs : (n : ℕ) (x : ℕ × (ℕ × G)) → slice_get (origins s.promises) n ≡ Some x → HasBegunThere s.theories x.0
  before : (m n : ℕ) (x y : ℕ × (ℕ × G)) → slice_get (origins s.promises) m ≡ Some x → slice_get (origins s.promises) n ≡ Some y → IsAncestor shape x.0 y.0 → m < n

begun-so : {C : Type 0} (p q : Progress C) → p ≡ q → HasBegun p → HasBegun q
begun-so p q e h = subst HasBegun e h

begun-closed : {C : Type 0} (ts : List (Progress C)) (j : ℕ) → IsClosedThere ts j → HasBegunThere ts j
begun-closed ts j h = (Closed h.0 h.1, h.2, tt)

-- all ancestors of a theory that has begun are closed
ancestor-closed : {C : Type 0} (shape : List (List ℕ)) (ts : List (Progress C)) → ((i : ℕ) (parents : List ℕ) → HasBegunThere ts i → parents_at shape i ≡ Some parents → (j : ℕ) → IsIn j parents → IsClosedThere ts j)
    → (j i : ℕ) → IsAncestor shape j i → HasBegunThere ts i → IsClosedThere ts j
ancestor-closed shape ts closed j i (parent {parents = ps} at among) h = closed i ps h at j among
ancestor-closed shape ts closed j i (above {between = k} {parents = ps} at among further) h = ancestor-closed shape ts closed j k further (begun-closed ts k (closed i ps h at k among))

-- standings of a theory that differ
abbrev IsClosedNow : {C : Type 0} → Progress C → Type 0
IsClosedNow (Closed k c) = Unit {0}
IsClosedNow _ = ⊥

not-closed : {C : Type 0} (q : Progress C) (o : Option (Progress C)) → o ≡ Some q → (¬ IsClosedNow q) → (k : ℕ) (c : C) → o ≡ Some (Closed k c) → ⊥
not-closed q o e other k c f = other (subst IsClosedNow (same_Some (Closed k c) q (sym f ∙ e)) tt)

-- a theory that isn't closed goes on, and those that are closed stay so
closed-stays : {C : Type 0} (ts : List (Progress C)) (i : ℕ) (p q : Progress C) → theory_at ts i ≡ Some q → (¬ IsClosedNow q) → (j : ℕ) → IsClosedThere ts j → IsClosedThere (with_progress ts i p) j
closed-stays ts i p q at other j h = elim (same_or_not j i) [
  | inl same ↦ absurd (not-closed q (theory_at ts i) at other h.0 h.1 (ap (theory_at ts) (sym same.1) ∙ h.2))
  | inr apart ↦ (h.0, h.1, theory-elsewhere ts i p j (Closed h.0 h.1) apart.1 h.2)
]

begun-stays : {C : Type 0} (ts : List (Progress C)) (i : ℕ) (p q : Progress C) → theory_at ts i ≡ Some q → HasBegun p → (j : ℕ) → HasBegunThere ts j → HasBegunThere (with_progress ts i p) j
begun-stays ts i p q at begun j h = elim (same_or_not j i) [
  | inl same ↦ (p, subst (λ k. theory_at (with_progress ts i p) k ≡ Some p) (sym same.1) (theory-there ts i p q at), begun)
  | inr apart ↦ (h.0, theory-elsewhere ts i p j h.0 apart.1 h.1, h.2)
]

-- the values of closed theories
joined-some : {C : Type 0} (a : Option C) (b : Option (List C)) (cs : List C) → joined_values a b ≡ Some cs → ((c : C) × (a ≡ Some c)) × ((ds : List C) × (b ≡ Some ds))
joined-some None b cs e = absurd (none-some cs e)
joined-some (Some a) None cs e = absurd (none-some cs e)
joined-some (Some a) (Some ds) cs e = ((a, refl), (ds, refl))

closed-from : {C : Type 0} (o : Option (Progress C)) (c : C) → closed_value o ≡ Some c → (k : ℕ) × (d : C) × (o ≡ Some (Closed k d))
closed-from None c e = absurd (none-some c e)
closed-from (Some Waiting) c e = absurd (none-some c e)
closed-from (Some (Running k)) c e = absurd (none-some c e)
closed-from (Some (Closed k d)) c e = (k, d, refl)

all-closed : {C : Type 0} (ts : List (Progress C)) (numbers : List ℕ) (cs : List C) → closed_values ts numbers ≡ Some cs → (j : ℕ) → IsIn j numbers → IsClosedThere ts j
all-closed ts [] cs e j among = absurd among
all-closed ts (i ∷ is) cs e j (inl same) = let parts = joined-some (closed_value (theory_at ts i)) (closed_values ts is) cs e in subst (IsClosedThere ts) (sym same) (closed-from (theory_at ts i) parts.0.0 parts.0.1)
all-closed ts (i ∷ is) cs e j (inr there) = let parts = joined-some (closed_value (theory_at ts i)) (closed_values ts is) cs e in all-closed ts is parts.1.0 parts.1.1 j there

-- at the opening
governed-opened : {G C O : Type 0} (shape : List (List ℕ)) (o : Opening) → IsGoverned {G = G} {C = C} {O = O} shape (opened o)
governed-opened {G} {C} {O} shape o = record {
  begun = λ i parents h at j among. absurd (begun-so h.0 Waiting (waiting-at o.shape i h.0 (subst (λ ts. theory_at ts i ≡ Some h.0) (cancel-keeps started (due o.policy.cancels 0)).0 h.1)) h.2);
  theirs = λ n x e. absurd (none n x e);
  before = λ m n x y e f older. absurd (none m x e);
}
  where
    started : State G C O
    started = record { opening = o; theories = waiting o.shape; promises = []; cancelled = unmarked o.shape; kept = 0; stopped = false; history = [] }

    none : (n : ℕ) (x : ℕ × (ℕ × G)) → slice_get (origins (opened {G = G} {C = C} {O = O} o).promises) n ≡ Some x → ⊥
    none n x e = none-some x (subst (λ xs. slice_get xs n ≡ Some x) (origins-cancel started (due o.policy.cancels 0)) e)

-- after a theory is taken
governed-take : {G C O : Type 0} (shape : List (List ℕ)) (s : State G C O) (i : ℕ) (cs : List C) → s.opening.shape ≡ shape → IsReady s i cs → IsGoverned shape s → IsGoverned shape (after s (TakeTheory i))
governed-take {G} {C} {O} shape s i cs shaped ready h = record {
  begun = λ j parents b at l among. closed-stays s.theories i (Running 0) Waiting ready.waits (λ x. x) l (parents-closed j parents b at l among);
  theirs = λ n x e. begun-stays s.theories i (Running 0) Waiting ready.waits tt x.0 (h.theirs n x e);
  before = h.before;
}
  where
    parents-closed : (j : ℕ) (parents : List ℕ) → HasBegunThere (with_progress s.theories i (Running 0)) j → parents_at shape j ≡ Some parents → (l : ℕ) → IsIn l parents → IsClosedThere s.theories l
    parents-closed j parents b at l among = elim (theory-changed s.theories i (Running 0) j b.0 b.1) [
      | inl here ↦ all-closed s.theories ready.numbers cs ready.closed l (subst (IsIn l) (same_Some parents ready.numbers (sym at ∙ ap (parents_at shape) here.0 ∙ ap (λ x. parents_at x i) (sym shaped) ∙ ready.parents_are)) among)
      | inr there ↦ h.begun j parents (b.0, there.1, b.2) at l among
    ]

-- a theory that runs goes on, and there may be a promise more
governed-on : {G C O : Type 0} (shape : List (List ℕ)) (s : State G C O) (i k : ℕ) (p : Progress C) → theory_at s.theories i ≡ Some (Running k) → HasBegun p → IsGoverned shape s
    → (j : ℕ) (parents : List ℕ) → HasBegunThere (with_progress s.theories i p) j → parents_at shape j ≡ Some parents → (l : ℕ) → IsIn l parents → IsClosedThere (with_progress s.theories i p) l
governed-on {G} {C} {O} shape s i k p runs begun h j parents b at l among = closed-stays s.theories i p (Running k) runs (λ x. x) l (elim (theory-changed s.theories i p j b.0 b.1) [
  | inl here ↦ h.begun j parents (Running k, subst (λ m. theory_at s.theories m ≡ Some (Running k)) (sym here.0) runs, tt) at l among
  | inr there ↦ h.begun j parents (b.0, there.1, b.2) at l among
])

begun-forked : {C : Type 0} (o : Option (Progress C)) (k : ℕ) → o ≡ Some (Running k) → HasBegun (forked_once o)
begun-forked o k e = subst (λ x. HasBegun (forked_once x)) (sym e) tt

begun-closing : {C : Type 0} (o : Option (Progress C)) (k : ℕ) (c : C) → o ≡ Some (Running k) → HasBegun (closed_by o c)
begun-closing o k c e = subst (λ x. HasBegun (closed_by x c)) (sym e) tt

governed-fork : {G C O : Type 0} (shape : List (List ℕ)) (s : State G C O) (i k c : ℕ) (g : G) → theory_at s.theories i ≡ Some (Running k) → IsGoverned shape s → IsGoverned shape (after s (Fork i c g))
governed-fork {G} {C} {O} shape s i k c g runs h = record {
  begun = governed-on shape s i k (forked_once (theory_at s.theories i)) runs (begun-forked (theory_at s.theories i) k runs) h;
  theirs = λ n x e. begun-stays s.theories i (forked_once (theory_at s.theories i)) (Running k) runs (begun-forked (theory_at s.theories i) k runs) x.0 (elim (at-place n x e) [
    | inl here ↦ subst (λ j. HasBegunThere s.theories j) (ap (λ y. y.0) here.1) runs-there
    | inr there ↦ h.theirs n x there
  ]);
  before = λ m n x y e f older. elim (at-place m x e) [
    | inl here ↦ absurd (no-descendant n y f (subst (λ j. IsAncestor shape j y.0) (sym (ap (λ z. z.0) here.1)) older))
    | inr old ↦ elim (at-place n y f) [
      | inl new ↦ omega (arith, new.0, slice_get_within (origins s.promises) m x old)
      | inr there ↦ h.before m n x y old there older
    ]
  ];
}
  where
    runs-there : HasBegunThere s.theories i
    runs-there = (Running k, runs, tt)

    at-place : (n : ℕ) (x : ℕ × (ℕ × G)) → slice_get (origins (s.promises ++ new_promise s i c g ∷ [])) n ≡ Some x → ((n ≡ length (origins s.promises)) × ((i, (c, g)) ≡ x)) ⊎ (slice_get (origins s.promises) n ≡ Some x)
    at-place n x e = pushed-at (origins s.promises) (i, (c, g)) n x (subst (λ xs. slice_get xs n ≡ Some x) (origins-push s.promises (new_promise s i c g)) e)

    not-ancestor : (j : ℕ) → IsAncestor shape i j → HasBegunThere s.theories j → ⊥
    not-ancestor j older b = let closed = ancestor-closed shape s.theories h.begun i j older b in not-closed (Running k) (theory_at s.theories i) runs (λ x. x) closed.0 closed.1 closed.2

    no-descendant : (n : ℕ) (y : ℕ × (ℕ × G)) → slice_get (origins (s.promises ++ new_promise s i c g ∷ [])) n ≡ Some y → IsAncestor shape i y.0 → ⊥
    no-descendant n y f older = elim (at-place n y f) [
      | inl here ↦ not-ancestor y.0 older (subst (λ j. HasBegunThere s.theories j) (ap (λ z. z.0) here.1) runs-there)
      | inr there ↦ not-ancestor y.0 older (h.theirs n y there)
    ]

governed-close : {G C O : Type 0} (shape : List (List ℕ)) (s : State G C O) (i k : ℕ) (c : C) → theory_at s.theories i ≡ Some (Running k) → IsGoverned shape s → IsGoverned shape (after s (CloseTheory i c))
governed-close shape s i k c runs h = record {
  begun = governed-on shape s i k (closed_by (theory_at s.theories i) c) runs (begun-closing (theory_at s.theories i) k c runs) h;
  theirs = λ n x e. begun-stays s.theories i (closed_by (theory_at s.theories i) c) (Running k) runs (begun-closing (theory_at s.theories i) k c runs) x.0 (h.theirs n x e);
  before = h.before;
}

-- promises stand otherwise
governed-same : {G C O : Type 0} (shape : List (List ℕ)) (s t : State G C O) → t.theories ≡ s.theories → origins t.promises ≡ origins s.promises → IsGoverned shape s → IsGoverned shape t
governed-same {G} {C} {O} shape s t theories same h = record {
  begun = λ i parents b at j among. subst (λ ts. IsClosedThere ts j) (sym theories) (h.begun i parents (subst (λ ts. HasBegunThere ts i) theories b) at j among);
  theirs = λ n x e. subst (λ ts. HasBegunThere ts x.0) (sym theories) (h.theirs n x (subst (λ xs. slice_get xs n ≡ Some x) same e));
  before = λ m n x y e f older. h.before m n x y (subst (λ xs. slice_get xs m ≡ Some x) same e) (subst (λ xs. slice_get xs n ≡ Some y) same f) older;
}

governed-deliver : {G C O : Type 0} (shape : List (List ℕ)) (s : State G C O) (n : ℕ) (o : O) (fault : Bool) → IsGoverned shape s → IsGoverned shape (after s (Deliver n o fault))
governed-deliver {G} {C} {O} shape s n o fault h = by_flag (is_cancelled_promise (slice_get s.promises n))
  where
    between : State G C O
    between = record s { promises = with_standing s.promises n (Settled o); kept = s.kept + 1 }

    by_flag : (b : Bool) → IsGoverned shape (delivered_state s n o fault b)
    by_flag true = governed-same shape s (delivered_state s n o fault true) refl refl h
    by_flag false = governed-same shape s (delivered_state s n o fault false) (cancel-keeps between (cancelled_by s.opening.policy (s.kept + 1) fault)).0 (origins-cancel between (cancelled_by s.opening.policy (s.kept + 1) fault) ∙ origins-standing s.promises n (Settled o)) h

-- after an event that may happen
governed-after : {G C O : Type 0} (shape : List (List ℕ)) (forks : ℕ → ℕ → ℕ → G → Type 0) (closes : ℕ → ℕ → C → Type 0) (may : G → O → Type 0) (is_fault : O → Bool) (s : State G C O) (e : Event G C O) → s.opening.shape ≡ shape → Allows forks closes may is_fault s e → IsGoverned shape s → IsGoverned shape (after s e)
governed-after shape forks closes may is_fault s (TakeTheory i) shaped a h = governed-take shape s i a.1.0 shaped a.1.1.0 h
governed-after shape forks closes may is_fault s (TakeProof n) shaped a h = governed-same shape s (after s (TakeProof n)) refl (origins-standing s.promises n Taken) h
governed-after shape forks closes may is_fault s (Fork i c g) shaped a h = governed-fork shape s i a.0 c g a.1 h
governed-after shape forks closes may is_fault s (CloseTheory i c) shaped a h = governed-close shape s i a.0 c a.1 h
governed-after shape forks closes may is_fault s (Deliver n o fault) shaped a h = governed-deliver shape s n o fault h
governed-after shape forks closes may is_fault s Stop shaped a h = governed-same shape s (after s Stop) refl refl h

governed-after_all : {G C O : Type 0} (shape : List (List ℕ)) (forks : ℕ → ℕ → ℕ → G → Type 0) (closes : ℕ → ℕ → C → Type 0) (may : G → O → Type 0) (is_fault : O → Bool) (s : State G C O) (es : List (Event G C O)) → s.opening.shape ≡ shape → IsRunFrom forks closes may is_fault s es → IsGoverned shape s → IsGoverned shape (after_all s es)
governed-after_all shape forks closes may is_fault s [] shaped run h = h
governed-after_all shape forks closes may is_fault s (e ∷ es) shaped run h = governed-after_all shape forks closes may is_fault (after s e) es (ap (λ o. o.shape) (opening-after_all s (e ∷ [])) ∙ shaped) run.1 (governed-after shape forks closes may is_fault s e shaped run.0 h)

governed-legal : {G C O : Type 0} (shape : List (List ℕ)) (forks : ℕ → ℕ → ℕ → G → Type 0) (closes : ℕ → ℕ → C → Type 0) (may : G → O → Type 0) (is_fault : O → Bool) (s : State G C O) → IsLegal shape forks closes may is_fault s → IsGoverned shape s
governed-legal {G} {C} {O} shape forks closes may is_fault s legal = subst (IsGoverned shape) (sym legal.state) (governed-after_all shape forks closes may is_fault (opened s.opening) s.history (ap (λ o. o.shape) same_opening ∙ legal.shaped) legal.run (governed-opened shape s.opening))
  where
    same_opening : (opened {G = G} {C = C} {O = O} s.opening).opening ≡ s.opening
    same_opening = (cancel-keeps (record { opening = s.opening; theories = waiting s.opening.shape; promises = []; cancelled = unmarked s.opening.shape; kept = 0; stopped = false; history = [] }) (due s.opening.policy.cancels 0)).4

-- as many promises of a theory stand before a place as before a later one, or fewer
fewer-before : {G O : Type 0} (i : ℕ) (ps : List (Promise G O)) (m n : ℕ) → m ≤ n → length (promises_of i (take m ps)) ≤ length (promises_of i (take n ps))
fewer-before i [] zero n le = omega arith
fewer-before i [] (suc m) zero le = absurd (omega (arith, le))
fewer-before i [] (suc m) (suc n) le = omega arith
fewer-before i (p ∷ ps) zero n le = omega arith
fewer-before i (p ∷ ps) (suc m) zero le = absurd (omega (arith, le))
fewer-before {G} {O} i (p ∷ ps) (suc m) (suc n) le = by_test (nat_eq p.theory i) (fewer-before i ps m n (omega (arith, le)))
  where
    by_test : (b : Bool) → length (promises_of i (take m ps)) ≤ length (promises_of i (take n ps)) → length (cond b (p ∷ promises_of i (take m ps)) (promises_of i (take m ps))) ≤ length (cond b (p ∷ promises_of i (take n ps)) (promises_of i (take n ps)))
    by_test true rest = omega (arith, rest)
    by_test false rest = rest

pub smaller-numbers : {G C O : Type 0} (shape : List (List ℕ)) (forks : ℕ → ℕ → ℕ → G → Type 0) (closes : ℕ → ℕ → C → Type 0) (may : G → O → Type 0) (is_fault : O → Bool) (s : State G C O) → IsLegal shape forks closes may is_fault s → HaveSmallerNumbers shape s
smaller-numbers shape forks closes may is_fault s legal m n first early second late one two (inl older) =
    (governed-legal shape forks closes may is_fault s legal).before m n (origin one.promise) (origin two.promise) (origin-at s.promises m one.promise one.stands) (origin-at s.promises n two.promise two.stands)
    (subst (λ j. IsAncestor shape j (two.promise).theory) (sym one.theory_is) (subst (IsAncestor shape first) (sym two.theory_is) older))
smaller-numbers shape forks closes may is_fault s legal m n first early second late one two (inr same) = elim (cases_lt m n) [
  | inl less ↦ less
  | inr most ↦ absurd (omega (arith, fewer-before second s.promises n m most, sym one.count ∙ ap (λ i. length (promises_of i (take m s.promises))) same.0, two.count, same.1))
]

-- where a promise stands among those of its theory
placed-at : {G O : Type 0} (i : ℕ) (ps : List (Promise G O)) (n : ℕ) (p : Promise G O) → slice_get ps n ≡ Some p → p.theory ≡ i → slice_get (promises_of i ps) (length (promises_of i (take n ps))) ≡ Some p
placed-at i [] n p e at = absurd (none-some p e)
placed-at i (q ∷ qs) zero p e at = elim (same_or_not q.theory i) [
  | inl same ↦ ap (λ b. slice_get (cond b (q ∷ promises_of i qs) (promises_of i qs)) 0) same.0 ∙ e
  | inr apart ↦ absurd (apart.1 (ap (λ x. x.theory) (same_Some q p e) ∙ at))
]
placed-at {G} {O} i (q ∷ qs) (suc n) p e at = by_test (nat_eq q.theory i) (placed-at i qs n p e at)
  where
    by_test : (b : Bool) → slice_get (promises_of i qs) (length (promises_of i (take n qs))) ≡ Some p → slice_get (cond b (q ∷ promises_of i qs) (promises_of i qs)) (length (cond b (q ∷ promises_of i (take n qs)) (promises_of i (take n qs)))) ≡ Some p
    by_test true rest = rest
    by_test false rest = rest

pub goals-forked : {G C O : Type 0} (shape : List (List ℕ)) (forks : ℕ → ℕ → ℕ → G → Type 0) (closes : ℕ → ℕ → C → Type 0) (may : G → O → Type 0) (is_fault : O → Bool) (s : State G C O) → IsLegal shape forks closes may is_fault s → AreForked forks s
goals-forked shape forks closes may is_fault s legal n i k placed =
    (told-legal shape forks closes may is_fault s legal).goals i k (placed.promise).command (placed.promise).goal (goal-at i s.promises k placed.promise (subst (λ m. slice_get (promises_of i s.promises) m ≡ Some placed.promise) placed.count (placed-at i s.promises n placed.promise placed.stands placed.theory_is)))

-- at most as many stand before a place as there are
pub count-within : {G O : Type 0} (i : ℕ) (ps : List (Promise G O)) (n : ℕ) → length (promises_of i (take n ps)) ≤ length (promises_of i ps)
count-within i [] zero = omega arith
count-within i [] (suc n) = omega arith
count-within i (p ∷ ps) zero = omega arith
count-within {G} {O} i (p ∷ ps) (suc n) = by_test (nat_eq p.theory i) (count-within i ps n)
  where
    by_test : (b : Bool) → length (promises_of i (take n ps)) ≤ length (promises_of i ps) → length (cond b (p ∷ promises_of i (take n ps)) (promises_of i (take n ps))) ≤ length (cond b (p ∷ promises_of i ps) (promises_of i ps))
    by_test true rest = omega (arith, rest)
    by_test false rest = rest

-- each promise of a theory has a place
pub placed-there : {G O : Type 0} (i : ℕ) (ps : List (Promise G O)) (k : ℕ) → k < length (promises_of i ps) → (m : ℕ) × IsPlaced ps m i k
placed-there i [] k within = absurd (omega (arith, within))
placed-there {G} {O} i (p ∷ ps) k within = elim (same_or_not p.theory i) [
  | inl same ↦ here same.0 same.1 k (subst (λ b. k < length (cond b (p ∷ promises_of i ps) (promises_of i ps))) same.0 within) (placed-there i ps)
  | inr apart ↦ (let rest = placed-there i ps k (subst (λ b. k < length (cond b (p ∷ promises_of i ps) (promises_of i ps))) apart.0 within) in (
    suc rest.0,
    record { promise = (rest.1).promise; stands = (rest.1).stands; theory_is = (rest.1).theory_is; count = ap (λ b. length (cond b (p ∷ promises_of i (take rest.0 ps)) (promises_of i (take rest.0 ps)))) apart.0 ∙ (rest.1).count },
  ))
]
  where
    here : nat_eq p.theory i ≡ true → p.theory ≡ i → (j : ℕ) → j < suc (length (promises_of i ps)) → ((l : ℕ) → l < length (promises_of i ps) → (m : ℕ) × IsPlaced ps m i l) → (m : ℕ) × IsPlaced (p ∷ ps) m i j
    here test at zero less others = (0, record { promise = p; stands = refl; theory_is = at; count = refl })
    here test at (suc j) less others = let rest = others j (omega (arith, less)) in (
      suc rest.0,
      record { promise = (rest.1).promise; stands = (rest.1).stands; theory_is = (rest.1).theory_is; count = ap (λ b. length (cond b (p ∷ promises_of i (take rest.0 ps)) (promises_of i (take rest.0 ps)))) test ∙ ap suc (rest.1).count },
    )

-- an ancestor of a promise's theory is closed, after as many forks as it has promises
pub ancestor-whole : {G C O : Type 0} (shape : List (List ℕ)) (forks : ℕ → ℕ → ℕ → G → Type 0) (closes : ℕ → ℕ → C → Type 0) (may : G → O → Type 0) (is_fault : O → Bool) (s : State G C O) → IsLegal shape forks closes may is_fault s
    → (n : ℕ) (p : Promise G O) → slice_get s.promises n ≡ Some p → (j : ℕ) → IsAncestor shape j p.theory → (k : ℕ) × (c : C) × closes j k c × (length (promises_of j s.promises) ≡ k)
ancestor-whole {G} {C} {O} shape forks closes may is_fault s legal n p at j older =
    let governed = governed-legal shape forks closes may is_fault s legal in
    let closed = ancestor-closed shape s.theories governed.begun j p.theory older (governed.theirs n (origin p) (origin-at s.promises n p at)) in (
      closed.0,
      closed.1,
      (kept-legal shape forks closes may is_fault s legal).closed j closed.0 closed.1 closed.2,
      sym ((told-legal shape forks closes may is_fault s legal).count j (Closed closed.0 closed.1) closed.2 ∙ length-goals_at j s.promises),
    )
