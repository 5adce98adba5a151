-- What holds in each state of a legal run of each theory's promises: they are as many as its forks, of goals that it may fork in this order, and settled by outcomes that their goals may have.
use Rattle.std.proofs.Common.{◌≡◌, ◌≢◌, ◌∙◌, ◌⊎◌, ℕ, ◌+◌, List, [], ◌∷◌, ◌++◌, length, nat_eq, refl, sym, ap, subst, arith, Bool, true, false, not, ◌&&◌, if◌then◌else◌, Some, slice_get, inl, inr}
use Rattle.std.proofs.lemmas.Option.{same_Some, none-some}
use Rattle.std.proofs.lemmas.List.{length-map}
use Rattle.pure_machine.specs.declared.policy.Group.{Group}
use Rattle.pure_machine.specs.Policy.{Opening, due}
use Rattle.pure_machine.specs.State.{Progress, Waiting, Running, Promise, Standing, Ready, Taken, Settled, Cancelled, Event, TakeTheory, TakeProof, Fork, CloseTheory, Deliver, Stop, State, theory_at, waiting, unmarked, with_progress, with_standing, is_theory_cancelled, is_settled, cancelled_promise, with_cancelled, opened}
use Rattle.pure_machine.specs.Step.{Stands, forks_of, forked_once, closed_by, new_promise, is_cancelled_promise, cancelled_by, after, after_all, Allows, IsRunFrom}
use Rattle.pure_machine.proofs.PromiseLaws.{slice_get-mapped}
use Rattle.pure_core.specs.Legal.{IsLegal}
use Rattle.pure_core.proofs.PlaceLaws.{theory-changed, theory-there, promise-changed, pushed-at, length-progress}
use Rattle.pure_core.proofs.KeptLaws.{before-cancel, cancel-keeps, waiting-at, delivered_state}
use Rattle.pure_core_end.proofs.OriginLaws.{origins, goals_at, same_or_not, goals_at-more, goals_at-other, origins-push, origins-standing, origins-cancel}
use Rattle.pure_core_end.proofs.TheoryLaws.{theory-elsewhere}

pub record IsTold {G C O : Type 0} (forks : ℕ → ℕ → ℕ → G → Type 0) (may : G → O → Type 0) (s : State G C O) : Type 0 where
  pub count : (i : ℕ) (q : Progress C) → theory_at s.theories i ≡ Some q → forks_of q ≡ length (goals_at i (origins s.promises))
  pub goals : (i n c : ℕ) (g : G) → slice_get (goals_at i (origins s.promises)) n ≡ Some (c, g) → forks i n c g
  pub outcomes : (n : ℕ) (p : Promise G O) (o : O) → Stands s n p → p.standing ≡ Settled o → may p.goal o
  pub theirs : (n : ℕ) (x : ℕ × (ℕ × G)) → slice_get (origins s.promises) n ≡ Some x → (q : Progress C) × (theory_at s.theories x.0 ≡ Some q)
  pub long : length s.theories ≡ length s.opening.shape

-- standings that differ
abbrev IsSettledBy : {O : Type 0} → (O → Type 0) → Standing O → Type 0
IsSettledBy P (Settled o) = P o
IsSettledBy P _ = ⊥

settled-as : {O : Type 0} (P : O → Type 0) (s : Standing O) (o : O) → s ≡ Settled o → IsSettledBy P s → P o
settled-as P s o e h = subst (IsSettledBy P) e h

settled-not : {O : Type 0} (s : Standing O) (o : O) → s ≡ Settled o → ¬ IsSettledBy (λ _. Unit {0}) s → ⊥
settled-not s o e other = other (subst (IsSettledBy (λ _. Unit {0})) (sym e) tt)

-- what is settled where groups were cancelled was settled so
settled-cancelled : {G O : Type 0} (b : Bool) (p q : Promise G O) (o : O) → (if b then (record { theory = p.theory; command = p.command; goal = p.goal; standing = Cancelled }) else p) ≡ q → q.standing ≡ Settled o → (p.standing ≡ Settled o) × (q.goal ≡ p.goal)
settled-cancelled true p q o e at = absurd (settled-not Cancelled o (ap (λ x. x.standing) e ∙ at) (λ x. x))
settled-cancelled false p q o e at = (ap (λ x. x.standing) e ∙ at, sym (ap (λ x. x.goal) e))

settled-before : {G C O : Type 0} (s : State G C O) (gs : List Group) (n : ℕ) (q : Promise G O) (o : O) → Stands (with_cancelled s gs) n q → q.standing ≡ Settled o
    → (p : Promise G O) × Stands s n p × (p.standing ≡ Settled o) × (q.goal ≡ p.goal)
settled-before s [] n q o e at = (q, e, at, refl)
settled-before s (g ∷ gs) n q o e at =
    let old = slice_get-mapped (cancelled_promise _) s.promises n q e in
    let so = settled-cancelled (is_theory_cancelled _ old.0.theory && not (is_settled old.0.standing)) old.0 q o old.2 at in
    (old.0, old.1, so.0, so.1)

-- a theory is still there when one goes on
still-there : {C : Type 0} (ts : List (Progress C)) (i : ℕ) (p : Progress C) (j : ℕ) (q : Progress C) → theory_at ts j ≡ Some q → (r : Progress C) × (theory_at (with_progress ts i p) j ≡ Some r)
still-there ts i p j q e = elim (same_or_not j i) [
  | inl same ↦ (p, subst (λ k. theory_at (with_progress ts i p) k ≡ Some p) (sym same.1) (theory-there ts i p q (subst (λ k. theory_at ts k ≡ Some q) same.1 e)))
  | inr apart ↦ (q, theory-elsewhere ts i p j q apart.1 e)
]

longer : {A : Type 0} (xs : List A) (x : A) → length xs + 1 ≡ length (xs ++ x ∷ [])
longer [] x = refl
longer (y ∷ ys) x = omega (arith, longer ys x)

-- at the opening
pub told-opened : {G C O : Type 0} (forks : ℕ → ℕ → ℕ → G → Type 0) (may : G → O → Type 0) (o : Opening) → IsTold {G = G} {C = C} {O = O} forks may (opened o)
told-opened {G} {C} {O} forks may o = record {
  count = λ i q e. ap forks_of (waiting-at o.shape i q (subst (λ ts. theory_at ts i ≡ Some q) keeps.0 e)) ∙ ap (λ xs. length (goals_at i xs)) (sym none);
  goals = λ i n c g e. absurd (none-some (c, g) (subst (λ xs. slice_get (goals_at i xs) n ≡ Some (c, g)) none e));
  outcomes = λ n p v e at. absurd (let old = before-cancel begun (due o.policy.cancels 0) n p e in none-some old.0 old.1);
  theirs = λ n x e. absurd (none-some x (subst (λ xs. slice_get xs n ≡ Some x) none e));
  long = ap length keeps.0 ∙ length-map o.shape (λ _. Waiting) ∙ ap (λ x. length x.shape) (sym keeps.4);
}
  where
    begun : State G C O
    begun = record { opening = o; theories = waiting o.shape; promises = []; cancelled = unmarked o.shape; kept = 0; stopped = false; history = [] }

    keeps : ((opened {G = G} {C = C} {O = O} o).theories ≡ waiting o.shape) × ((opened {G = G} {C = C} {O = O} o).history ≡ []) × (length (opened {G = G} {C = C} {O = O} o).promises ≡ 0) × ((opened {G = G} {C = C} {O = O} o).stopped ≡ false) × ((opened {G = G} {C = C} {O = O} o).opening ≡ o)
    keeps = cancel-keeps begun (due o.policy.cancels 0)

    none : origins (opened {G = G} {C = C} {O = O} o).promises ≡ []
    none = origins-cancel begun (due o.policy.cancels 0)

-- after a theory is taken
told-take_theory : {G C O : Type 0} (forks : ℕ → ℕ → ℕ → G → Type 0) (may : G → O → Type 0) (s : State G C O) (i : ℕ) → theory_at s.theories i ≡ Some Waiting → IsTold forks may s → IsTold forks may (after s (TakeTheory i))
told-take_theory {G} {C} {O} forks may s i waits h = record {
  count = λ j q e. elim (theory-changed s.theories i (Running 0) j q e) [
    | inl here ↦ ap forks_of (sym here.1) ∙ h.count i Waiting waits ∙ ap (λ k. length (goals_at k (origins s.promises))) (sym here.0)
    | inr there ↦ h.count j q there.1
  ];
  goals = h.goals;
  outcomes = h.outcomes;
  theirs = λ n x e. (let old = h.theirs n x e in still-there s.theories i (Running 0) x.0 old.0 old.1);
  long = length-progress s.theories i (Running 0) ∙ h.long;
}

-- after a proof is taken
told-take_proof : {G C O : Type 0} (forks : ℕ → ℕ → ℕ → G → Type 0) (may : G → O → Type 0) (s : State G C O) (n : ℕ) → IsTold forks may s → IsTold forks may (after s (TakeProof n))
told-take_proof {G} {C} {O} forks may s n h = record {
  count = λ i q e. h.count i q e ∙ ap (λ xs. length (goals_at i xs)) (sym (origins-standing s.promises n Taken));
  goals = λ i k c g e. h.goals i k c g (subst (λ xs. slice_get (goals_at i xs) k ≡ Some (c, g)) (origins-standing s.promises n Taken) e);
  outcomes = λ m q o e at. elim (promise-changed s.promises n Taken m q e) [
    | inl here ↦ absurd (settled-not Taken o (ap (λ x. x.standing) here.3 ∙ at) (λ x. x))
    | inr there ↦ h.outcomes m q o there.0 at
  ];
  theirs = λ m x e. h.theirs m x (subst (λ xs. slice_get xs m ≡ Some x) (origins-standing s.promises n Taken) e);
  long = h.long;
}

not_settled_new : {O : Type 0} (b : Bool) (o : O) → ◌≢◌ {A = Standing O} (if b then Cancelled else Ready) (Settled o)
not_settled_new true o e = settled-not Cancelled o e (λ x. x)
not_settled_new false o e = settled-not Ready o e (λ x. x)

-- after a fork
told-fork : {G C O : Type 0} (forks : ℕ → ℕ → ℕ → G → Type 0) (may : G → O → Type 0) (s : State G C O) (i k c : ℕ) (g : G) → theory_at s.theories i ≡ Some (Running k) → forks i k c g → IsTold forks may s → IsTold forks may (after s (Fork i c g))
told-fork {G} {C} {O} forks may s i k c g runs new h = record {
  count = λ j q e. elim (theory-changed s.theories i (forked_once (theory_at s.theories i)) j q e) [
    | inl here ↦ ap forks_of (sym here.1) ∙ ap (λ t. forks_of (forked_once t)) runs ∙ one_more j here.0
    | inr there ↦ h.count j q there.1 ∙ ap length (sym (goals_at-other (origins s.promises) i j (c, g) there.0) ∙ ap (goals_at j) (sym pushed))
  ];
  goals = λ j n m x e. goal_so j n m x (same_or_not j i) (subst (λ xs. slice_get (goals_at j xs) n ≡ Some (m, x)) pushed e);
  outcomes = λ n p o e at. elim (pushed-at s.promises (new_promise s i c g) n p e) [
    | inl here ↦ absurd (not_settled_new (is_theory_cancelled s.cancelled i) o (ap (λ x. x.standing) here.1 ∙ at))
    | inr there ↦ h.outcomes n p o there at
  ];
  theirs = λ n x e. elim (pushed-at (origins s.promises) (i, (c, g)) n x (subst (λ xs. slice_get xs n ≡ Some x) pushed e)) [
    | inl here ↦ still-there s.theories i (forked_once (theory_at s.theories i)) x.0 (Running k) (subst (λ j. theory_at s.theories j ≡ Some (Running k)) (ap (λ y. y.0) here.1) runs)
    | inr there ↦ (let old = h.theirs n x there in still-there s.theories i (forked_once (theory_at s.theories i)) x.0 old.0 old.1)
  ];
  long = length-progress s.theories i (forked_once (theory_at s.theories i)) ∙ h.long;
}
  where
    pushed : origins (s.promises ++ new_promise s i c g ∷ []) ≡ origins s.promises ++ (i, (c, g)) ∷ []
    pushed = origins-push s.promises (new_promise s i c g)

    many : k ≡ length (goals_at i (origins s.promises))
    many = h.count i (Running k) runs

    one_more : (j : ℕ) → j ≡ i → k + 1 ≡ length (goals_at j (origins (s.promises ++ new_promise s i c g ∷ [])))
    one_more j same =
        ap (λ m. m + 1) many ∙ longer (goals_at i (origins s.promises)) (c, g)
        ∙ ap length (sym (goals_at-more (origins s.promises) i (c, g)) ∙ ap (goals_at i) (sym pushed)) ∙ ap (λ m. length (goals_at m (origins (s.promises ++ new_promise s i c g ∷ [])))) (sym same)

    goal_so : (j n m : ℕ) (x : G) → ((nat_eq j i ≡ true) × (j ≡ i)) ⊎ ((nat_eq j i ≡ false) × (j ≢ i)) → slice_get (goals_at j (origins s.promises ++ (i, (c, g)) ∷ [])) n ≡ Some (m, x) → forks j n m x
    goal_so j n m x (inr apart) e = h.goals j n m x (subst (λ xs. slice_get xs n ≡ Some (m, x)) (goals_at-other (origins s.promises) i j (c, g) apart.1) e)
    goal_so j n m x (inl same) e = elim (pushed-at (goals_at i (origins s.promises)) (c, g) n (m, x) (subst (λ xs. slice_get xs n ≡ Some (m, x)) (ap (λ l. goals_at l (origins s.promises ++ (i, (c, g)) ∷ [])) same.1 ∙ goals_at-more (origins s.promises) i (c, g)) e)) [
      | inl here ↦ subst (λ l. forks l n m x) (sym same.1) (subst (λ l. forks i l m x) (many ∙ sym here.0) (subst (λ y. forks i k y.0 y.1) here.1 new))
      | inr there ↦ subst (λ l. forks l n m x) (sym same.1) (h.goals i n m x there)
    ]

-- after a theory is closed
told-close : {G C O : Type 0} (forks : ℕ → ℕ → ℕ → G → Type 0) (may : G → O → Type 0) (s : State G C O) (i k : ℕ) (c : C) → theory_at s.theories i ≡ Some (Running k) → IsTold forks may s → IsTold forks may (after s (CloseTheory i c))
told-close {G} {C} {O} forks may s i k c runs h = record {
  count = λ j q e. elim (theory-changed s.theories i (closed_by (theory_at s.theories i) c) j q e) [
    | inl here ↦ ap forks_of (sym here.1) ∙ ap (λ t. forks_of (closed_by t c)) runs ∙ h.count i (Running k) runs ∙ ap (λ m. length (goals_at m (origins s.promises))) (sym here.0)
    | inr there ↦ h.count j q there.1
  ];
  goals = h.goals;
  outcomes = h.outcomes;
  theirs = λ n x e. (let old = h.theirs n x e in still-there s.theories i (closed_by (theory_at s.theories i) c) x.0 old.0 old.1);
  long = length-progress s.theories i (closed_by (theory_at s.theories i) c) ∙ h.long;
}

-- after a delivery
told-settled : {G C O : Type 0} (forks : ℕ → ℕ → ℕ → G → Type 0) (may : G → O → Type 0) (s : State G C O) (n : ℕ) (o : O) (fault : Bool) (p : Promise G O) → Stands s n p → may p.goal o → IsTold forks may s → IsTold forks may (delivered_state s n o fault false)
told-settled {G} {C} {O} forks may s n o fault p stands so h = record {
  count = λ i q e. h.count i q (subst (λ ts. theory_at ts i ≡ Some q) keeps.0 e) ∙ ap (λ xs. length (goals_at i xs)) (sym same);
  goals = λ i k c g e. h.goals i k c g (subst (λ xs. slice_get (goals_at i xs) k ≡ Some (c, g)) same e);
  outcomes = λ m q v e at. (let mid = settled-before between groups m q v e at in
      elim (promise-changed s.promises n (Settled o) m mid.0 mid.1) [
        | inl here ↦ subst (λ g. may g v) (ap (λ x. x.goal) here.3 ∙ sym mid.3) (settled-as (may here.0.goal) (Settled o) v (ap (λ x. x.standing) here.3 ∙ mid.2) (subst (λ x. may x.goal o) (same_Some p here.0 (sym stands ∙ here.1)) so))
        | inr there ↦ subst (λ g. may g v) (sym mid.3) (h.outcomes m mid.0 v there.0 mid.2)
      ]);
  theirs = λ m x e. (let old = h.theirs m x (subst (λ xs. slice_get xs m ≡ Some x) same e) in (old.0, subst (λ ts. theory_at ts x.0 ≡ Some old.0) (sym keeps.0) old.1));
  long = ap length keeps.0 ∙ h.long ∙ ap (λ x. length x.shape) (sym keeps.4);
}
  where
    groups : List Group
    groups = cancelled_by s.opening.policy (s.kept + 1) fault

    between : State G C O
    between = record s { promises = with_standing s.promises n (Settled o); kept = s.kept + 1 }

    keeps : ((with_cancelled between groups).theories ≡ s.theories) × ((with_cancelled between groups).history ≡ s.history) × (length (with_cancelled between groups).promises ≡ length (with_standing s.promises n (Settled o))) × ((with_cancelled between groups).stopped ≡ s.stopped) × ((with_cancelled between groups).opening ≡ s.opening)
    keeps = cancel-keeps between groups

    same : origins (with_cancelled between groups).promises ≡ origins s.promises
    same = origins-cancel between groups ∙ origins-standing s.promises n (Settled o)

told-deliver : {G C O : Type 0} (forks : ℕ → ℕ → ℕ → G → Type 0) (may : G → O → Type 0) (s : State G C O) (n : ℕ) (o : O) (fault : Bool) (p : Promise G O) → Stands s n p → may p.goal o → IsTold forks may s → IsTold forks may (after s (Deliver n o fault))
told-deliver {G} {C} {O} forks may s n o fault p stands so h = by_flag (is_cancelled_promise (slice_get s.promises n))
  where
    by_flag : (b : Bool) → IsTold forks may (delivered_state s n o fault b)
    by_flag true = record { count = h.count; goals = h.goals; outcomes = h.outcomes; theirs = h.theirs; long = h.long }
    by_flag false = told-settled forks may s n o fault p stands so h

-- after an event that may happen
told-after : {G C O : Type 0} (forks : ℕ → ℕ → ℕ → G → Type 0) (closes : ℕ → ℕ → C → Type 0) (may : G → O → Type 0) (is_fault : O → Bool) (s : State G C O) (e : Event G C O) → Allows forks closes may is_fault s e → IsTold forks may s → IsTold forks may (after s e)
told-after forks closes may is_fault s (TakeTheory i) a h = told-take_theory forks may s i a.1.1.0.waits h
told-after forks closes may is_fault s (TakeProof n) a h = told-take_proof forks may s n h
told-after forks closes may is_fault s (Fork i c g) a h = told-fork forks may s i a.0 c g a.1 a.2 h
told-after forks closes may is_fault s (CloseTheory i c) a h = told-close forks may s i a.0 c a.1 h
told-after forks closes may is_fault s (Deliver n o fault) a h = told-deliver forks may s n o fault a.0 a.1 a.3 h
told-after forks closes may is_fault s Stop a h = record { count = h.count; goals = h.goals; outcomes = h.outcomes; theirs = h.theirs; long = h.long }

told-after_all : {G C O : Type 0} (forks : ℕ → ℕ → ℕ → G → Type 0) (closes : ℕ → ℕ → C → Type 0) (may : G → O → Type 0) (is_fault : O → Bool) (s : State G C O) (es : List (Event G C O)) → IsRunFrom forks closes may is_fault s es → IsTold forks may s → IsTold forks may (after_all s es)
told-after_all forks closes may is_fault s [] run h = h
told-after_all forks closes may is_fault s (e ∷ es) run h = told-after_all forks closes may is_fault (after s e) es run.1 (told-after forks closes may is_fault s e run.0 h)

-- in each state of a legal run
pub told-legal : {G C O : Type 0} (shape : List (List ℕ)) (forks : ℕ → ℕ → ℕ → G → Type 0) (closes : ℕ → ℕ → C → Type 0) (may : G → O → Type 0) (is_fault : O → Bool) (s : State G C O) → IsLegal shape forks closes may is_fault s → IsTold forks may s
told-legal shape forks closes may is_fault s legal = subst (IsTold forks may) (sym legal.state) (told-after_all forks closes may is_fault (opened s.opening) s.history legal.run (told-opened forks may s.opening))
