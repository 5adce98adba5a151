-- The seats of a board that is opened.
use Rattle.std.proofs.Common.{◌≡◌, ◌∙◌, ℕ, ◌+◌, ◌<◌, ◌≤◌, List, [], ◌∷◌, ◌++◌, length, Bool, true, Option, refl, sym, ap, subst, inl, inr, arith, length-append}
use mathlib.Core.Logic.{dite}
use native.Mathlib.Decide.{ℕ_discrete}
use Rattle.atomic_table.specs.Seated.{TableId}
use Rattle.atomic_table.specs.Table.{Me}
use Rattle.pure_text.specs.Lists.{Each, AnyOf}
use Rattle.pure_text.proofs.ListLaws.{each-append, any-append_left, any-append_right}
use Rattle.pure_machine.specs.Policy.{Opening}
use Rattle.pure_machine.specs.State.{State, Event, opened}
use Rattle.atomic_table.specs.declared.shared.Seat.{Seat}
use Rattle.pure_board_lock.specs.View.{View, newcomer, splitting}
use Rattle.pure_board_lock.specs.Seats.{IsFree}
use Rattle.pure_core_runs.specs.Seats.{state_of}
use Rattle.pure_core_runs.proofs.ToldLaws.{opened-opening}
use Rattle.pure_core_runs.proofs.SeatLaws.{run-nothing}
use Rattle.pure_board.specs.Course.{IsLawful}
use Rattle.pure_board.specs.Sight.{Plan, Sight}
use Rattle.pure_board.specs.Tokens.{sight, counting, IsSeated}
use Rattle.pure_board.specs.Boards.{IsFresh, AreOpened, IsNumberedFresh}

pub opened-itself : {G C O : Type 0} (o : Opening) (s : State G C O) → s ≡ opened o → s ≡ state_of s.opening []
opened-itself {G} {C} {O} o s is = is ∙ ap opened (sym (ap (λ (x : State G C O). x.opening) is ∙ opened-opening G C O o))

pub opening-of : {G C O : Type 0} (o : Opening) (s : State G C O) → s ≡ opened o → s.opening ≡ o
opening-of {G} {C} {O} o s is = ap (λ (x : State G C O). x.opening) is ∙ opened-opening G C O o

-- one element more
pub one-longer : {A : Type 0} (old new : List A) (x : A) (n : ℕ) → new ≡ old ++ x ∷ [] → length old + 1 ≡ n → length new + 1 ≡ n + 1
one-longer old new x n e count = let more = ap length e ∙ length-append old (x ∷ []) in omega (arith, more, count)

module _ {W G C O : Type 0} where
  abbrev fresh : TableId → W → Opening → ℕ → Sight W G C O
  fresh name k o n = record { plan = record { name = name; session = k }; opening = o; number = n; seen = []; own = [] }

  -- one seat more behind those that are numbered
  pub numbered-more : (name : TableId) (k : W) (o : Opening) (n m : ℕ) (vs : List (Sight W G C O)) (v : Sight W G C O) → IsNumberedFresh name k o n vs → length vs + n ≡ m → v ≡ fresh name k o m → IsNumberedFresh name k o n (vs ++ v ∷ [])
  numbered-more name k o n m [] v fs count is = (let e : m ≡ n = omega (arith, count) in is ∙ ap (fresh name k o) e, tt)
  numbered-more name k o n m (u ∷ vs) v fs count is = (fs.0, numbered-more name k o (n + 1) m vs v fs.1 (omega (arith, count)) is)

  numbered-fresh : (board : Plan W) (o : Opening) (n : ℕ) (vs : List (Sight W G C O)) → IsNumberedFresh board.name board.session o n vs → Each (IsFresh board o) vs
  numbered-fresh board o n [] fs = tt
  numbered-fresh board o n (v ∷ vs) fs = (subst (IsFresh board o) (sym fs.0) (record { plan = refl; opening = refl; seen = refl; own = refl }), numbered-fresh board o (n + 1) vs fs.1)

  numbered-all : (name : TableId) (k : W) (o : Opening) (n m : ℕ) (vs : List (Sight W G C O)) → IsNumberedFresh name k o n vs → n ≤ m → m < length vs + n → AnyOf (λ s. s.number ≡ m) vs
  numbered-all name k o n m [] fs from below = absurd (omega (arith, from, below))
  numbered-all name k o n m (v ∷ vs) fs from below = dite (ℕ_discrete n m)
      (λ same. inl (ap (λ (s : Sight W G C O). s.number) fs.0 ∙ same))
      (λ other. inr (numbered-all name k o (n + 1) m vs fs.1 (omega (arith, from, other)) (omega (arith, below))))

  -- the first seat makes all of them
  pub all-opened : (board : Plan W) (k : W) (o : Opening) (vs : List (Sight W G C O)) (v : Sight W G C O) → board.session ≡ k → IsNumberedFresh board.name k o 1 vs → length vs + 1 ≡ o.workers → v ≡ fresh board.name k o 0 → AreOpened board o (vs ++ v ∷ [])
  all-opened board k o vs v same fs count is = let fs' : IsNumberedFresh board.name board.session o 1 vs = subst (λ (x : W). IsNumberedFresh board.name x o 1 vs) (sym same) fs in
      let is' : v ≡ fresh board.name board.session o 0 = is ∙ ap (λ (x : W). fresh board.name x o 0) (sym same) in record {
        as_many = length-append vs (v ∷ []) ∙ count;
        fresh = each-append (IsFresh board o) vs (v ∷ []) (numbered-fresh board o 1 vs fs') (subst (IsFresh board o) (sym is') (record { plan = refl; opening = refl; seen = refl; own = refl }), tt);
        all = λ n below. dite (ℕ_discrete n 0)
            (λ first. any-append_right (λ s. s.number ≡ n) vs (v ∷ []) (inl (ap (λ (s : Sight W G C O). s.number) is' ∙ sym first)))
            (λ other. any-append_left (λ s. s.number ≡ n) vs (v ∷ []) (numbered-all board.name board.session o 1 n vs fs' (omega (arith, other)) (omega (arith, below, count))));
      }

  -- the board with all seats
  pub opened-with : (board : Plan W) (k : W) (o : Opening) (old new : List (Sight W G C O)) (v : Sight W G C O) (name : TableId) {workers : ℕ} → board.session ≡ k → IsNumberedFresh board.name k o 1 old → length old + 1 ≡ workers → o.workers ≡ workers → name ≡ board.name → v ≡ fresh name k o 0 → new ≡ old ++ v ∷ [] → AreOpened board o new
  opened-with board k o old new v name session fs many count same is more = subst (AreOpened board o) (sym more) (all-opened board k o old v session fs (many ∙ sym count) (is ∙ ap (λ (x : TableId). fresh x k o 0) same))

  pub renamed-fresh : (name name' : TableId) (k : W) (o : Opening) (n : ℕ) (vs : List (Sight W G C O)) → name ≡ name' → IsNumberedFresh name k o n vs → IsNumberedFresh name' k o n vs
  renamed-fresh name name' k o n vs same fs = subst (λ (x : TableId). IsNumberedFresh x k o n vs) same fs

  -- one turn of the loop that makes seats
  pub seat-more : (name name' : TableId) (k : W) (o : Opening) (n : ℕ) (old new : List (Sight W G C O)) (v : Sight W G C O) → name' ≡ name → length old + 1 ≡ n → IsNumberedFresh name k o 1 old → v ≡ sight name' k o (newcomer (counting k o n)) → new ≡ old ++ v ∷ [] → IsNumberedFresh name k o 1 new
  seat-more name name' k o n old new v same count fs is more = subst (IsNumberedFresh name k o 1) (sym more) (numbered-more name k o 1 n old v fs count (is ∙ ap (λ (x : TableId). fresh x k o n) same))

  -- the first token is free, and counts
  pub first-free : (t : Seat (Option (State G C O)) (View W Opening (Event G C O))) (k : W) (o : Opening) (n : ℕ) → t.me ≡ (counting k o n, []) → IsFree t
  first-free t k o n e = record {
    has_none = ap (λ (m : Me (Option (State G C O)) (View W Opening (Event G C O))). m.1) e;
    lives = ap (λ (m : Me (Option (State G C O)) (View W Opening (Event G C O))). m.0.lives) e;
    is_opened = λ none'. absurd (cc (sym (ap (λ (m : Me (Option (State G C O)) (View W Opening (Event G C O))). m.0.opening) e) ∙ none'));
    is_free = ap (λ (m : Me (Option (State G C O)) (View W Opening (Event G C O))). m.0.holds) e;
  }

  pub first-counts : (m : Me (Option (State G C O)) (View W Opening (Event G C O))) (k : W) (o : Opening) (n : ℕ) → m ≡ (counting k o n, []) → m.0.counts ≡ true
  first-counts m k o n e = ap (λ (x : Me (Option (State G C O)) (View W Opening (Event G C O))). x.0.counts) e

  pub first-splits : (m m' : Me (Option (State G C O)) (View W Opening (Event G C O))) (k : W) (o : Opening) (n : ℕ) → m ≡ (counting k o n, []) → m' ≡ (splitting m.0, []) → m' ≡ (counting k o (n + 1), [])
  first-splits m m' k o n e told = told ∙ ap (λ (x : Me (Option (State G C O)) (View W Opening (Event G C O))). (splitting x.0, [])) e

  pub first-makes : (m m' : Me (Option (State G C O)) (View W Opening (Event G C O))) (k : W) (o : Opening) (n : ℕ) → m ≡ (counting k o n, []) → m' ≡ (newcomer m.0, []) → m' ≡ (newcomer (counting k o n), [])
  first-makes m m' k o n e told = told ∙ ap (λ (x : Me (Option (State G C O)) (View W Opening (Event G C O))). (newcomer x.0, [])) e

  module _ (shape : W → List (List ℕ)) (forks : W → ℕ → ℕ → ℕ → G → Type 0) (closes : W → ℕ → ℕ → C → Type 0) (may : W → G → O → Type 0) (is_fault : W → O → Bool) where
    pub opened-lawful : (k : W) (o : Opening) (s : State G C O) → s ≡ opened o → o.shape ≡ shape k → IsLawful shape forks closes may is_fault k s.opening []
    opened-lawful k o s is same = subst (λ (x : Opening). IsLawful shape forks closes may is_fault k x []) (sym (opening-of o s is)) (record { shaped = same; run = run-nothing (forks k) (closes k) (may k) (is_fault k) o })

    pub newcomer-seated : (k : W) (o : Opening) (n : ℕ) → o.shape ≡ shape k → 0 < n → n < o.workers → IsSeated shape forks closes may is_fault (newcomer (counting k o n))
    newcomer-seated k o n same some' few = record {
      session = k;
      opening = o;
      session_is = refl;
      opening_is = refl;
      lives = refl;
      is_free = refl;
      alone = refl;
      counts = λ e. absurd (omega (arith, e, some'));
      counted = λ counting'. absurd (cc counting');
      shaped = same;
      few = few;
      lawful = run-nothing (forks k) (closes k) (may k) (is_fault k) o;
      entries = refl;
    }

    pub first-seated : (k : W) (o : Opening) (n : ℕ) → o.shape ≡ shape k → o.workers ≡ n → 0 < n → IsSeated shape forks closes may is_fault (counting k o n)
    first-seated k o n same count some' = record {
      session = k;
      opening = o;
      session_is = refl;
      opening_is = refl;
      lives = refl;
      is_free = refl;
      alone = refl;
      counts = λ _. refl;
      counted = λ _. sym count;
      shaped = same;
      few = omega (arith, count, some');
      lawful = run-nothing (forks k) (closes k) (may k) (is_fault k) o;
      entries = refl;
    }

    pub makes-seated : (m m' : Me (Option (State G C O)) (View W Opening (Event G C O))) (k : W) (o : Opening) (n : ℕ) → m ≡ (counting k o n, []) → m' ≡ (newcomer m.0, []) → o.shape ≡ shape k → 0 < n → n < o.workers → (m'.1 ≡ []) × IsSeated shape forks closes may is_fault m'.0
    makes-seated m m' k o n e told same some' few = let at = first-makes m m' k o n e told in (ap (λ (x : Me (Option (State G C O)) (View W Opening (Event G C O))). x.1) at, subst (λ (x : Me (Option (State G C O)) (View W Opening (Event G C O))). IsSeated shape forks closes may is_fault x.0) (sym at) (newcomer-seated k o n same some' few))

    pub counts-seated : (m : Me (Option (State G C O)) (View W Opening (Event G C O))) (k : W) (o : Opening) (n : ℕ) → m ≡ (counting k o n, []) → o.shape ≡ shape k → o.workers ≡ n → 0 < n → (m.1 ≡ []) × IsSeated shape forks closes may is_fault m.0
    counts-seated m k o n at same count some' = (ap (λ (x : Me (Option (State G C O)) (View W Opening (Event G C O))). x.1) at, subst (λ (x : Me (Option (State G C O)) (View W Opening (Event G C O))). IsSeated shape forks closes may is_fault x.0) (sym at) (first-seated k o n same count some'))
