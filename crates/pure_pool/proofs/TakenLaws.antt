-- What a take leaves in hand.
use Rattle.std.proofs.Common.{◌≡◌, ℕ, List, map, sym, subst, Bool, Some}
use Rattle.pure_text.specs.Lists.{EachTwo}
use Rattle.pure_machine.specs.State.{parents_at}
use Rattle.pure_machine.specs.declared.answers.Task as task
use Rattle.pure_machine.specs.declared.answers.Task.TheVariants as task_code
use Rattle.pure_core_runs.specs.Seats.{forks_in}
use Rattle.pure_board.specs.Sight.{Sight, IsTrueSight}
use Rattle.pure_board.specs.Taken.{IsTaken, IsGoalOf, state_seen}
use Rattle.pure_pool.specs.Held.{Nothing, Theory, Proof}
use Rattle.pure_pool.specs.Seated.{Has, IsServedSeat}
use Rattle.pure_pool.proofs.SeatedLaws.{sees-hand, takes-theory, takes-parents, takes-proof, finished-ends, stopped-ends}

module _ {W G C O : Type 0} (shape : W → List (List ℕ)) (forks : W → ℕ → ℕ → ℕ → G → Type 0) (closes : W → ℕ → ℕ → C → Type 0) (may : W → G → O → Type 0) (is_fault : W → O → Bool) (v w : Sight W G C O) (t : task.Task G C) (taken : IsTaken v w t) (free : Has forks closes may is_fault v Nothing) (true_w : IsTrueSight shape forks closes may is_fault w) where
  pub taken-theory : (i : ℕ) (parents : _) → t ≡ task_code.Theory i parents → Has forks closes may is_fault w (Theory i) × (forks_in i w.own ≡ 0)
  taken-theory i parents e =
      let h : IsTaken v w (task_code.Theory i parents) = subst (IsTaken v w) e taken in
      takes-theory shape forks closes may is_fault v w h.0 i (map (λ p. p.value) parents.items) free true_w h.1 h.2

  pub taken-parents : (i : ℕ) (parents : _) (s : W) (ps : _) → t ≡ task_code.Theory i parents → v.plan.session ≡ s → ps ≡ parents.items → (numbers : List ℕ) × (parents_at (shape s) i ≡ Some numbers) × EachTwo (λ i c. (n : ℕ) × closes s i n c.value) numbers ps
  taken-parents i parents s ps e session same =
      let h : IsTaken v w (task_code.Theory i parents) = subst (IsTaken v w) e taken in
      let found = takes-parents shape forks closes may is_fault v w h.0 i (λ p. p.value) parents.items true_w h.1 h.2 in
      subst (λ x. (numbers : List ℕ) × (parents_at (shape x) i ≡ Some numbers) × EachTwo (λ i c. (n : ℕ) × closes x i n c.value) numbers ps) session
      (subst (λ x. (numbers : List ℕ) × (parents_at (shape v.plan.session) i ≡ Some numbers) × EachTwo (λ i c. (n : ℕ) × closes v.plan.session i n c.value) numbers x) (sym same) found)

  pub taken-proof : (n : ℕ) (goal : _) (s : W) (g : G) → t ≡ task_code.Proof n goal → v.plan.session ≡ s → g ≡ goal.value → Has forks closes may is_fault w (Proof n) × IsGoalOf (state_seen w) n g × ((i : ℕ) × (k : ℕ) × (m : ℕ) × forks s i k m g)
  taken-proof n goal s g e session same =
      let h : IsTaken v w (task_code.Proof n goal) = subst (IsTaken v w) e taken in
      let found = takes-proof shape forks closes may is_fault v w h.0 n goal.value free true_w h.1 h.2 in
      subst (λ x. Has forks closes may is_fault w (Proof n) × IsGoalOf (state_seen w) n g × ((i : ℕ) × (k : ℕ) × (m : ℕ) × forks x i k m g)) session
      (subst (λ x. Has forks closes may is_fault w (Proof n) × IsGoalOf (state_seen w) n x × ((i : ℕ) × (k : ℕ) × (m : ℕ) × forks v.plan.session i k m x)) (sym same) found)

  pub taken-idle : t ≡ task_code.Idle → Has forks closes may is_fault w Nothing
  taken-idle e =
      let h : IsTaken v w task_code.Idle = subst (IsTaken v w) e taken in
      sees-hand shape forks closes may is_fault v w Nothing free true_w h.0

  pub taken-finished : t ≡ task_code.Finished → IsServedSeat w
  taken-finished e =
      let h : IsTaken v w task_code.Finished = subst (IsTaken v w) e taken in
      finished-ends shape forks closes may is_fault w (sees-hand shape forks closes may is_fault v w Nothing free true_w h.0) h.1

  pub taken-stopped : t ≡ task_code.Stopped → IsServedSeat w
  taken-stopped e =
      let h : IsTaken v w task_code.Stopped = subst (IsTaken v w) e taken in
      stopped-ends shape forks closes may is_fault w Nothing (sees-hand shape forks closes may is_fault v w Nothing free true_w h.0) h.1
