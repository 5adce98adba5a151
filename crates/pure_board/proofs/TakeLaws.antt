-- What is taken, as the seat that took it knows.
use Rattle.std.proofs.Common.{◌≡◌, ◌∙◌, ℕ, List, [], ◌∷◌, ◌++◌, map, length, Bool, Option, slice_get, sym, ap, subst}
use Rattle.atomic_table.specs.Table.{Me}
use Rattle.pure_machine.specs.Policy.{Opening}
use Rattle.pure_machine.specs.State.{State, Event, TakeTheory, TakeProof, Fork, Deliver}
use Rattle.pure_machine.specs.Step.{IsReady, after, is_cancelled_promise}
use Rattle.pure_machine.specs.Calls.{Takes, delivered_as}
use Rattle.pure_machine.specs.declared.answers.Task.TheVariants as task_code
use Rattle.pure_machine.specs.declared.answers.Delivered as delivered
use Rattle.pure_board_lock.specs.History.{events}
use Rattle.pure_board_lock.specs.View.{View, looking, entering, releasing}
use Rattle.pure_board_lock.specs.Steps.{IsHeld}
use Rattle.pure_core_runs.specs.Seats.{state_of, MayEnter}
use Rattle.pure_board.specs.Course.{IsLawful}
use Rattle.pure_board.specs.Sight.{Sight, Sees}
use Rattle.pure_board.specs.Taken.{state_seen, IsGoalOf, IsTaken, IsForked, IsEntered, IsDelivered}
use Rattle.pure_board.specs.Tokens.{IsSeated, IsDone}
use Rattle.pure_board.proofs.HoldLaws.{done-entering, done-looking, done-missing, may-take-theory, may-take-proof}

module _ {W G C O : Type 0} (shape : W → List (List ℕ)) (forks : W → ℕ → ℕ → ℕ → G → Type 0) (closes : W → ℕ → ℕ → C → Type 0) (may : W → G → O → Type 0) (is_fault : W → O → Bool) where
  abbrev V : Type 0
  V = View W Opening (Event G C O)

  abbrev St : Type 0
  St = State G C O

  abbrev Seated : V → Type 0
  Seated = IsSeated shape forks closes may is_fault

  abbrev Held : V → V → St → Type 0
  Held = IsHeld state_of (IsLawful shape forks closes may is_fault)

  abbrev Done : (Sight W G C O → Sight W G C O → Type 0) → V → Me (Option St) V → Type 0
  Done = IsDone shape forks closes may is_fault

  abbrev Enter : V → St → Me (Option St) V → Type 0
  Enter u c' m = (e' : Event G C O) → c'.history ≡ events u.kept ++ e' ∷ [] → m ≡ (releasing (entering u e'), [])

  module _ (v u : V) (c c' : St) (m : Me (Option St) V) (s : Seated v) (h : Held v u c) where
    pub theory-taken : (i : ℕ) (parents : _) → Takes c c' (task_code.Theory i parents) → MayEnter (forks h.session) (closes h.session) (may h.session) (is_fault h.session) h.opening h.log v.number (TakeTheory i)
    theory-taken i parents t = may-take-theory shape forks closes may is_fault v u c s h i (t.0, (_, t.1))

    pub proof-taken : (n : ℕ) (goal : _) → Takes c c' (task_code.Proof n goal) → MayEnter (forks h.session) (closes h.session) (may h.session) (is_fault h.session) h.opening h.log v.number (TakeProof n)
    proof-taken n goal t = may-take-proof shape forks closes may is_fault v u c s h n (t.0, t.1, (t.2.0, t.2.1))

    pub done-theory : (i : ℕ) (parents : _) → Takes c c' (task_code.Theory i parents) → Enter u c' m → Done (λ old new. IsTaken old new (task_code.Theory i parents)) v m
    done-theory i parents t told = done-entering shape forks closes may is_fault v u c s h (λ old new. IsTaken old new (task_code.Theory i parents)) c' (TakeTheory i) m (theory-taken i parents t) t.2 told
        (λ name k o new k-is there entered. (h.log, entered, subst (λ (x : St). IsReady x i (map (λ p. p.value) parents.items)) (sym there) t.1.0))

    pub done-proof : (n : ℕ) (goal : _) → Takes c c' (task_code.Proof n goal) → Enter u c' m → Done (λ old new. IsTaken old new (task_code.Proof n goal)) v m
    done-proof n goal t told = done-entering shape forks closes may is_fault v u c s h (λ old new. IsTaken old new (task_code.Proof n goal)) c' (TakeProof n) m (proof-taken n goal t) t.3 told
        (λ name k o new k-is there entered. (h.log, entered, subst (λ (x : St). IsGoalOf x n goal.value) (sym there) (t.2.0, t.2.1.0, sym t.2.2)))

    module _ (m1 : Me (Option St) V) (looked : m1.0 ≡ looking u) (told : m ≡ (releasing m1.0, [])) where
      pub done-read : {X : Type 0} (read : St → X) (x : X) → x ≡ read c → Done (λ old new. Sees old new × (x ≡ read (state_seen new))) v m
      done-read read x is = done-looking shape forks closes may is_fault v u c s h (λ old new. Sees old new × (x ≡ read (state_seen new))) m1 m looked told (λ name k o new sees there. (sees, is ∙ ap read (sym there)))

    pub done-fork : (i k : ℕ) (g : G) (n : ℕ) → MayEnter (forks h.session) (closes h.session) (may h.session) (is_fault h.session) h.opening h.log v.number (Fork i k g) → c' ≡ after c (Fork i k g) → n ≡ length c.promises → Enter u c' m
        → Done (λ old new. IsForked old new i k g n) v m
    done-fork i k g n ok is number told = done-entering shape forks closes may is_fault v u c s h (λ old new. IsForked old new i k g n) c' (Fork i k g) m ok is told
        (λ name k o new k-is there entered. (h.log, entered, number ∙ ap (λ (x : St). length x.promises) (sym there)))

    pub done-event : (e : Event G C O) → MayEnter (forks h.session) (closes h.session) (may h.session) (is_fault h.session) h.opening h.log v.number e → c' ≡ after c e → Enter u c' m → Done (λ old new. IsEntered old new e) v m
    done-event e ok is told = done-entering shape forks closes may is_fault v u c s h (λ old new. IsEntered old new e) c' e m ok is told (λ name k o new k-is there entered. (h.log, entered))

    pub done-delivery : (n : ℕ) (x : O) (fault : Bool) (d : delivered.Delivered) → MayEnter (forks h.session) (closes h.session) (may h.session) (is_fault h.session) h.opening h.log v.number (Deliver n x fault) → c' ≡ after c (Deliver n x fault)
        → d ≡ delivered_as (is_cancelled_promise (slice_get c.promises n)) → Enter u c' m → Done (λ old new. IsDelivered old new n x fault d) v m
    done-delivery n x fault d ok is answer told = done-entering shape forks closes may is_fault v u c s h (λ old new. IsDelivered old new n x fault d) c' (Deliver n x fault) m ok is told
        (λ name k o new k-is there entered. (h.log, entered, answer ∙ ap (λ (y : St). delivered_as (is_cancelled_promise (slice_get y.promises n))) (sym there)))

    pub done-missed : m ≡ (releasing u, []) → Done Sees v m
    done-missed told = done-missing shape forks closes may is_fault v u c s h Sees m told (λ old new sees. sees)
