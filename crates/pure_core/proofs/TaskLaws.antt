-- What follows from what was taken and from a turn, where nothing else runs.
use Rattle.std.proofs.Common.{◌≡◌, ℕ, ◌+◌, List, map, refl, sym, subst, Bool, false, Option, Some}
use Rattle.std.specs.Prelude.{MatchBool}
use Rattle.pure_text.specs.Lists.{EachTwo}
use Rattle.pure_machine.specs.declared.answers.Task as task
use Rattle.pure_machine.specs.declared.answers.Task.TheVariants as task_code
use Rattle.pure_machine.specs.Calls.{Takes}
use Rattle.pure_machine.specs.State.{State, TakeTheory, TakeProof, parents_at}
use Rattle.pure_machine.specs.Step.{IsNextTheory, IsNextPromise, NoTheoryReady, after}
use Rattle.pure_core.specs.declared.work.Turn as turn
use Rattle.pure_core.specs.declared.work.Turn.TheVariants as turn_code
use Rattle.pure_core.specs.Turns.{IsTurn, IsAdvance}
use Rattle.pure_core.specs.Legal.{IsLegal, GoesOn, IsAtRest, IsTheoryAlone, IsProofAlone}
use Rattle.pure_core.proofs.KeptLaws.{IsKept}
use Rattle.pure_core.proofs.RunLaws.{goes_on-by, kept-legal}
use Rattle.pure_core.proofs.AloneLaws.{theory-taken, proof-taken, parents-may}

pub when_false : (A B : Type 0) (b : Bool) → b ≡ false → MatchBool b A B → B
when_false A B b e h = subst (λ x. MatchBool x A B) e h

pub turn-forked : {G C R : Type 0} (forks : ℕ → ℕ → ℕ → G → Type 0) (closes : ℕ → ℕ → C → Type 0) (runs : ℕ → ℕ → R → Type 0) (left : R → ℕ) (i n : ℕ) (old new : R) (t : turn.Turn G C) (c : ℕ) (g : G) → t ≡ turn_code.Forked c g → IsTurn forks closes runs left i n old new t → forks i n c g × runs i (n + 1) new
turn-forked forks closes runs left i n old new t c g e h = let here : IsTurn forks closes runs left i n old new (turn_code.Forked c g) = subst (IsTurn forks closes runs left i n old new) e h in (here.0, here.1)

pub turn-closed : {G C R : Type 0} (forks : ℕ → ℕ → ℕ → G → Type 0) (closes : ℕ → ℕ → C → Type 0) (runs : ℕ → ℕ → R → Type 0) (left : R → ℕ) (i n : ℕ) (old new : R) (t : turn.Turn G C) (x : C) → t ≡ turn_code.Closed x → IsTurn forks closes runs left i n old new t → closes i n x
turn-closed forks closes runs left i n old new t x e h = subst (IsTurn forks closes runs left i n old new) e h

pub advance-outcome : {G O P : Type 0} (proves : G → P → Type 0) (may : G → O → Type 0) (left : P → ℕ) (g h : G) (old new : P) (a : Option O) (o : O) → a ≡ Some o → g ≡ h → IsAdvance proves may left h old new a → may g o
advance-outcome proves may left g h old new a o e same at = subst (λ x. may x o) (sym same) (subst (IsAdvance proves may left h old new) e at)

-- a theory was taken
pub takes-theory : {G C O : Type 0} (shape : List (List ℕ)) (forks : ℕ → ℕ → ℕ → G → Type 0) (closes : ℕ → ℕ → C → Type 0) (may : G → O → Type 0) (is_fault : O → Bool) (old new : State G C O) (t : task.Task G C) (i : ℕ) (parents : _)
    → t ≡ task_code.Theory i parents → Takes old new t → IsLegal shape forks closes may is_fault old → IsAtRest old
    → GoesOn forks closes may is_fault old new × IsTheoryAlone new i 0 × ((numbers : List ℕ) × (parents_at shape i ≡ Some numbers) × EachTwo (λ i c. (n : ℕ) × closes i n c.value) numbers parents.items)
takes-theory {G} {C} {O} shape forks closes may is_fault old new t i parents e h legal rest = (
  goes_on-by forks closes may is_fault old new (TakeTheory i) (taken.0, (map (λ p. p.value) parents.items, taken.1)) refl taken.2,
  subst (λ s. IsTheoryAlone s i 0) (sym taken.2) (theory-taken old i (map (λ p. p.value) parents.items) rest taken.1.0),
  parents-may forks closes old i shape (λ p. p.value) parents.items (kept-legal shape forks closes may is_fault old legal) legal.shaped taken.1.0,
)
  where
    taken : (old.stopped ≡ false) × IsNextTheory old i (map (λ p. p.value) parents.items) × (new ≡ after old (TakeTheory i))
    taken = subst (Takes old new) e h

-- a proof was taken
pub takes-proof : {G C O : Type 0} (shape : List (List ℕ)) (forks : ℕ → ℕ → ℕ → G → Type 0) (closes : ℕ → ℕ → C → Type 0) (may : G → O → Type 0) (is_fault : O → Bool) (old new : State G C O) (t : task.Task G C) (n : ℕ) (goal : _)
    → t ≡ task_code.Proof n goal → Takes old new t → IsLegal shape forks closes may is_fault old → IsAtRest old
    → GoesOn forks closes may is_fault old new × IsProofAlone new n goal.value × ((i : ℕ) × (k : ℕ) × (c : ℕ) × forks i k c goal.value)
takes-proof {G} {C} {O} shape forks closes may is_fault old new t n goal e h legal rest = (
  goes_on-by forks closes may is_fault old new (TakeProof n) (taken.0, taken.1, (taken.2.0, taken.2.1)) refl taken.3,
  subst (λ s. IsProofAlone s n goal.value) (sym taken.3) (subst (IsProofAlone (after old (TakeProof n)) n) (sym taken.2.2) (proof-taken forks closes old n taken.2.0 kept rest taken.2.1)),
  (from.0, from.1, from.2, subst (forks from.0 from.1 from.2) (sym taken.2.2) from.3),
)
  where
    kept : IsKept forks closes old
    kept = kept-legal shape forks closes may is_fault old legal

    taken : (old.stopped ≡ false) × NoTheoryReady old × ((p : _) × IsNextPromise old n p × (goal.value ≡ p.goal)) × (new ≡ after old (TakeProof n))
    taken = subst (Takes old new) e h

    from : (i : ℕ) × (k : ℕ) × (c : ℕ) × forks i k c taken.2.0.goal
    from = kept.goals n taken.2.0 taken.2.1.0
