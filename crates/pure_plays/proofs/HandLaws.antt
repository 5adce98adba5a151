-- What is in hand, before and after a call.
use Rattle.std.proofs.Common.{◌≡◌, ◌∙◌, ℕ, List, map, refl, sym, ap, subst, Bool}
use Rattle.pure_machine.specs.State.{CloseTheory}
use Rattle.pure_machine.specs.Step.{IsOut, stops}
use Rattle.pure_machine.specs.declared.answers.Task.TheVariants as task_code
use Rattle.pure_core_runs.specs.Seats.{HasTheory}
use Rattle.pure_core_runs.proofs.SeatLaws.{out-known}
use Rattle.pure_board.specs.Sight.{Sight, IsTrueSight, Sees}
use Rattle.pure_board.specs.Taken.{IsGoalOf, IsTaken, IsEntered, IsForked, IsDelivered, state_seen}
use Rattle.pure_pool.specs.Held.{Held, Nothing, Theory, Proof}
use Rattle.pure_pool.proofs.SeatedLaws.{sees-hand, takes-theory, takes-proof, forks-theory, closes-theory, delivers-proof}
use Rattle.pure_plays.specs.Hands.{HasInHand}

-- the work leaves all to its worker
abbrev Forks : {W : Type 0} → W → ℕ → ℕ → ℕ → Bool → Type 0
Forks s i n c g = Unit {0}

abbrev Closes : {W : Type 0} → W → ℕ → ℕ → ℕ → Type 0
Closes s i n c = Unit {0}

abbrev May : {W : Type 0} → W → Bool → Bool → Type 0
May s g o = Unit {0}

abbrev faults : {W : Type 0} → W → Bool → Bool
faults s o = o

module _ {W : Type 0} (v : Sight W Bool ℕ Bool) where
  -- a seat with something or nothing in hand hasn't stopped the work
  pub not-stopped : (held : Held) → HasInHand v held → stops v.own ≡ 0
  not-stopped held h = ap stops h.entries ∙ h.holds.goes_on

  pub theory-in_hand : (i : ℕ) → HasInHand v (Theory i) → HasTheory v.own i
  theory-in_hand i h = subst (λ es. HasTheory es i) (sym h.entries) h.holds.in_hand

  -- no outcome of the proof in hand was delivered
  pub out-in_hand : (n : ℕ) → HasInHand v (Proof n) → IsOut v.own n
  out-in_hand n h = subst (λ es. IsOut es n) (sym h.entries) h.holds.in_hand

  -- it has a goal
  pub goal-in_hand : (n : ℕ) → HasInHand v (Proof n) → (g : Bool) × IsGoalOf (state_seen v) n g × Unit {0}
  goal-in_hand n h =
      let p = v.plan in
      let known = out-known (Forks p.session) (Closes p.session) (May p.session) (faults p.session) v.opening v.seen v.number n h.holds.run h.holds.in_hand in
      (known.1.0.goal, (known.1.0, known.1.1, refl), tt)

module _ {W : Type 0} (shape : W → List (List ℕ)) (v w : Sight W Bool ℕ Bool) (true_w : IsTrueSight shape Forks Closes May faults w) where
  -- more was seen
  pub still-in_hand : (held : Held) → HasInHand v held → Sees v w → HasInHand w held
  still-in_hand held h sees = sees-hand shape Forks Closes May faults v w held h true_w sees

  -- something was taken
  pub theory-taken : (i : ℕ) (parents : _) → HasInHand v Nothing → IsTaken v w (task_code.Theory i parents) → HasInHand w (Theory i)
  theory-taken i parents h t = (takes-theory shape Forks Closes May faults v w t.0 i (map (λ p. p.value) parents.items) h true_w t.1 t.2).0

  pub proof-taken : (n : ℕ) (goal : _) → HasInHand v Nothing → IsTaken v w (task_code.Proof n goal) → HasInHand w (Proof n)
  proof-taken n goal h t = (takes-proof shape Forks Closes May faults v w t.0 n goal.value h true_w t.1 t.2).0

  pub idle-taken : HasInHand v Nothing → IsTaken v w task_code.Idle → HasInHand w Nothing
  idle-taken h t = still-in_hand Nothing h t.0

  -- something was entered
  pub forked-in_hand : (i c : ℕ) (g : Bool) (n : ℕ) → HasInHand v (Theory i) → IsForked v w i c g n → HasInHand w (Theory i)
  forked-in_hand i c g n h t = (forks-theory shape Forks Closes May faults v w t.0 i c g h true_w t.1).0

  pub closed-in_hand : (i c : ℕ) → HasInHand v (Theory i) → IsEntered v w (CloseTheory i c) → HasInHand w Nothing
  closed-in_hand i c h t = closes-theory shape Forks Closes May faults v w t.0 i c h true_w t.1

  pub delivered-in_hand : (n : ℕ) (o fault : Bool) (d : _) → HasInHand v (Proof n) → IsDelivered v w n o fault d → HasInHand w Nothing
  delivered-in_hand n o fault d h t = delivers-proof shape Forks Closes May faults v w t.0 n o fault h true_w t.1
