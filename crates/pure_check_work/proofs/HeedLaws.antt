-- The lemmas of a session that was checked on a board, as a policy sees them.
use Rattle.std.proofs.Common.{◌≡◌, ℕ, List, [], ◌∷◌, length, map, take, refl, sym, ap, subst, true, false, Some, slice_get}
use Rattle.pure_text.specs.Lists.{Each}
use Rattle.pure_text.proofs.ListLaws.{each_of, each_at}
use Rattle.pure_graph.specs.Order.{Loaded}
use Rattle.pure_table.specs.Declare.Notes.{Fork}
use Rattle.pure_table.specs.Method.Outcome.{IsOutcomeOf}
use Rattle.pure_table.specs.Method.declared.outcome.Outcome.{Outcome}
use Rattle.pure_table.specs.Method.declared.outcome.Outcome.TheVariants as shown
use Rattle.pure_table.specs.SessionLaws.Loaded.{IsLoadedSession}
use Rattle.pure_table.proofs.SessionMeaning.LabelLaws.{fork-theory}
use Rattle.pure_table.specs.TheoryRun.Checked.{Checked}
use Rattle.pure_table.specs.TheoryRun.Outline.{Outline}
use Rattle.pure_machine.specs.Policy.{Policy, Opening}
use Rattle.pure_machine.specs.State.{State, Promise, Standing, Ready, Taken, Settled, Cancelled}
use Rattle.pure_machine.specs.Step.{IsShape, IsOver, IsFinished}
use Rattle.pure_core.specs.Legal.{IsLegal}
use Rattle.pure_core_runs.specs.Seats.{state_of}
use Rattle.pure_core_runs.proofs.SeatLaws.{run-legal}
use Rattle.pure_core_end.specs.Promises.{AreInOrder, promises_of}
use Rattle.pure_core_end.specs.Places.{IsPlaced}
use Rattle.pure_core_end.proofs.BeforeLaws.{goals-forked}
use Rattle.pure_core_end.proofs.JoinLaws.{in-ordered}
use Rattle.pure_policy_laws.specs.Heeded.{IsHeeded}
use Rattle.pure_policy_laws.specs.Heeded as heed
use Rattle.pure_policy_laws.proofs.HeedLaws.{heeded}
use Rattle.pure_policy_laws.proofs.FinishLaws.{in-at}
use Rattle.pure_board.specs.Boards.{Ending}
use Rattle.pure_check_work.specs.Relations.{shape_of, ForksAfter, ClosesAfter, is_fault}
use Rattle.pure_check_work.specs.Boards.{IsBoardOf}
use Rattle.pure_check_work.specs.Cancelled.{cancelled_labels, entry_of, entries_of}
use Rattle.pure_check_work.specs.Heeded.{lot_of, gone_labels, SessionIsHeeded}
use Rattle.pure_check_work.proofs.RunLaws.{shape-formed}

-- a promise that is over, of a theory that its lemma's label has
record IsPlain (p : Promise Fork Outcome) : Type 0 where
  over : IsOver p.standing
  theory : (p.goal).label.theory ≡ p.theory

same-lot : (p : Promise Fork Outcome) → IsPlain p → lot_of (entry_of p) ≡ heed.lot_of is_fault p
same-lot p plain = by_standing p.standing plain.over
  where
    by_standing : (s : Standing Outcome) → IsOver s → lot_of (entry_of (record { theory = p.theory; command = p.command; goal = p.goal; standing = s })) ≡ heed.lot_of is_fault (record { theory = p.theory; command = p.command; goal = p.goal; standing = s })
    by_standing Ready over = absurd over
    by_standing Taken over = absurd over
    by_standing (Settled (shown.Proved c)) over = ap (λ i. record { theory = i; gone = false; fault = false }) plain.theory
    by_standing (Settled (shown.Fault step fault)) over = ap (λ i. record { theory = i; gone = false; fault = true }) plain.theory
    by_standing Cancelled over = ap (λ i. record { theory = i; gone = true; fault = false }) plain.theory

same-lots : (ps : List (Promise Fork Outcome)) → Each IsPlain ps → map lot_of (entries_of ps) ≡ map (heed.lot_of is_fault) ps
same-lots [] plain = refl
same-lots (p ∷ ps) plain = let one = same-lot p plain.0 in let rest = same-lots ps plain.1 in λ i. one i ∷ rest i

same-gone : (ps : List (Promise Fork Outcome)) → Each IsPlain ps → gone_labels (entries_of ps) ≡ cancelled_labels ps
same-gone [] plain = refl
same-gone (p ∷ ps) plain = by_standing p.standing plain.0.over (same-gone ps plain.1)
  where
    with : Standing Outcome → Promise Fork Outcome
    with s = record { theory = p.theory; command = p.command; goal = p.goal; standing = s }

    by_standing : (s : Standing Outcome) → IsOver s → gone_labels (entries_of ps) ≡ cancelled_labels ps → gone_labels (entries_of (with s ∷ ps)) ≡ cancelled_labels (with s ∷ ps)
    by_standing Ready over rest = absurd over
    by_standing Taken over rest = absurd over
    by_standing (Settled o) over rest = rest
    by_standing Cancelled over rest = ap (λ ls. (p.goal).label ∷ ls) rest

module _ (texts : List (List ℕ)) (theories : List Loaded) (loaded : IsLoadedSession texts theories) (policy : Policy) (workers : ℕ) (board : Ending Checked Fork Outline Outcome) (of : IsBoardOf texts theories policy workers board) where
  -- the closed board's core is in a state of a legal run
  pub board-legal : IsLegal (shape_of theories) (ForksAfter texts theories) (ClosesAfter texts theories) (IsOutcomeOf texts) is_fault board.core
  board-legal = subst (λ (s : State Fork Outline Outcome). IsLegal (shape_of theories) (ForksAfter texts theories) (ClosesAfter texts theories) (IsOutcomeOf texts) is_fault s) (sym of.state)
      (subst (λ shape. IsLegal shape (ForksAfter texts theories) (ClosesAfter texts theories) (IsOutcomeOf texts) is_fault (state_of board.opening board.history)) (ap (λ (o : Opening). o.shape) of.opening)
      (run-legal (ForksAfter texts theories) (ClosesAfter texts theories) (IsOutcomeOf texts) is_fault board.opening board.history of.run))

  -- each promise is over, and of the theory that its lemma's label has
  plain-promise : (n : ℕ) (p : Promise Fork Outcome) → slice_get (board.core).promises n ≡ Some p → (p.goal).label.theory ≡ p.theory
  plain-promise n p stands =
      let placed : IsPlaced (board.core).promises n p.theory (length (promises_of p.theory (take n (board.core).promises))) = record { promise = p; stands = stands; theory_is = refl; count = refl } in
      fork-theory texts theories p.theory (length (promises_of p.theory (take n (board.core).promises))) p.goal
      (goals-forked (shape_of theories) (ForksAfter texts theories) (ClosesAfter texts theories) (IsOutcomeOf texts) is_fault board.core board-legal n p.theory (length (promises_of p.theory (take n (board.core).promises))) placed).lemma

  plain-ordered : (ordered : List (Promise Fork Outcome)) → AreInOrder (board.core).promises ordered → Each IsPlain ordered
  plain-ordered ordered in_order = each_of IsPlain ordered (λ p m. (
      let there = in-ordered (board.core).promises ordered in_order p m in
      let at = in-at p (board.core).promises there in
      record { over = each_at (λ (q : Promise Fork Outcome). IsOver q.standing) (board.core).promises of.executed.finished.promises p there; theory = plain-promise at.0 p at.1 }))

  board-heeded : (ordered : List (Promise Fork Outcome)) → AreInOrder (board.core).promises ordered → IsHeeded policy workers (map (heed.lot_of is_fault) ordered)
  board-heeded ordered in_order =
      subst (λ (o : Opening). IsHeeded o.policy o.workers (map (heed.lot_of is_fault) ordered)) of.opening
      (heeded (ForksAfter texts theories) (ClosesAfter texts theories) (IsOutcomeOf texts) is_fault board.opening board.history
      (subst (λ (o : Opening). IsShape o.shape) (sym of.opening) (shape-formed texts theories loaded)) of.run of.executed.orderly ordered
      (subst IsFinished of.state of.executed.finished) (subst (λ (s : State Fork Outline Outcome). AreInOrder s.promises ordered) of.state in_order))

pub session_is_heeded : SessionIsHeeded
session_is_heeded texts theories loaded policy workers board of ordered in_order =
    let plain = plain-ordered texts theories loaded policy workers board of ordered in_order in
    (subst (IsHeeded policy workers) (sym (same-lots ordered plain)) (board-heeded texts theories loaded policy workers board of ordered in_order), same-gone ordered plain)
