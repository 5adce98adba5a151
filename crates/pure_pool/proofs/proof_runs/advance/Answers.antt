use Rattle.std.proofs.Common.{◌∙◌, sym, ap, subst}
use Rattle.std.specs.Prelude.{MatchOption}
use Rattle.pure_pool.specs.Held.{Nothing, Proof}
use Rattle.pure_pool.proofs.SeatedLaws.{sees-hand, sees-goal, finds-cancelled, polled-ends, delivers-proof}
use Rattle.pure_pool.proofs.TurnLaws.{err-with, no-outcome}
use Rattle.pure_pool.proofs.proof_runs.advance.Goals as goal

pub returns-in-Cancelled-clause-ended : goal.returns-in-Cancelled-clause-ended
returns-in-Cancelled-clause-ended g c =
    let polled = c.in-Cancelled.ensures in
    finds-cancelled g.W.Work.shape g.W.Work.forks g.W.Work.closes g.W.Work.may g.W.Work.faults c.poll.new.seat c.args.number (sees-hand g.W.Work.shape g.W.Work.forks g.W.Work.closes g.W.Work.may g.W.Work.faults c.args.seat.now c.poll.new.seat (Proof c.args.number) c.requires.holds polled.known polled.polled.0) polled.polled.1

pub returns-in-Stopped-clause-ended : goal.returns-in-Stopped-clause-ended
returns-in-Stopped-clause-ended g c =
    let polled = c.in-Stopped.ensures in
    polled-ends g.W.Work.shape g.W.Work.forks g.W.Work.closes g.W.Work.may g.W.Work.faults c.poll.new.seat (Proof c.args.number) c.args.number (sees-hand g.W.Work.shape g.W.Work.forks g.W.Work.closes g.W.Work.may g.W.Work.faults c.args.seat.now c.poll.new.seat (Proof c.args.number) c.requires.holds polled.known polled.polled.0) polled.polled.1

pub returns-in_err-outcome-clause-err : goal.returns-in_err-outcome-clause-err
returns-in_err-outcome-clause-err g c =
    err-with g.W.Work.forks g.W.Work.closes g.W.Work.may g.W.Work.faults _ _ (Proof c.args.number) (sees-hand g.W.Work.shape g.W.Work.forks g.W.Work.closes g.W.Work.may g.W.Work.faults c.args.seat.now c.poll.new.seat (Proof c.args.number) c.requires.holds c.poll.ensures.known c.poll.ensures.polled.0)

pub returns-in_default-clause-ended : goal.returns-in_default-clause-ended
returns-in_default-clause-ended g c = (
  sees-hand g.W.Work.shape g.W.Work.forks g.W.Work.closes g.W.Work.may g.W.Work.faults c.args.seat.now c.poll.new.seat (Proof c.args.number) c.requires.holds c.poll.ensures.known c.poll.ensures.polled.0,
  sees-goal g.W.Work.shape g.W.Work.forks g.W.Work.closes g.W.Work.may g.W.Work.faults c.args.seat.now c.poll.new.seat c.args.number c.args.goal.now c.poll.ensures.known c.poll.ensures.polled.0 c.requires.goal,
  no-outcome (g.W.Work.proves c.args.work.now c.args.goal.now c.step.new.proving) (g.W.Work.may c.args.work.now c.args.goal.now) c.in_ok-outcome.field-0 c.in_default.not-Some c.in_ok-outcome.ensures,
)

pub deliver-requires-clause-may : goal.deliver-requires-clause-may
deliver-requires-clause-may g c κs within =
    let session = ap (λ p. p.session) (c.poll.ensures.polled.0.plan ∙ c.requires.board) ∙ c.requires.session in
    let may = subst (λ a. MatchOption a (g.W.Work.proves c.args.work.now c.args.goal.now c.step.new.proving) (g.W.Work.may c.args.work.now c.args.goal.now)) c.in-Some.is c.in_ok-outcome.ensures in (
      c.args.goal.now,
      sees-goal g.W.Work.shape g.W.Work.forks g.W.Work.closes g.W.Work.may g.W.Work.faults c.args.seat.now c.poll.new.seat c.args.number c.args.goal.now c.poll.ensures.known c.poll.ensures.polled.0 c.requires.goal,
      subst (λ w. g.W.Work.may w c.args.goal.now c.in-Some.outcome) (sym session) may,
    )

pub returns-in_err-deliver-clause-err : goal.returns-in_err-deliver-clause-err
returns-in_err-deliver-clause-err g c =
    let hand = sees-hand g.W.Work.shape g.W.Work.forks g.W.Work.closes g.W.Work.may g.W.Work.faults c.args.seat.now c.poll.new.seat (Proof c.args.number) c.requires.holds c.poll.ensures.known c.poll.ensures.polled.0 in
    err-with g.W.Work.forks g.W.Work.closes g.W.Work.may g.W.Work.faults _ _ (Proof c.args.number) (sees-hand g.W.Work.shape g.W.Work.forks g.W.Work.closes g.W.Work.may g.W.Work.faults c.poll.new.seat c.deliver.new.seat (Proof c.args.number) hand c.in_err-deliver.ensures.known c.in_err-deliver.ensures.delivered)

pub returns-clause-ended : goal.returns-clause-ended
returns-clause-ended g c =
    let hand = sees-hand g.W.Work.shape g.W.Work.forks g.W.Work.closes g.W.Work.may g.W.Work.faults c.args.seat.now c.poll.new.seat (Proof c.args.number) c.requires.holds c.poll.ensures.known c.poll.ensures.polled.0 in
    let entered = c.in_ok-deliver.ensures.delivered in
    let free = delivers-proof g.W.Work.shape g.W.Work.forks g.W.Work.closes g.W.Work.may g.W.Work.faults c.poll.new.seat c.deliver.new.seat entered.0 c.args.number c.in-Some.outcome c.is_fault-fault.result hand c.in_ok-deliver.ensures.known entered.1 in
    sees-hand g.W.Work.shape g.W.Work.forks g.W.Work.closes g.W.Work.may g.W.Work.faults c.deliver.new.seat c.cancellations.new.seat Nothing free c.cancellations.ensures.known c.cancellations.ensures.counted.0
