use Rattle.std.proofs.Common.{sym, subst}
use Rattle.pure_core_runs.specs.Seats.{forks_in}
use Rattle.pure_core.proofs.TaskLaws.{turn-forked}
use Rattle.pure_pool.specs.Held.{Theory}
use Rattle.pure_pool.proofs.SeatedLaws.{sees-hand, forks-theory, closes-theory}
use Rattle.pure_pool.proofs.TurnLaws.{err-with}
use Rattle.pure_pool.proofs.theory_runs.take_turn.Goals as goal

pub returns-in_err-fork-in-Forked-clause-err : goal.returns-in_err-fork-in-Forked-clause-err
returns-in_err-fork-in-Forked-clause-err g c =
    err-with g.W.Work.forks g.W.Work.closes g.W.Work.may g.W.Work.faults _ _ (Theory c.args.theory) (sees-hand g.W.Work.shape g.W.Work.forks g.W.Work.closes g.W.Work.may g.W.Work.faults c.args.seat.now c.fork.new.seat (Theory c.args.theory) c.requires.holds c.in_err-fork-in-Forked.ensures.known c.in_err-fork-in-Forked.ensures.forked)

pub returns-in_err-close_theory-in-Closed-clause-err : goal.returns-in_err-close_theory-in-Closed-clause-err
returns-in_err-close_theory-in-Closed-clause-err g c =
    err-with g.W.Work.forks g.W.Work.closes g.W.Work.may g.W.Work.faults _ _ (Theory c.args.theory) (sees-hand g.W.Work.shape g.W.Work.forks g.W.Work.closes g.W.Work.may g.W.Work.faults c.args.seat.now c.close_theory.new.seat (Theory c.args.theory) c.requires.holds c.in_err-close_theory-in-Closed.ensures.known c.in_err-close_theory-in-Closed.ensures.closed)

pub returns-in_ok-fork-in-Forked-clause-holds : goal.returns-in_ok-fork-in-Forked-clause-holds
returns-in_ok-fork-in-Forked-clause-holds g c =
    let entered = c.in_ok-fork-in-Forked.ensures.forked in
    let turn = turn-forked {R = g.row.W-Run.Denot} (g.W.Work.forks c.args.work.now) (g.W.Work.closes c.args.work.now) (g.W.Work.runs c.args.work.now) g.W.Work.turns_left c.args.theory (forks_in c.args.theory c.args.seat.now.own) c.args.run.now c.command.new.run c.in_ok-command.field-0 c.in-Forked.command c.in-Forked.goal c.in-Forked.is (c.in_ok-command.ensures.turn c.args.theory (forks_in c.args.theory c.args.seat.now.own) c.requires.runs) in
    let forked = forks-theory g.W.Work.shape g.W.Work.forks g.W.Work.closes g.W.Work.may g.W.Work.faults c.args.seat.now c.fork.new.seat entered.0 c.args.theory c.in-Forked.command c.in-Forked.goal c.requires.holds c.in_ok-fork-in-Forked.ensures.known entered.1 in
    (forked.0, subst (λ k. g.W.Work.runs c.args.work.now c.args.theory k c.command.new.run) (sym forked.1) turn.1)

pub returns-in_ok-close_theory-in-Closed-clause-holds : goal.returns-in_ok-close_theory-in-Closed-clause-holds
returns-in_ok-close_theory-in-Closed-clause-holds g c =
    let entered = c.in_ok-close_theory-in-Closed.ensures.closed in
    closes-theory g.W.Work.shape g.W.Work.forks g.W.Work.closes g.W.Work.may g.W.Work.faults c.args.seat.now c.close_theory.new.seat entered.0 c.args.theory c.in-Closed.closed c.requires.holds c.in_ok-close_theory-in-Closed.ensures.known entered.1
