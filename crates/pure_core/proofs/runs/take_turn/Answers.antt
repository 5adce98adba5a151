use Rattle.std.proofs.Common.{refl, ◌+◌}
use Rattle.pure_machine.specs.State.{Fork, CloseTheory}
use Rattle.pure_core.proofs.RunLaws.{goes_on-by}
use Rattle.pure_core.proofs.AloneLaws.{theory-forks, theory-closes}
use Rattle.pure_core.proofs.TaskLaws.{turn-forked, turn-closed}
use Rattle.pure_core.proofs.runs.take_turn.Goals as goal

pub returns-in_ok-fork-in-Forked-clause-goes_on :
    goal.returns-in_ok-fork-in-Forked-clause-goes_on
returns-in_ok-fork-in-Forked-clause-goes_on g c =
    let run = c.requires.runs in
    let turn = turn-forked {R = g.row.W-Run.Denot} (g.W.Work.forks c.args.work.now) (g.W.Work.closes c.args.work.now) (g.W.Work.runs c.args.work.now) g.W.Work.turns_left c.args.theory run.0 c.args.run.now c.command.new.run c.in_ok-command.field-0 c.in-Forked.command c.in-Forked.goal c.in-Forked.is (c.in_ok-command.ensures.turn c.args.theory run.0 run.2) in
    goes_on-by (g.W.Work.forks c.args.work.now) (g.W.Work.closes c.args.work.now) (g.W.Work.may c.args.work.now) (g.W.Work.faults c.args.work.now) c.args.core.now c.fork.new.self (Fork c.args.theory c.in-Forked.command c.in-Forked.goal) (run.0, run.1.runs, turn.0) refl c.in_ok-fork-in-Forked.ensures.1

pub returns-in_ok-fork-in-Forked-clause-rests :
    goal.returns-in_ok-fork-in-Forked-clause-rests
returns-in_ok-fork-in-Forked-clause-rests g c =
    let run = c.requires.runs in
    let turn = turn-forked {R = g.row.W-Run.Denot} (g.W.Work.forks c.args.work.now) (g.W.Work.closes c.args.work.now) (g.W.Work.runs c.args.work.now) g.W.Work.turns_left c.args.theory run.0 c.args.run.now c.command.new.run c.in_ok-command.field-0 c.in-Forked.command c.in-Forked.goal c.in-Forked.is (c.in_ok-command.ensures.turn c.args.theory run.0 run.2) in
    (run.0 + 1, rw (c.in_ok-fork-in-Forked.ensures.1) (theory-forks c.args.core.now c.args.theory run.0 c.in-Forked.command c.in-Forked.goal run.1), turn.1)

pub returns-in_ok-close_theory-in-Closed-clause-goes_on :
    goal.returns-in_ok-close_theory-in-Closed-clause-goes_on
returns-in_ok-close_theory-in-Closed-clause-goes_on g c =
    let run = c.requires.runs in
    let turn = turn-closed {R = g.row.W-Run.Denot} (g.W.Work.forks c.args.work.now) (g.W.Work.closes c.args.work.now) (g.W.Work.runs c.args.work.now) g.W.Work.turns_left c.args.theory run.0 c.args.run.now c.command.new.run c.in_ok-command.field-0 c.in-Closed.closed c.in-Closed.is (c.in_ok-command.ensures.turn c.args.theory run.0 run.2) in
    goes_on-by (g.W.Work.forks c.args.work.now) (g.W.Work.closes c.args.work.now) (g.W.Work.may c.args.work.now) (g.W.Work.faults c.args.work.now) c.args.core.now c.close_theory.new.self (CloseTheory c.args.theory c.in-Closed.closed) (run.0, run.1.runs, turn) refl c.in_ok-close_theory-in-Closed.ensures

pub returns-in_ok-close_theory-in-Closed-clause-rests :
    goal.returns-in_ok-close_theory-in-Closed-clause-rests
returns-in_ok-close_theory-in-Closed-clause-rests g c =
    let run = c.requires.runs in
    rw c.in_ok-close_theory-in-Closed.ensures (theory-closes c.args.core.now c.args.theory run.0 c.in-Closed.closed run.1)
