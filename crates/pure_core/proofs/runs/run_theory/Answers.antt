use Rattle.pure_core.proofs.RunLaws.{goes_on-then}
use Rattle.pure_core.proofs.TaskLaws.{when_false}
use Rattle.pure_core.proofs.runs.run_theory.Goals as goal

pub returns-in_err-take_turn-clause-goes_on :
    goal.returns-in_err-take_turn-clause-goes_on
returns-in_err-take_turn-clause-goes_on g c = goes_on-then (g.W.Work.forks c.args.work.now) (g.W.Work.closes c.args.work.now) (g.W.Work.may c.args.work.now) (g.W.Work.faults c.args.work.now) c.args.core.now c.loop.core c.take_turn.new.core c.loop.invariant.0 c.take_turn.ensures.goes_on

pub returns-then-branch-clause-goes_on :
    goal.returns-then-branch-clause-goes_on
returns-then-branch-clause-goes_on g c = goes_on-then (g.W.Work.forks c.args.work.now) (g.W.Work.closes c.args.work.now) (g.W.Work.may c.args.work.now) (g.W.Work.faults c.args.work.now) c.args.core.now c.loop.core c.take_turn.new.core c.loop.invariant.0 c.take_turn.ensures.goes_on

pub loop-preserved : goal.loop-preserved
loop-preserved g c = (goes_on-then (g.W.Work.forks c.args.work.now) (g.W.Work.closes c.args.work.now) (g.W.Work.may c.args.work.now) (g.W.Work.faults c.args.work.now) c.args.core.now c.loop.core c.take_turn.new.core c.loop.invariant.0 c.take_turn.ensures.goes_on, when_false _ _ c.in_ok-take_turn.field-0 c.if-branch.false c.in_ok-take_turn.ensures.rests)
