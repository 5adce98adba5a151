use Rattle.pure_core.proofs.RunLaws.{goes_on-then, legal-goes_on}
use Rattle.pure_core.proofs.TaskLaws.{when_false}
use Rattle.pure_core.proofs.runs.drain.Goals as goal

pub take_and_run-requires-clause-legal : goal.take_and_run-requires-clause-legal
take_and_run-requires-clause-legal g c κs l = legal-goes_on (g.W.Work.shape c.args.work.now) (g.W.Work.forks c.args.work.now) (g.W.Work.closes c.args.work.now) (g.W.Work.may c.args.work.now) (g.W.Work.faults c.args.work.now) c.args.core.now c.loop.core c.requires.legal (c.loop.invariant.0)

pub returns-in_err-take_and_run-clause-goes_on : goal.returns-in_err-take_and_run-clause-goes_on
returns-in_err-take_and_run-clause-goes_on g c = goes_on-then (g.W.Work.forks c.args.work.now) (g.W.Work.closes c.args.work.now) (g.W.Work.may c.args.work.now) (g.W.Work.faults c.args.work.now) c.args.core.now c.loop.core c.take_and_run.new.core c.loop.invariant.0 c.take_and_run.ensures.goes_on

pub returns-in_err-take_and_run-clause-legal : goal.returns-in_err-take_and_run-clause-legal
returns-in_err-take_and_run-clause-legal g c = legal-goes_on (g.W.Work.shape c.args.work.now) (g.W.Work.forks c.args.work.now) (g.W.Work.closes c.args.work.now) (g.W.Work.may c.args.work.now) (g.W.Work.faults c.args.work.now) c.args.core.now c.take_and_run.new.core c.requires.legal (goes_on-then (g.W.Work.forks c.args.work.now) (g.W.Work.closes c.args.work.now) (g.W.Work.may c.args.work.now) (g.W.Work.faults c.args.work.now) c.args.core.now c.loop.core c.take_and_run.new.core c.loop.invariant.0 c.take_and_run.ensures.goes_on)

pub returns-then-branch-clause-goes_on : goal.returns-then-branch-clause-goes_on
returns-then-branch-clause-goes_on g c = goes_on-then (g.W.Work.forks c.args.work.now) (g.W.Work.closes c.args.work.now) (g.W.Work.may c.args.work.now) (g.W.Work.faults c.args.work.now) c.args.core.now c.loop.core c.take_and_run.new.core c.loop.invariant.0 c.take_and_run.ensures.goes_on

pub returns-then-branch-clause-legal : goal.returns-then-branch-clause-legal
returns-then-branch-clause-legal g c = legal-goes_on (g.W.Work.shape c.args.work.now) (g.W.Work.forks c.args.work.now) (g.W.Work.closes c.args.work.now) (g.W.Work.may c.args.work.now) (g.W.Work.faults c.args.work.now) c.args.core.now c.take_and_run.new.core c.requires.legal (goes_on-then (g.W.Work.forks c.args.work.now) (g.W.Work.closes c.args.work.now) (g.W.Work.may c.args.work.now) (g.W.Work.faults c.args.work.now) c.args.core.now c.loop.core c.take_and_run.new.core c.loop.invariant.0 c.take_and_run.ensures.goes_on)

pub loop-preserved : goal.loop-preserved
loop-preserved g c = (goes_on-then (g.W.Work.forks c.args.work.now) (g.W.Work.closes c.args.work.now) (g.W.Work.may c.args.work.now) (g.W.Work.faults c.args.work.now) c.args.core.now c.loop.core c.take_and_run.new.core c.loop.invariant.0 c.take_and_run.ensures.goes_on, when_false _ _ c.in_ok-take_and_run.field-0 c.if-branch.false c.in_ok-take_and_run.ensures.rests)

pub returns-clause-legal : goal.returns-clause-legal
returns-clause-legal g c = legal-goes_on (g.W.Work.shape c.args.work.now) (g.W.Work.forks c.args.work.now) (g.W.Work.closes c.args.work.now) (g.W.Work.may c.args.work.now) (g.W.Work.faults c.args.work.now) c.args.core.now c.loop.core c.requires.legal (c.loop.invariant.0)
