use Rattle.pure_core.specs.Legal.{GoesOn, IsAtRest}
use Rattle.pure_core.proofs.runs.drain.Given as goal

abbrev pub invariant-loop : goal.invariant-loop
invariant-loop g l =
    (GoesOn (g.W.Work.forks l.fn.work) (g.W.Work.closes l.fn.work) (g.W.Work.may l.fn.work) (g.W.Work.faults l.fn.work) l.fn.core l.core) × IsAtRest l.core
