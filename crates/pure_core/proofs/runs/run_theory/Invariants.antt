use Rattle.std.proofs.Common.{ℕ}
use Rattle.pure_core.specs.Legal.{GoesOn, IsTheoryAlone}
use Rattle.pure_core.proofs.runs.run_theory.Given as goal

abbrev pub invariant-loop : goal.invariant-loop
invariant-loop g l =
    (GoesOn (g.W.Work.forks l.fn.work) (g.W.Work.closes l.fn.work) (g.W.Work.may l.fn.work) (g.W.Work.faults l.fn.work) l.fn.core l.core)
    × ((k : ℕ) × IsTheoryAlone l.core l.fn.theory k × g.W.Work.runs l.fn.work l.fn.theory k l.run)
