use Rattle.pure_theory_run.specs.Runs.{turns_left}
use Rattle.pure_theory_run.proofs.CheckerLaws.{IsOnTheWay}
use Rattle.pure_theory_run.proofs.checker.Checker.run_theory.Given as goal

-- the run is on its way
abbrev pub invariant-turns : goal.invariant-turns
invariant-turns l = IsOnTheWay l.fn.self.texts l.fn.self.theories l.fn.theory l.fn.duties.items l.duties.items l.run

abbrev pub decreases-turns : goal.decreases-turns
decreases-turns l = turns_left l.run
