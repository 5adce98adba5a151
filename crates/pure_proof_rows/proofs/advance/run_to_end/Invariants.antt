use Rattle.pure_theory_run.specs.Method.Running.{Proves, steps_left}
use Rattle.pure_proof_rows.proofs.advance.run_to_end.Given as goal

abbrev pub invariant-loop-outcome : goal.invariant-loop-outcome
invariant-loop-outcome l = Proves l.names l.duty l.proving

abbrev pub decreases-loop-outcome : goal.decreases-loop-outcome
decreases-loop-outcome l = steps_left l.duty l.proving
