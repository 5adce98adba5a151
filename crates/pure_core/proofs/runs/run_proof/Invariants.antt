use Rattle.std.proofs.Common.{◌≡◌}
use Rattle.pure_core.proofs.runs.run_proof.Given as goal

abbrev pub invariant-loop : goal.invariant-loop
invariant-loop g l = (l.core ≡ l.fn.core) × g.W.Work.proves l.fn.work l.fn.goal l.proving
