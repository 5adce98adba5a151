use Rattle.pure_board.specs.Taken.{IsGoalOf, state_seen}
use Rattle.pure_pool.specs.Held.{Proof}
use Rattle.pure_pool.specs.Seated.{Has, IsSameSeat}
use Rattle.pure_pool.proofs.proof_runs.run_proof.Given as goal

abbrev pub invariant-loop : goal.invariant-loop
invariant-loop g l =
    IsSameSeat l.fn.seat l.seat × Has g.W.Work.forks g.W.Work.closes g.W.Work.may g.W.Work.faults l.seat (Proof l.fn.number) × IsGoalOf (state_seen l.seat) l.fn.number l.fn.goal × g.W.Work.proves l.fn.work l.fn.goal l.proving
