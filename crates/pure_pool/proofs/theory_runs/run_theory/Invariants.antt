use Rattle.pure_core_runs.specs.Seats.{forks_in}
use Rattle.pure_pool.specs.Held.{Theory}
use Rattle.pure_pool.specs.Seated.{Has, IsSameSeat}
use Rattle.pure_pool.proofs.theory_runs.run_theory.Given as goal

abbrev pub invariant-loop : goal.invariant-loop
invariant-loop g l =
    IsSameSeat l.fn.seat l.seat × Has g.W.Work.forks g.W.Work.closes g.W.Work.may g.W.Work.faults l.seat (Theory l.fn.theory) × g.W.Work.runs l.fn.work l.fn.theory (forks_in l.fn.theory l.seat.own) l.run
