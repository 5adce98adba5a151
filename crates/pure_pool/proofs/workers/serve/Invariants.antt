use Rattle.pure_pool.specs.Held.{Nothing}
use Rattle.pure_pool.specs.Seated.{Has, IsSameSeat}
use Rattle.pure_pool.proofs.workers.serve.Given as goal

abbrev pub invariant-loop : goal.invariant-loop
invariant-loop g l =
    (goal.iterator-loop g).can_next l.iterator' × (goal.iterator-loop g).is_finite l.iterator'
    × IsSameSeat l.fn.seat l.seat × Has g.W.Work.forks g.W.Work.closes g.W.Work.may g.W.Work.faults l.seat Nothing
