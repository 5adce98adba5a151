use Rattle.pure_machine.specs.State.{Stop}
use Rattle.pure_pool.proofs.SeatedLaws.{stop-ends, enters-same}
use Rattle.pure_pool.proofs.TurnLaws.{same-then}
use Rattle.pure_pool.proofs.workers.serve.Goals as goal

pub returns-in-Err : goal.returns-in-Err
returns-in-Err g c =
    let some = c.in-Err.ensures.err in
    let stopped = c.stop.ensures.stopped in
    record {
      same = same-then c.args.seat.now c.turn.new.seat c.stop.new.seat (same-then c.args.seat.now c.loop.seat c.turn.new.seat c.loop.invariant.2 c.turn.ensures.seat) (enters-same g.W.Work.shape g.W.Work.forks g.W.Work.closes g.W.Work.may g.W.Work.faults c.turn.new.seat c.stop.new.seat stopped.0 Stop stopped.1);
      served = stop-ends g.W.Work.shape g.W.Work.forks g.W.Work.closes g.W.Work.may g.W.Work.faults c.turn.new.seat c.stop.new.seat stopped.0 some.0 some.1 c.stop.ensures.known stopped.1;
    }
