use Rattle.pure_pool.proofs.SeatedLaws.{fresh-hand}
use Rattle.pure_pool.proofs.workers.serve_fresh.Goals as goal

pub serve-requires-clause-free : goal.serve-requires-clause-free
serve-requires-clause-free g c κs within = fresh-hand g.W.Work.shape g.W.Work.forks g.W.Work.closes g.W.Work.may g.W.Work.faults c.args.seat.now c.known.ensures c.requires.fresh
