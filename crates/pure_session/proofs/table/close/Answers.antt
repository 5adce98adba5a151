use Rattle.pure_session.specs.Places.{cells, is_marked}
use Rattle.pure_session.proofs.PathLemmas.{IsClosedBelow-none, IsClosedBelow-step}
use Rattle.pure_session.proofs.table.close.Goals as goal

pub loop-through-init : goal.loop-through-init
loop-through-init c = IsClosedBelow-none (is_marked (cells c.args.rows.items))

pub loop-through-preserved : goal.loop-through-preserved
loop-through-preserved c =
    IsClosedBelow-step (is_marked (cells c.args.rows.items)) (is_marked (cells c.loop-through.closed.items)) (is_marked (cells c.in_ok-next.next.items)) c.loop-through.through c.loop-through.invariant c.in_ok-next.ensures
