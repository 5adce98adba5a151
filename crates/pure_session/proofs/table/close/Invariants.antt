use Rattle.pure_session.specs.Places.{cells, is_marked}
use Rattle.pure_session.proofs.PathLemmas.{IsClosedBelow}
use Rattle.pure_session.proofs.table.close.Given as goal

abbrev pub invariant-loop-through : goal.invariant-loop-through
invariant-loop-through l = IsClosedBelow (is_marked (cells l.fn.rows.items)) l.through (is_marked (cells l.closed.items))
