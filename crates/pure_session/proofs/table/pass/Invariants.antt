use Rattle.std.proofs.Common.{Bool}
use Rattle.std.specs.Global.{Vec}
use Rattle.std.specs.Vec.Iter.{into_iter_items}
use Rattle.pure_session.specs.Places.{IsJoined}
use Rattle.pure_session.proofs.TableLemmas.{GoesOn}
use Rattle.pure_session.proofs.table.pass.Given as goal

abbrev pub invariant-loop-row : goal.invariant-loop-row
invariant-loop-row l = GoesOn (λ (r s : Vec Bool). IsJoined l.through l.other.items r.items s.items) l.fn.rows.items (into_iter_items l.row-iterator) l.passed.items
