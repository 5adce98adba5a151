use Rattle.std.specs.Vec.Iter.{into_iter_items}
use Rattle.pure_session.proofs.TableLemmas.{GoesOn}
use Rattle.pure_check_work.specs.Cancelled.{IsHeldOf}
use Rattle.pure_check_work.proofs.entries.entries.Given as goal

-- the entries so far are those of the promises that were taken
abbrev pub invariant-loop-promise : goal.invariant-loop-promise
invariant-loop-promise l = GoesOn IsHeldOf l.fn.promises.items (into_iter_items l.promise-iterator) l.entries.items
