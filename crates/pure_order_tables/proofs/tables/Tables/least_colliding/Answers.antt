use Rattle.pure_order_tables.specs.ArityView.{arity_of, arities_of}
use Rattle.std.proofs.Common.{take}
use Rattle.pure_text.proofs.ListLaws.{each_read}
use Rattle.pure_order_tables.specs.Kept.{IsKeptEntry}
use Rattle.pure_order_tables.specs.Uncovered.{Clears}
use Rattle.pure_order_tables.proofs.CoregularLaws.{declared_read, found_pass, found_fail, one_more_arity}
use Rattle.pure_order_tables.proofs.tables.Tables.least_colliding.Goals as goal
use Rattle.pure_order_tables.proofs.tables.Tables.least_colliding.Goals.{then-collides, else-collides}

pub collides-requires-clause-second : goal.collides-requires-clause-second
collides-requires-clause-second c = each_read (IsKeptEntry c.args.self.now.classes) c.arities-arities.result.now c.loop-i.i c.get-other.result.now (rw c.len-i-end.ensures at c.loop-i-test.true) c.get-other.ensures c.arities-arities.ensures.kept

pub collides-requires-clause-declared : goal.collides-requires-clause-declared
collides-requires-clause-declared c = declared_read c.args.self.now.classes c.arities-arities.result.now c.args.self.now.arities c.loop-i.i c.get-other.result.now (rw c.len-i-end.ensures at c.loop-i-test.true) c.get-other.ensures c.arities-arities.ensures.are c.arities-arities.ensures.known

pub loop-i-preserved : goal.loop-i-preserved
loop-i-preserved c =
    rw (one_more_arity c.arities-arities.result.now c.loop-i.i c.get-other.result.now (rw c.len-i-end.ensures at c.loop-i-test.true) c.get-other.ensures)
    (elim c.if-collides.branch [
      | then-collides w ↦ rw w.least-is (found_fail (Clears c.args.self.now (arity_of c.args.arity.now) c.args.uncovered.now) c.args.arity.now.con (arities_of (take c.loop-i.i c.arities-arities.result.now)) c.loop-i.least (arity_of c.get-other.result.now) w.lesser.result w.if-collides.ensures w.lesser.ensures.within w.lesser.ensures.one c.loop-i.invariant)
      | else-collides w ↦ rw w.least-is (found_pass (Clears c.args.self.now (arity_of c.args.arity.now) c.args.uncovered.now) c.args.arity.now.con (arities_of (take c.loop-i.i c.arities-arities.result.now)) c.loop-i.least (arity_of c.get-other.result.now) w.if-collides.ensures c.loop-i.invariant)
    ])
