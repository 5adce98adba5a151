use Rattle.std.proofs.Common.{List, [], take, take_all, sym, subst}
use Rattle.pure_text.specs.Lists.{Each, IsIn}
use Rattle.pure_definitions.specs.Types.Order.{Arity}
use Rattle.pure_text.proofs.ListLaws.{in-map, each_at, each_read, read_in}
use Rattle.pure_order_tables.specs.Arities.{IsKnown}
use Rattle.pure_order_tables.specs.ArityView.{arity_of, arities_of}
use Rattle.pure_order_tables.specs.Exposed.{IsExposed}
use Rattle.pure_order_tables.specs.Kept.{IsKeptEntry}
use Rattle.pure_order_tables.proofs.CoregularLaws.{one_more_arity}
use Rattle.pure_order_tables.proofs.ConflictLaws.{from_put, lacked_kept, lacked_put}
use Rattle.pure_order_tables.proofs.tables.Tables.exposed.Goals as goal
use Rattle.pure_order_tables.proofs.tables.Tables.exposed.Goals.{then-not-has_same+in_ok-expose+in_ok-push, else-not-has_same}

pub expose-requires-clause-kept : goal.expose-requires-clause-kept
expose-requires-clause-kept c = each_read (IsKeptEntry c.args.self.now.classes) c.args.arities.now c.loop-i.i c.get-arity.result.now (rw c.len-i-end.ensures at c.loop-i-test.true) c.get-arity.ensures c.requires.kept

pub expose-requires-clause-declared : goal.expose-requires-clause-declared
expose-requires-clause-declared c = (each_at (IsKnown c.args.self.now.classes) (arities_of c.args.arities.now) c.requires.known (arity_of c.get-arity.result.now) (in-map arity_of c.get-arity.result.now c.args.arities.now (read_in c.args.arities.now c.loop-i.i c.get-arity.result.now (rw c.len-i-end.ensures at c.loop-i-test.true) c.get-arity.ensures))).class

pub loop-i-preserved : goal.loop-i-preserved
loop-i-preserved c =
    let read = one_more_arity c.args.arities.now c.loop-i.i c.get-arity.result.now (rw c.len-i-end.ensures at c.loop-i-test.true) c.get-arity.ensures in
    elim c.if-not-has_same.branch [
      | then-not-has_same+in_ok-expose+in_ok-push w ↦ record {
        from = rw w.exposed-is (from_put c.args.self.now (record { classes = []; arities = arities_of c.args.arities.now }) c.args.other.now c.loop-i.exposed.items w.push.new.self.items _ (arity_of c.get-arity.result.now) w.in_ok-push.ensures.items
            (in-map arity_of c.get-arity.result.now c.args.arities.now (read_in c.args.arities.now c.loop-i.i c.get-arity.result.now (rw c.len-i-end.ensures at c.loop-i-test.true) c.get-arity.ensures))
            w.in_ok-expose.ensures c.loop-i.invariant.from);
        all = rw (read, w.exposed-is) (lacked_put c.args.self.now c.args.other.now c.loop-i.exposed.items w.push.new.self.items _ (arities_of (take c.loop-i.i c.args.arities.now)) (arity_of c.get-arity.result.now) w.in_ok-push.ensures.items w.in_ok-expose.ensures c.loop-i.invariant.all);
      }
      | else-not-has_same w ↦ record {
        from = rw w.exposed-is c.loop-i.invariant.from;
        all = rw (read, w.exposed-is) (lacked_kept c.args.self.now c.args.other.now c.loop-i.exposed.items (arities_of (take c.loop-i.i c.args.arities.now)) (arity_of c.get-arity.result.now) (c.has_same.ensures.0 w.if-not-has_same.false) c.loop-i.invariant.all);
      }
    ]

pub returns : goal.returns
returns c A are = record {
  from = (let P : List Arity → Type 0 = λ bs. Each (λ e. (a : Arity) × IsIn a bs × IsExposed c.args.self.now c.args.other.now a e) c.loop-i.exposed.items in subst P (sym are) c.loop-i.invariant.from);
  all = rw are (rw (take_all c.loop-i.i c.args.arities.now (rw c.len-i-end.ensures at c.loop-i-test.false)) at c.loop-i.invariant.all);
}
