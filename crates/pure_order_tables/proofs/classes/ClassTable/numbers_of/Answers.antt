use Rattle.std.proofs.Common.{◌∙◌, ℕ, refl, inl, take_all}
use Rattle.pure_text.proofs.ListLaws.{each_read, read_in}
use Rattle.pure_text.proofs.LoopLaws.{each_turn}
use Rattle.pure_order_tables.specs.Classes.{IsDeclared}
use Rattle.pure_order_tables.specs.ClassTable.{IsNumber}
use Rattle.pure_order_tables.specs.Rows.{Holds}
use Rattle.pure_order_tables.proofs.ClassTableLaws.{number_each, number_only}
use Rattle.pure_order_tables.proofs.classes.ClassTable.numbers_of.Goals as goal
use Rattle.pure_order_tables.proofs.classes.ClassTable.numbers_of.Goals.{in-Some, in_default}

pub loop-class-preserved : goal.loop-class-preserved
loop-class-preserved c = elim c.match-number.branch [
  | in-Some w ↦ record {
    count = rw w.row-is (w.put_place.ensures.count ∙ c.loop-class.invariant.count);
    only = rw w.row-is (number_only c.args.self.now c.args.classes.now c.loop-class.row.items w.put_place.new.row.items c.class-item.result w.in-Some.number (read_in c.args.classes.now c.loop-class.class-index c.class-item.result c.loop-class-test.true c.class-item.is) w.in-Some.ensures w.put_place.ensures.held c.loop-class.invariant.only);
    each = rw w.row-is (each_turn (λ d. (n : ℕ) × IsNumber c.args.self.now d n × Holds w.put_place.new.row.items n) c.args.classes.now c.loop-class.class-index c.class-item.result c.loop-class-test.true c.class-item.is
        (number_each c.args.self.now _ c.loop-class.row.items w.put_place.new.row.items w.in-Some.number w.put_place.ensures.held c.loop-class.invariant.each)
        (w.in-Some.number, w.in-Some.ensures, (w.put_place.ensures.held w.in-Some.number).1 (inl refl)));
  }
  | in_default w ↦ absurd (w.in_default.ensures (each_read (IsDeclared c.args.self.now) c.args.classes.now c.loop-class.class-index c.class-item.result c.loop-class-test.true c.class-item.is c.requires))
]

pub returns : goal.returns
returns c = record {
  only = c.loop-class.invariant.only;
  each = rw (take_all c.loop-class.class-index c.args.classes.now c.loop-class-test.false) at c.loop-class.invariant.each;
}
