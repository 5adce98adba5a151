use Rattle.std.proofs.Common.{◌∙◌, refl, ap, take_all}
use Rattle.pure_definitions.specs.Types.Order.{Algebra}
use Rattle.pure_text.proofs.AnswerLaws.{test_fails}
use Rattle.pure_order_tables.proofs.OtherLaws.{others_none}
use Rattle.pure_order_tables.proofs.UnionLaws.{above_known, union_kept, union_put}
use Rattle.pure_order_tables.proofs.tables.Tables.with_classes.Goals as goal
use Rattle.pure_order_tables.proofs.tables.Tables.with_classes.Goals.{then-not-is_declared+in_ok-tables, else-not-is_declared}

pub with_class-requires-clause-known : goal.with_class-requires-clause-known
with_class-requires-clause-known c = rw c.as_slice.ensures.value (above_known c.loop-i.tables.classes c.args.self.classes c.args.entries.now c.loop-i.i c.get-entry.result.now (rw c.len-i-end.ensures at c.loop-i-test.true) c.get-entry.ensures c.requires.ordered c.loop-i.invariant.classes)

pub loop-i-init : goal.loop-i-init
loop-i-init c = record { classes = others_none c.args.self.classes; arities = refl }

pub loop-i-preserved : goal.loop-i-preserved
loop-i-preserved c = elim c.if-not-is_declared.branch [
  | then-not-is_declared+in_ok-tables w ↦ record {
    classes = rw w.tables-is (union_put c.loop-i.tables.classes w.in_ok-tables.tables.classes c.args.self.classes c.args.entries.now c.loop-i.i c.get-entry.result.now (rw c.len-i-end.ensures at c.loop-i-test.true) c.get-entry.ensures
        (rw w.as_slice.ensures.value at (ap (λ (A : Algebra). A.classes) w.in_ok-tables.ensures)) (test_fails _ c.is_declared.result c.is_declared.ensures w.if-not-is_declared.true) c.loop-i.invariant.classes);
    arities = rw w.tables-is (ap (λ (A : Algebra). A.arities) w.in_ok-tables.ensures ∙ c.loop-i.invariant.arities);
  }
  | else-not-is_declared w ↦ record {
    classes = rw w.tables-is (union_kept c.loop-i.tables.classes c.args.self.classes c.args.entries.now c.loop-i.i c.get-entry.result.now (rw c.len-i-end.ensures at c.loop-i-test.true) c.get-entry.ensures c.requires.ordered c.requires.agree (c.is_declared.ensures.0 w.if-not-is_declared.false) c.loop-i.invariant.classes);
    arities = rw w.tables-is c.loop-i.invariant.arities;
  }
]

pub returns-clause-classes : goal.returns-clause-classes
returns-clause-classes c = rw (take_all c.loop-i.i c.args.entries.now (rw c.len-i-end.ensures at c.loop-i-test.false)) at c.loop-i.invariant.classes
