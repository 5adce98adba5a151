use Rattle.pure_order_tables.specs.ArityView.{algebra_of}
use Rattle.pure_order_tables.proofs.ArityTableLaws.{table-one_class}
use Rattle.pure_order_tables.proofs.KeptLaws.{kept_more}
use Rattle.pure_order_tables.proofs.tables.Tables.with_class.Goals as goal

pub invariant_of-result : goal.invariant_of-result
invariant_of-result c = rw c.in_ok-more.ensures.ok (record {
  arities = table-one_class (algebra_of c.self.inside.classes c.self.inside.arities) c.args.self (record { name = c.args.class; above = c.args.above.now }) c.self.inside.slots c.self.view_is c.in_ok-more.ensures.ordered c.requires.fresh c.self.invariant.arities;
  kept = kept_more c.self.inside.classes (record { name = c.args.class; above = c.args.above.now }) c.in_ok-more.ensures.ordered (rw (← c.self.view_is) at c.requires.fresh) c.self.inside.arities c.self.invariant.kept;
})
