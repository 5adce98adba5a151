use Rattle.pure_order_tables.specs.ArityView.{algebra_of}
use Rattle.pure_order_tables.proofs.ArityTableLaws.{table-one_class}
use Rattle.pure_order_tables.proofs.CoregularLaws.{push_keeps}
use Rattle.pure_order_tables.proofs.KeptLaws.{kept_more}
use Rattle.pure_order_tables.proofs.tables.Tables.push_class.Goals as goal

pub invariant_of-self-2 : goal.invariant_of-self-2
invariant_of-self-2 c = rw c.in_ok-push.ensures.ok (record {
  arities = table-one_class (algebra_of c.self.inside.classes c.self.inside.arities) c.args.self.now (record { name = c.args.class; above = c.args.above.now }) c.self.inside.slots c.self.view_is c.push.ensures.ordered c.requires.fresh c.self.invariant.arities;
  kept = kept_more c.self.inside.classes (record { name = c.args.class; above = c.args.above.now }) c.push.ensures.ordered (rw (← c.self.view_is) at c.requires.fresh) c.self.inside.arities c.self.invariant.kept;
})

pub returns-clause-coregular : goal.returns-clause-coregular
returns-clause-coregular c r = push_keeps (algebra_of c.self.inside.classes c.self.inside.arities) c.args.self.now (record { name = c.args.class; above = c.args.above.now }) c.push.new.self c.self.view_is c.in_ok-push.ensures.ok c.push.ensures.ordered c.requires.fresh c.self.invariant.arities.known r
