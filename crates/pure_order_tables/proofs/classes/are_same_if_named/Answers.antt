use Rattle.pure_order_tables.specs.ClassView.{class_of}
use Rattle.pure_order_tables.proofs.AgreeLaws.{same_if_named, named_alike}
use Rattle.pure_order_tables.proofs.classes.are_same_if_named.Goals as goal

pub returns-else-ne : goal.returns-else-ne
returns-else-ne c = same_if_named (class_of c.args.first.now) (class_of c.args.second.now) c.eq.result (named_alike _ _ c.ne.result c.ne.ensures c.if-ne.false) (rw (c.as_slice.ensures.value, c.as_slice-else-ne.ensures.value) at c.eq.ensures)
