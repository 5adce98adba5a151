use Rattle.pure_definitions.specs.Types.Order.{itself}
use Rattle.pure_text.proofs.AnswerLaws.{no_as, test_eq}
use Rattle.pure_order_tables.specs.Classes.{of_classes}
use Rattle.pure_order_tables.proofs.BelowLaws.{below-undeclared}
use Rattle.pure_order_tables.proofs.ClassTableLaws.{not_reached}
use Rattle.pure_order_tables.proofs.classes.ClassTable.below.Goals as goal

pub returns-in_default : goal.returns-in_default
returns-in_default c = (
  λ t. rw ((test_eq _ _ _ c.eq.ensures).0 t) itself,
  λ h. (test_eq _ _ _ c.eq.ensures).1 (below-undeclared (of_classes c.args.self.now) c.args.first c.args.second c.in_default.ensures h),
)

pub returns-in-None : goal.returns-in-None
returns-in-None c = no_as _ (not_reached c.args.self.now c.are_in_order.ensures c.args.first c.args.second c.in-Some.entry.now c.in-Some.ensures.0 c.in-Some.ensures.1 c.in-None.ensures)
