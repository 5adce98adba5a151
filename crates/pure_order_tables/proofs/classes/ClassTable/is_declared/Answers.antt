use Rattle.pure_text.proofs.AnswerLaws.{yes_as}
use Rattle.pure_order_tables.proofs.ClassTableLaws.{declared_by}
use Rattle.pure_order_tables.proofs.classes.ClassTable.is_declared.Goals as goal

pub returns-in-Some : goal.returns-in-Some
returns-in-Some c = yes_as _ (declared_by _ _ _ c.in-Some.ensures)
