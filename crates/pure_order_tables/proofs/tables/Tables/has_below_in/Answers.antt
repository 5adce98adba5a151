use Rattle.pure_text.proofs.AnswerLaws.{no_as}
use Rattle.pure_order_tables.proofs.KeptLaws.{class_in_row, class_not_in_row}
use Rattle.pure_order_tables.proofs.tables.Tables.has_below_in.Goals as goal

pub returns-in-None : goal.returns-in-None
returns-in-None c s h = no_as _ (class_not_in_row c.args.self.now c.are_in_order.ensures.ordered s c.args.row.now c.args.class c.in-None.ensures h)

pub returns-in-Some : goal.returns-in-Some
returns-in-Some c s h = class_in_row c.args.self.now s c.args.row.now c.args.class c.in-Some.number c.holds.result c.in-Some.ensures c.holds.ensures h
