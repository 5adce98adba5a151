use Rattle.pure_text.proofs.AnswerLaws.{no_as}
use Rattle.pure_order_tables.proofs.TwiceLaws.{another_by_none, another_by_number}
use Rattle.pure_order_tables.proofs.tables.Tables.is_in_twice.Goals as goal

pub returns-in-None : goal.returns-in-None
returns-in-None c = no_as _ (another_by_none c.args.self.now c.are_in_order.ensures.ordered c.args.s.now c.args.class c.in-None.ensures)

pub returns-in-Some : goal.returns-in-Some
returns-in-Some c = another_by_number c.args.self.now c.args.s.now c.args.twice.now c.args.class c.in-Some.number c.holds.result c.requires.member c.requires.twice c.requires.some c.in-Some.ensures c.holds.ensures
