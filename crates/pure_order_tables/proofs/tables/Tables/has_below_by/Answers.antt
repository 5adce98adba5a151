use Rattle.pure_text.proofs.AnswerLaws.{yes_as, no_as, test_fails}
use Rattle.pure_text.proofs.ListLaws.{any_of}
use Rattle.pure_definitions.specs.Types.Order.{IsClassBelow, itself}
use Rattle.pure_order_tables.proofs.SortLaws.{below_by_none, below_by_number}
use Rattle.pure_order_tables.proofs.tables.Tables.has_below_by.Goals as goal

pub returns-then-has : goal.returns-then-has
returns-then-has c = yes_as _ (any_of (λ b. IsClassBelow c.args.self.now b c.args.class) c.args.class c.args.sort.now (rw c.classes.ensures.are at (c.has.ensures.0 c.if-has.true)) itself)

pub returns-in-None : goal.returns-in-None
returns-in-None c = no_as _ (below_by_none c.args.self.now c.are_in_order.ensures.ordered c.args.sort.now c.args.class (rw c.classes.ensures.are at (test_fails _ c.has.result c.has.ensures c.if-has.false)) c.in-None.ensures)

pub returns-in-Some : goal.returns-in-Some
returns-in-Some c = below_by_number c.args.self.now c.args.sort.now c.args.words.now c.args.class c.in-Some.number c.holds.result c.requires.within c.requires.words (rw c.classes.ensures.are at (test_fails _ c.has.result c.has.ensures c.if-has.false)) c.in-Some.ensures c.holds.ensures
