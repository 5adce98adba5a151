use Rattle.std.proofs.Common.{take_all}
use Rattle.pure_order_tables.proofs.RowLaws.{none_held}
use Rattle.pure_order_tables.proofs.SortLaws.{words_kept, words_put, words_start}
use Rattle.pure_order_tables.proofs.tables.Tables.up_words.Goals as goal
use Rattle.pure_order_tables.proofs.tables.Tables.up_words.Goals.{in-Some, in_default}

pub loop-class-init : goal.loop-class-init
loop-class-init c = words_start c.args.self.now c.args.classes.now _ (none_held 64)

pub loop-class-preserved : goal.loop-class-preserved
loop-class-preserved c = elim c.match-find_number.branch [
  | in-Some w ↦ rw w.words-is (words_put c.args.self.now c.args.classes.now c.loop-class.words w.put_words.new.words w.row_of.result.now c.loop-class.class-index c.class-item.result w.in-Some.number c.loop-class-test.true c.class-item.is w.in-Some.ensures w.row_of.ensures w.put_words.ensures c.loop-class.invariant)
  | in_default w ↦ rw w.words-is (words_kept c.args.self.now c.args.classes.now c.loop-class.words c.loop-class.class-index c.class-item.result c.loop-class-test.true c.class-item.is w.in_default.ensures c.loop-class.invariant)
]

pub returns : goal.returns
returns c = rw (take_all c.loop-class.class-index c.args.classes.now c.loop-class-test.false) at c.loop-class.invariant
