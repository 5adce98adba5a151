use Rattle.pure_order_tables.proofs.KeptLaws.{from_words, rows_below}
use Rattle.std.proofs.Common.{◌≤◌, length}
use Rattle.pure_order_tables.proofs.tables.Tables.is_below_row_of.Goals as goal

pub returns : goal.returns
returns c =
    let most : length c.args.self.now.classes ≤ 4096 = rw c.class_count.ensures at c.if-class_count-gt-MOST.false in
    rows_below c.args.self.now c.args.first.now c.args.second.now c.up_words-words.result c.args.row.now c.within.result (from_words c.args.self.now c.args.first.now c.up_words-words.result most (rw c.classes.ensures.are at c.up_words-words.ensures)) c.requires c.within.ensures
