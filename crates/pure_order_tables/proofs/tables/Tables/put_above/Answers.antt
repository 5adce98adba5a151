use Rattle.pure_order_tables.proofs.TwiceLaws.{above_kept, above_put}
use Rattle.pure_order_tables.proofs.tables.Tables.put_above.Goals as goal

pub returns-in-Some : goal.returns-in-Some
returns-in-Some c s new before = above_put c.args.self.now s c.args.once.now.items c.args.twice.now.items c.put_row.new.row.items c.put_common.new.row.items c.row_of-row.result.now c.args.class c.in-Some.number new c.in-Some.ensures c.row_of-row.ensures
    (rw c.as_slice.ensures.value at c.put_common.ensures.held) c.put_common.ensures.count c.put_row.ensures.held c.put_row.ensures.count before

pub returns-in_default : goal.returns-in_default
returns-in_default c s new before = above_kept c.args.self.now s c.args.once.now.items c.args.twice.now.items c.args.class new c.in_default.ensures before
