use Rattle.std.proofs.Common.{◌≡◌, take, take_all}
use Rattle.pure_text.proofs.ListLaws.{each_imply}
use Rattle.pure_text.proofs.LoopLaws.{each_turn}
use Rattle.pure_elab.specs.Table.{HasVariable}
use Rattle.pure_elab.proofs.SortLaws.{table_has_sorts}
use Rattle.pure_elab.proofs.sorts.table_of.Goals as goal

pub loop-entry-preserved : goal.loop-entry-preserved
loop-entry-preserved c = (
  c.in_ok-put_variable.ensures.entries c.loop-entry.invariant.0,
  each_turn (λ w. HasVariable c.put_variable.new.table.items w.variable) c.args.written.now c.loop-entry.entry-index c.entry-item.result c.loop-entry-test.true c.entry-item.is
      (each_imply (λ w. HasVariable c.loop-entry.table.items w.variable) (λ w. HasVariable c.put_variable.new.table.items w.variable) (take c.loop-entry.entry-index c.args.written.now) (λ w h. c.in_ok-put_variable.ensures.kept w.variable h) c.loop-entry.invariant.1)
      c.in_ok-put_variable.ensures.new,
)

pub returns : goal.returns
returns c =
    let all : take c.loop-entry.entry-index c.args.written.now ≡ c.args.written.now = take_all c.loop-entry.entry-index c.args.written.now c.loop-entry-test.false in
    table_has_sorts c.args.order.now c.args.written.now c.loop-entry.table.items c.loop-entry.invariant.0 (rw all at c.loop-entry.invariant.1)
