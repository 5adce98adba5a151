use Rattle.std.proofs.Common.{◌≡◌, [], take, take_all, arith}
use Rattle.pure_elab.specs.Written.{classes_at}
use Rattle.pure_elab.proofs.SortLaws.{classes_turn, no_classes}
use Rattle.pure_elab.proofs.sorts.union_at.Goals as goal

pub loop-entry-init : goal.loop-entry-init
loop-entry-init c = let bare : c.empty-sort.result ≡ [] = grind arith in no_classes c.empty-sort.result bare

pub loop-entry-preserved : goal.loop-entry-preserved
loop-entry-preserved c =
    let more = c.in_ok-sort.ensures (classes_at (take c.loop-entry.entry-index c.args.written.now) c.args.name) c.loop-entry.invariant in
    rw (classes_turn c.args.written.now c.loop-entry.entry-index c.entry-item.result c.args.name c.loop-entry-test.true c.entry-item.is) more

pub returns : goal.returns
returns c = rw (take_all c.loop-entry.entry-index c.args.written.now c.loop-entry-test.false) at c.loop-entry.invariant
