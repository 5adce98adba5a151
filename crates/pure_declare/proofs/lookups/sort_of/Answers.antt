use Rattle.std.proofs.Common.{◌≡◌, [], take, take_all, arith}
use Rattle.pure_text.proofs.LoopLaws.{longer_by}
use Rattle.pure_elab.proofs.SortLaws.{no_classes, one_class_more}
use Rattle.pure_declare.proofs.lookups.sort_of.Goals as goal

pub loop-class-init : goal.loop-class-init
loop-class-init c = let bare : c.empty-sort.result ≡ [] = grind arith in no_classes c.empty-sort.result bare

pub loop-class-preserved : goal.loop-class-preserved
loop-class-preserved c =
    one_class_more (take c.loop-class.class-index c.args.classes.now) _ c.loop-class.sort c.in_ok-sort.sort c.class-item.result c.loop-class.invariant c.in_ok-sort.ensures
    (longer_by c.args.classes.now c.loop-class.class-index c.class-item.result c.loop-class-test.true c.class-item.is)

pub returns : goal.returns
returns c = rw (take_all c.loop-class.class-index c.args.classes.now c.loop-class-test.false) at c.loop-class.invariant
