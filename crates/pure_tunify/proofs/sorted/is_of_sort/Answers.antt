use Rattle.std.proofs.Common.{Bool, true, false}
use Rattle.std.specs.Bool.{OnTrue}
use Rattle.pure_text.specs.Lists.{Each}
use Rattle.pure_definitions.specs.Types.Order.{IsSortBelow, IsOfSort}
use Rattle.pure_tunify.specs.declared.asks.Asked.{Asked}
use Rattle.pure_tunify.specs.Asks.{AreAsked}
use Rattle.pure_tunify.proofs.MeetLaws.{nothing_to_narrow}
use Rattle.pure_tunify.proofs.NarrowLaws.{of_no_classes}
use Rattle.pure_tunify.proofs.sorted.is_of_sort.Goals as goal

on_true_imply : (P Q : Type 0) (b : Bool) → (P → Q) → OnTrue b P → OnTrue b Q
on_true_imply P Q true f h = f h
on_true_imply P Q false f h = tt

pub returns-in-Some : goal.returns-in-Some
returns-in-Some c =
    let asked : AreAsked c.args.order.now c.args.t.now c.args.sort.now c.in-Some.asked.items = rw c.in-Some.is at c.in_ok-found.ensures.asked in
    on_true_imply (Each (λ (a : Asked). IsSortBelow c.args.order.now a.sort a.asked) c.as_slice.result.now) (IsOfSort c.args.order.now c.args.t.now c.args.sort.now) c.asks_no_more.result
    (λ below. nothing_to_narrow c.args.order.now c.args.t.now c.args.sort.now c.in-Some.asked.items asked (rw c.as_slice.ensures.value at below)) c.asks_no_more.ensures

pub returns-then-is_empty : goal.returns-then-is_empty
returns-then-is_empty c = of_no_classes c.args.order.now c.args.sort.now c.args.t.now c.classes.result.now c.is_empty.result c.classes.ensures.are c.is_empty.ensures c.if-is_empty.true
