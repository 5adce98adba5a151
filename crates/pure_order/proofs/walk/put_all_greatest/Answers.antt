use Rattle.pure_order_tables.specs.Rows.{Holds}
use Rattle.pure_text.proofs.AnswerLaws.{test_fails}
use Rattle.pure_order.proofs.WalkLaws.{asks_none, asks_turn, asks_skip, asks_all}
use Rattle.pure_order.proofs.walk.put_all_greatest.Goals as goal

pub loop-place-preserved-then-not-contains : goal.loop-place-preserved-then-not-contains
loop-place-preserved-then-not-contains c = asks_skip c.args.tables.now c.args.con c.args.count c.args.index c.loop-place.place c.args.places.now c.args.next.now c.loop-place.next
    (test_fails (Holds c.args.places.now c.loop-place.place) c.contains.result c.contains.ensures c.if-not-contains.true) c.loop-place.invariant

pub loop-place-preserved : goal.loop-place-preserved
loop-place-preserved c = asks_turn c.args.tables.now c.args.con c.args.count c.args.index c.loop-place.place c.args.places.now c.args.next.now c.loop-place.next c.put_greatest.new.places c.domain.result.now c.domain.ensures
    (c.contains.ensures.0 c.if-not-contains.false) c.loop-place.invariant c.if-not-put_greatest.ensures

pub returns : goal.returns
returns c = asks_all c.args.tables.now c.args.con c.args.count c.args.index c.end-place-end.result c.loop-place.place c.args.places.now c.args.next.now c.loop-place.next c.end-place-end.ensures c.loop-place-test.false c.loop-place.invariant

pub loop-place-init : goal.loop-place-init
loop-place-init c = asks_none c.args.tables.now c.args.con c.args.count c.args.index c.start-place.result c.args.places.now c.args.next.now c.start-place.ensures c.requires.next
