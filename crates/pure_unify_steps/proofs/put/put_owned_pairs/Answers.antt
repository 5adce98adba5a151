use Rattle.std.proofs.Common.{arith}
use Rattle.std.specs.Vec.Iter.{into_iter_items}
use Rattle.pure_unify_steps.proofs.LoopLaws.{onto_start, onto_next, onto_more, onto_fault, onto_all}
use Rattle.pure_unify_steps.proofs.put.put_owned_pairs.Goals as goal

pub loop-pair-init : goal.loop-pair-init
loop-pair-init c = onto_start c.args.setting.now c.args.pairs.items (into_iter_items c.into_iter-pair-iterator.result) c.new-made.result.items c.into_iter-pair-iterator.ensures.into_iter_gives.0 c.new-made.ensures.items c.requires.long

pub put_owned_pair-requires-clause-long : goal.put_owned_pair-requires-clause-long
put_owned_pair-requires-clause-long c = onto_next c.args.setting.now c.args.pairs.items (into_iter_items c.loop-pair.pair-iterator) (into_iter_items c.next.new.self) c.loop-pair.made.items c.in-Some.pair c.in-Some.ensures.steps.0 c.loop-pair.invariant

pub loop-pair-preserved : goal.loop-pair-preserved
loop-pair-preserved c =
    onto_more c.args.setting.now c.args.pairs.items (into_iter_items c.loop-pair.pair-iterator) (into_iter_items c.next.new.self) c.loop-pair.made.items c.add_pair.new.list.items c.in-Some.pair c.in-Ok.one
    c.in-Some.ensures.steps.0 c.in_ok-add_pair-in-Ok.ensures c.in-Ok.ensures.answer c.in-Ok.ensures.long c.loop-pair.invariant

pub returns-in-Err-clause-fault : goal.returns-in-Err-clause-fault
returns-in-Err-clause-fault c =
    onto_fault c.args.setting.now c.args.pairs.items (into_iter_items c.loop-pair.pair-iterator) (into_iter_items c.next.new.self) c.loop-pair.made.items c.in-Some.pair c.in-Err.fault
    c.in-Some.ensures.steps.0 c.in-Err.ensures.answer c.loop-pair.invariant

pub returns-clause-ok : goal.returns-clause-ok
returns-clause-ok c =
    onto_all c.args.setting.now c.args.pairs.items (into_iter_items c.loop-pair.pair-iterator) c.loop-pair.made.items (omega (arith, c.loop-pair.pair-iterator.rest.ok.0, c.in-None.ensures.steps.0)) c.loop-pair.invariant
