use Rattle.std.proofs.Common.{◌%◌, length}
use Rattle.pure_machine.proofs.BucketLaws.{none_empty, empty_more}
use Rattle.pure_machine.proofs.buckets.all_empty.Goals as goal

pub loop-alloc-init : goal.loop-alloc-init
loop-alloc-init g c = none_empty _ c.in_ok-list.ensures.items

pub loop-alloc-preserved : goal.loop-alloc-preserved
loop-alloc-preserved g c = empty_more c.loop-alloc.list.items _ _ c.new.ensures.items c.in_ok-push.ensures.items c.loop-alloc.invariant

pub returns-clause-empty : goal.returns-clause-empty
returns-clause-empty g c key = c.loop-alloc.invariant (key % length c.loop-alloc.list.items)
