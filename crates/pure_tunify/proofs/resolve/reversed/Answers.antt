use Rattle.std.proofs.Common.{arith}
use Rattle.pure_tunify.proofs.WritingLaws.{reversed_next, reversed_absent}
use Rattle.pure_tunify.proofs.resolve.reversed.Goals as goal

pub push-requires : goal.push-requires
push-requires c = reversed_absent c.args.binds.now c.loop-left.map c.loop-left.left c.index-binds-left.result c.in_ok-entry.entry c.loop-left-test.true c.loop-left.invariant.short c.index-binds-left.is c.in_ok-entry.ensures c.loop-left.invariant.out c.requires

pub loop-left-preserved : goal.loop-left-preserved
loop-left-preserved c = record {
  out = reversed_next c.args.binds.now c.loop-left.map c.push.new.self c.loop-left.left c.index-binds-left.result c.in_ok-entry.entry c.loop-left-test.true c.loop-left.invariant.short c.index-binds-left.is c.in_ok-entry.ensures c.loop-left.invariant.out c.in_ok-push.ensures;
  short = (let short = c.loop-left.invariant.short in omega arith);
}
