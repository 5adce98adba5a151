use Rattle.std.proofs.Common.{arith}
use Rattle.pure_tunify.proofs.WorkLaws.{pushed_next, pushed_end}
use Rattle.pure_tunify.proofs.meeting.push_arguments.Goals as goal

pub loop-rest-preserved : goal.loop-rest-preserved
loop-rest-preserved c = record {
  short = (let short = c.loop-rest.invariant.short in omega arith);
  pushed = pushed_next c.args.left.now c.args.right.now c.loop-rest.rest c.index-left-rest.result c.index-right-rest.result c.args.work.now.items c.loop-rest.work.items c.push_pair.new.work.items c.loop-rest-test.true c.loop-rest.invariant.short c.requires c.index-left-rest.is c.index-right-rest.is c.in_ok-push_pair.ensures c.loop-rest.invariant.pushed;
}

pub returns : goal.returns
returns c = pushed_end c.args.left.now c.args.right.now c.loop-rest.rest c.args.work.now.items c.loop-rest.work.items c.loop-rest-test.false c.loop-rest.invariant.pushed
