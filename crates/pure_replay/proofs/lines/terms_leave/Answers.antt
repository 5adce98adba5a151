use Rattle.pure_replay.specs.Lines.{terms_size, most_size}
use Rattle.std.proofs.Common.{take}
use Rattle.pure_replay.proofs.RoomLaws.{sizes-turn, sizes-over, sizes-small, sizes-all}
use Rattle.pure_replay.proofs.lines.terms_leave.Goals as goal

pub term_leaves-requires : goal.term_leaves-requires
term_leaves-requires c = sizes-small c.loop-t.rest (terms_size (take c.loop-t.t-index c.args.terms.now)) c.args.left most_size c.loop-t.invariant c.requires

pub loop-t-preserved : goal.loop-t-preserved
loop-t-preserved c = sizes-turn c.args.terms.now c.loop-t.t-index c.t-item.result c.args.left c.loop-t.rest c.in-Some.less c.loop-t-test.true c.t-item.is c.loop-t.invariant c.in-Some.ensures

pub returns-in_default : goal.returns-in_default
returns-in_default c = sizes-over c.args.terms.now c.loop-t.t-index c.t-item.result c.args.left c.loop-t.rest c.loop-t-test.true c.t-item.is c.loop-t.invariant c.in_default.ensures

pub returns : goal.returns
returns c = sizes-all c.args.terms.now c.loop-t.t-index c.loop-t.rest c.args.left c.loop-t-test.false c.loop-t.invariant
