use Rattle.std.proofs.Common.{arith}
use Rattle.pure_show.proofs.LineLaws.{name-more, names-end}
use Rattle.pure_show.proofs.step.push_names.Goals as goal

pub loop-place-preserved : goal.loop-place-preserved
loop-place-preserved c = name-more c.args.names.now c.loop-place.place c.at.result.now c.at.ensures _ _ _ c.in_ok-push_name.ensures c.loop-place.invariant

pub returns : goal.returns
returns c = names-end c.args.names.now c.loop-place.place (omega (arith, c.loop-place-test.false, c.len-place-end.ensures)) _ _ c.loop-place.invariant
