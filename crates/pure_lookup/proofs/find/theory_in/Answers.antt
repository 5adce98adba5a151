use Rattle.std.proofs.Common.{drop, ◌+◌}
use Rattle.pure_lookup.proofs.PlaceLemmas.{dot-split, no_dot-next}
use Rattle.pure_lookup.proofs.find.theory_in.Goals as goal

pub returns-then-byte-eq46 : goal.returns-then-byte-eq46
returns-then-byte-eq46 c = (drop (c.loop-at.at + 1) c.args.text.now, c.loop-at.invariant, dot-split c.args.text.now c.loop-at.at c.loop-at-test.true c.if-byte-eq46.true)

pub loop-at-preserved : goal.loop-at-preserved
loop-at-preserved c = no_dot-next c.args.text.now c.loop-at.at c.loop-at-test.true c.if-byte-eq46.false c.loop-at.invariant
