use Rattle.pure_citations.proofs.IndexLaws.{index-end}
use Rattle.pure_citations.proofs.index.index_of.Goals as goal

pub returns : goal.returns
returns c = index-end c.args.codes.now c.loop-place.index.last.items c.loop-place.index.before.items c.loop-place.place c.loop-place-test.false c.loop-place.invariant.1 c.loop-place.invariant.2
