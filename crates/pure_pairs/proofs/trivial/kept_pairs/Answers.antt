use Rattle.std.proofs.Common.{ap, ◌∙◌, take_all}
use Rattle.pure_pairs.specs.Trivial.{without_trivial}
use Rattle.pure_pairs.proofs.TrivialLaws.{kept_turn}
use Rattle.pure_pairs.proofs.trivial.kept_pairs.Goals as goal

pub loop-pair-preserved : goal.loop-pair-preserved
loop-pair-preserved c =
    kept_turn c.args.pairs.now c.loop-pair.pair-index c.pair-item.result c.loop-pair.kept.items c.keep.new.kept.items c.loop-pair-test.true c.pair-item.is c.loop-pair.invariant c.in_ok-keep.ensures

pub returns : goal.returns
returns c = c.loop-pair.invariant ∙ ap without_trivial (take_all c.loop-pair.pair-index c.args.pairs.now c.loop-pair-test.false)
