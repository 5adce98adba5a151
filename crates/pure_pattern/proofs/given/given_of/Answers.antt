use Rattle.std.specs.Vec.Iter.{into_iter_items}
use Rattle.pure_pattern_laws.specs.Steps.{given_binds}
use Rattle.pure_pattern.proofs.GivenLaws.{given-more}
use Rattle.pure_pattern.proofs.given.given_of.Goals as goal

pub loop-bind-preserved : goal.loop-bind-preserved
loop-bind-preserved c =
    rw (c.in_ok-add_given.ensures) (given-more c.args.pairs.now c.loop-bind.given.items (into_iter_items c.loop-bind.bind-iterator) (into_iter_items c.next.new.self) (given_binds c.args.pairs.now c.args.binds.items) c.in-Some.bind c.loop-bind.invariant c.in-Some.ensures.steps.0)
