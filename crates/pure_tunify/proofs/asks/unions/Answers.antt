use Rattle.std.proofs.Common.{take, ◌+◌}
use Rattle.pure_tunify.specs.Asks.{AreUnions}
use Rattle.pure_tunify.proofs.AskLaws.{unions_turn}
use Rattle.pure_tunify.proofs.asks.unions.Goals as goal

pub loop-i-preserved : goal.loop-i-preserved
loop-i-preserved c =
    let next : AreUnions (take (c.loop-i.i + 1) c.args.left.now) (take (c.loop-i.i + 1) c.args.right.now) c.push.new.self.items =
    rw c.in_ok-push.ensures.items (unions_turn c.args.left.now c.args.right.now c.loop-i.sorts.items c.loop-i.i c.index-left-i.result c.index-right-i.result c.in_ok-union.field-0
    c.requires c.loop-i-test.true c.index-left-i.is c.index-right-i.is c.loop-i.invariant c.in_ok-union.ensures) in
    next
