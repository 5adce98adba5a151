use Rattle.std.specs.Prelude.{reverse}
use Rattle.pure_tunify.proofs.PursueLaws.{goes_same}
use Rattle.pure_tunify.proofs.WorkLaws.{turn_old, goes_further, goes_never, goes_end, nothing_popped}
use Rattle.pure_tunify.proofs.pursue.pursue.Goals as goal

pub loop-init : goal.loop-init
loop-init c = goes_same c.args.order.now c.args.settings.now (reverse c.args.work.now.items)

pub turn-requires : goal.turn-requires
turn-requires c = turn_old c.args.order.now c.args.settings.now (reverse c.args.work.now.items) c.loop.settings c.loop.work.items c.pop.new.self.items c.in-Some.first c.in-Some.ensures.items c.loop.invariant c.requires

pub loop-preserved : goal.loop-preserved
loop-preserved c = goes_further c.args.order.now c.args.settings.now (reverse c.args.work.now.items) c.loop.settings c.turn.new.settings c.loop.work.items c.pop.new.self.items (reverse c.turn.new.work.items) c.in-Some.first c.in-Some.ensures.items c.loop.invariant (rw c.in-Further.is at c.in_ok-turned.ensures)

pub returns-in-Never : goal.returns-in-Never
returns-in-Never c = goes_never c.args.order.now c.args.settings.now (reverse c.args.work.now.items) c.loop.settings c.loop.work.items c.pop.new.self.items c.in-Some.first c.in-Some.ensures.items c.loop.invariant (rw c.in-Never.is at c.in_ok-turned.ensures)

pub returns-in_default : goal.returns-in_default
returns-in_default c = goes_end c.args.order.now c.args.settings.now (reverse c.args.work.now.items) c.loop.settings c.loop.work.items (nothing_popped c.loop.work.items c.pop.new.self.items _ c.in_default.ensures.cases.0 c.in_default.ensures.rest c.in_default.ensures.items) c.loop.invariant
