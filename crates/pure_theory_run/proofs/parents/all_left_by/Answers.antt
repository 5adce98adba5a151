use Rattle.pure_theory_run.specs.Outline.{outlines}
use Rattle.std.proofs.Common.{◌≤◌, length}
use Rattle.pure_theory_run.proofs.PlaceLaws.{each-get}
use Rattle.pure_theory_run.proofs.CheckerLaws.{left-turn}
use Rattle.pure_theory_run.proofs.parents.all_left_by.Goals as goal

pub loop-index-preserved : goal.loop-index-preserved
loop-index-preserved c =
    left-turn (outlines c.args.closed.now) c.args.indexes.now c.loop-index.index-index c.loop-index.values.items c.push.new.self.items c.in_ok-left_by.field-0 c.loop-index-test.true c.in_ok-left_by.ensures c.in_ok-push.ensures.items c.loop-index.invariant

pub left_by-requires : goal.left_by-requires
left_by-requires c = each-get (λ p. (1 ≤ p) × (p ≤ length c.args.closed.now)) c.args.indexes.now 0 c.loop-index.index-index c.requires c.loop-index-test.true
