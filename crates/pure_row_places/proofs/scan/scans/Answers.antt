use Rattle.pure_row_places.specs.Scans.{IsScannedAs}
use Rattle.pure_row_places.proofs.LoopLaws.{two-more, two-all}
use Rattle.pure_row_places.proofs.scan.scans.Goals as goal

pub loop-theory-preserved : goal.loop-theory-preserved
loop-theory-preserved c =
    two-more IsScannedAs c.args.theories.now c.loop-theory.theory-index _ c.loop-theory.found.items _ _ c.loop-theory-test.true c.theory-item.is c.loop-theory.invariant c.in_ok-scanned.ensures c.in_ok-push.ensures.items

pub returns : goal.returns
returns c = two-all IsScannedAs c.args.theories.now c.loop-theory.theory-index c.loop-theory.found.items c.loop-theory-test.false c.loop-theory.invariant
