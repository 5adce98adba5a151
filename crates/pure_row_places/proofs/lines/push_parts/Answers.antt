use Rattle.pure_row_places.specs.Scans.{seen_scan}
use Rattle.pure_row_places.proofs.LoopLaws.{parts-ended}
use Rattle.pure_row_places.proofs.lines.push_parts.Goals as goal

pub returns-then-place-rows-clause-text : goal.returns-then-place-rows-clause-text
returns-then-place-rows-clause-text c =
    parts-ended (seen_scan c.args.theory.now) _ c.args.rows.now c.loop-place.place c.loop-place.text.items _ c.if-place-rows.true c.loop-place.invariant.0
