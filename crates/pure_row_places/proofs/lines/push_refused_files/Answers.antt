use Rattle.pure_row_places.proofs.LoopLaws.{refused-ended}
use Rattle.pure_row_places.proofs.lines.push_refused_files.Goals as goal

pub returns-then-place-rows : goal.returns-then-place-rows
returns-then-place-rows c = refused-ended _ c.args.rows.now c.loop-place.place c.loop-place.text.items _ c.if-place-rows.true c.loop-place.invariant
