use Rattle.std.proofs.Common.{◌≡◌, ◌+◌, ◌≤◌, map, drop}
use Rattle.pure_rows.specs.Counts.{row_count, AreRead}
use Rattle.pure_rows.proofs.run.hold_rows.Given as goal

abbrev pub invariant-loop-line : goal.invariant-loop-line
invariant-loop-line g l = record {
  rows : l.tally.rows + row_count (map (λ line. line.now) (drop l.line-index l.line-items)) ≤ row_count (map (λ line. line.now) l.line-items);
  read : l.tally.failed ≡ 0 → AreRead (map (λ line. line.now) (drop l.line-index l.line-items)) → AreRead (map (λ line. line.now) l.line-items);
}
