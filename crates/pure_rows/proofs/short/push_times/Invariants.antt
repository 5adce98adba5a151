use Rattle.std.proofs.Common.{◌≡◌, ◌-◌, ◌++◌}
use Rattle.pure_rows.specs.Short.{repeated}
use Rattle.pure_rows.proofs.short.push_times.Given as goal

abbrev pub invariant-loop-done : goal.invariant-loop-done
invariant-loop-done l = l.text.items ++ repeated (l.times - l._done) l.piece ≡ l.fn.text.items ++ repeated l.times l.piece
