use Rattle.std.proofs.Common.{◌≤◌, reverse}
use Rattle.pure_pattern_laws.specs.Steps.{start}
use Rattle.pure_pattern.specs.Followed.{IsFollowed}
use Rattle.pure_pattern.proofs.run.run.Given as goal

abbrev pub invariant-loop-done : goal.invariant-loop-done
invariant-loop-done l = IsFollowed l.fn.maxidx l.done (start (reverse l.fn.pairs.items)) (reverse l.held.pairs.items) l.held.binds.items × (l.done ≤ 10000)
