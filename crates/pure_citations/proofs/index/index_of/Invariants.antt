use Rattle.std.proofs.Common.{◌≡◌, length}
use Rattle.pure_citations.specs.Index.{AreBefore, AreLast}
use Rattle.pure_citations.proofs.index.index_of.Given as goal

abbrev pub invariant-loop-place : goal.invariant-loop-place
invariant-loop-place l = (length l.index.before.items ≡ l.place) × AreLast l.codes l.index.last.items l.place × AreBefore l.codes l.index.before.items l.place
