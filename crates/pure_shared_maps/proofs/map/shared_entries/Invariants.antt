use Rattle.std.proofs.Common.{◌≡◌, take}
use Rattle.pure_shared_maps.specs.View.{pairs_of}
use Rattle.pure_shared_maps.proofs.map.shared_entries.Given as goal

abbrev pub invariant-loop-entry : goal.invariant-loop-entry
invariant-loop-entry g l = pairs_of l.copies.items ≡ pairs_of (take l.entry-index l.entries)
