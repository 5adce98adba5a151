use Rattle.std.proofs.Common.{◌≡◌, take}
use Rattle.pure_shared_maps.specs.View.{map_of, pairs_of, puts}
use Rattle.pure_shared_maps.proofs.map.put_entries.Given as goal

abbrev pub invariant-loop-entry : goal.invariant-loop-entry
invariant-loop-entry g l = map_of l.all ≡ puts (map_of l.fn.all) (pairs_of (take l.entry-index l.entries))
