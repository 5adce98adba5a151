use Rattle.std.proofs.Common.{◌≡◌, Some, MatchOption, take}
use Rattle.std.specs.Ordering.{nat_cmp}
use Rattle.std.specs.FinMap.{FinMap, get}
use Rattle.pure_shared_maps.specs.View.{pairs_of, puts}
use Rattle.pure_shared_maps.proofs.map.last_found.Given as goal

abbrev pub invariant-loop-entry : goal.invariant-loop-entry
invariant-loop-entry g l = (m : FinMap nat_cmp _) → MatchOption l.found (get (puts m (pairs_of (take l.entry-index l.entries))) l.key ≡ get m l.key) (λ v. get (puts m (pairs_of (take l.entry-index l.entries))) l.key ≡ Some v.now)
