-- What runs are seen as.
use Rattle.std.specs.Prelude.{ℕ, List, [], ◌∷◌, Option, None, Some, map}
use Rattle.std.specs.Ordering.{nat_cmp}
use Rattle.std.specs.BTreeMap.{BTreeMap}
use Rattle.std.specs.FinMap.{FinMap, empty, from_entries, insert}
use Rattle.std.specs.declared.alloc.Global.{Global}
use Rattle.std.specs.declared.sync.Arc.{Arc}
use Rattle.std.specs.declared.vec.Vec.{Vec}
use Rattle.pure_shared_maps.specs.declared.entries.Entry.{Entry}

-- the key with the value behind its pointer
abbrev pub pair_of : {V : Type 0} → Entry V → ℕ × V
pair_of e = (e.key, e.value.value)

-- the pairs of a run, in their order
abbrev pub pairs_of : {V : Type 0} → List (Entry V) → List (ℕ × V)
pairs_of = map pair_of

-- the pairs of each run
abbrev pub runs_of : {V : Type 0} → List (Arc (Vec (Entry V) Global) Global) → List (List (ℕ × V))
runs_of = map (λ r. pairs_of r.value.items)

-- the values behind the pointers
abbrev pub values_of : {T : Type 0} → List (Arc T Global) → List T
values_of = map (λ a. a.value)

-- the elements of a front, if there is one
abbrev pub front_values : {T : Type 0} → Option (Arc (Vec (Arc T Global) Global) Global) → List T
front_values None = []
front_values (Some front) = values_of front.value.items

-- the map with these pairs put in, one after the other
abbrev pub puts : {V : Type 0} → FinMap nat_cmp V → List (ℕ × V) → FinMap nat_cmp V
puts m [] = m
puts m (p ∷ ps) = puts (insert m p.0 p.1) ps

-- the map with the values behind the pointers
abbrev pub map_of : {V : Type 0} → BTreeMap ℕ (Arc V Global) → FinMap nat_cmp V
map_of b = from_entries (map (λ e. (e.0, e.1.value)) b.entries)

-- the map of a front, if there is one
abbrev pub front_map : {V : Type 0} → Option (Arc (BTreeMap ℕ (Arc V Global)) Global) → FinMap nat_cmp V
front_map None = empty
front_map (Some front) = map_of front.value
