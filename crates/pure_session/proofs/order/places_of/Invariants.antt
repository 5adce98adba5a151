use Rattle.std.proofs.Common.{◌≡◌, ◌++◌, map, drop}
use Rattle.pure_graph.specs.Graph.{other_than_pure}
use Rattle.pure_session.specs.Places.{place_in}
use Rattle.pure_session.proofs.order.places_of.Given as goal

abbrev pub invariant-loop-import : goal.invariant-loop-import
invariant-loop-import l = l.places.items ++ map (place_in l.names) (other_than_pure (drop l.import-index l.imports)) ≡ map (place_in l.names) (other_than_pure l.imports)
