use Rattle.std.proofs.Common.{◌≡◌, ◌++◌, take}
use Rattle.pure_graph.proofs.ListingLemmas.{HasTheories}
use Rattle.pure_graph.proofs.listing.theories_of.Given as goal

abbrev pub invariant-loop-name : goal.invariant-loop-name
invariant-loop-name l = HasTheories l.found (take l.name-index l.names)

abbrev pub invariant-loop-theory : goal.invariant-loop-theory
invariant-loop-theory l = l.theories.items ++ l.theory-iterator ≡ l.initial.theory-iterator
