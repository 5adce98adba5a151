use Rattle.std.proofs.Common.{◌≡◌, take}
use Rattle.pure_unify.proofs.child.term_map_copy.Given as goal

abbrev pub invariant-loop-bind : goal.invariant-loop-bind
invariant-loop-bind l = l.binds.items ≡ take l.bind-index l.given
