use Rattle.std.proofs.Common.{map}
use Rattle.pure_definitions.specs.Terms.Subst.{typ_instance}
use Rattle.pure_definitions.proofs.LeavesLemmas.{HasPut}
use Rattle.pure_tunify.specs.Settings.{composed}
use Rattle.pure_tunify.proofs.resolve.+resolved_leaves.Given as goal

abbrev pub decreases-resolved_leaves : goal.decreases-resolved_leaves
decreases-resolved_leaves l = l.room

abbrev pub invariant-loop-arg : goal.invariant-loop-arg
invariant-loop-arg l = HasPut (map (typ_instance (composed l.settings.sets)) l.args) l.left l.room l.arg-index l.rest
