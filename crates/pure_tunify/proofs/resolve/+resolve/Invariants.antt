use Rattle.std.proofs.Common.{◌≡◌, map, take}
use Rattle.pure_definitions.specs.Terms.Subst.{typ_instance}
use Rattle.pure_definitions.proofs.LeavesLemmas.{HasPut}
use Rattle.pure_tunify.specs.Settings.{composed}
use Rattle.pure_tunify.proofs.resolve.+resolve.Given as goal

abbrev pub decreases-resolve : goal.decreases-resolve
decreases-resolve l = l.room

abbrev pub invariant-loop-arg : goal.invariant-loop-arg
invariant-loop-arg l = record {
  put : HasPut (map (typ_instance (composed l.settings.sets)) l.args) l.left l.room l.arg-index l.rest;
  images : l.images.items ≡ map (typ_instance (composed l.settings.sets)) (take l.arg-index l.args);
}
