use Rattle.std.proofs.Common.{◌≡◌, map, take}
use Rattle.pure_definitions.specs.Terms.Subst.{typ_instance}
use Rattle.pure_tunify.specs.Settings.{composed}
use Rattle.pure_tunify.proofs.free.+free_leaves.Given as goal

-- those so far are their own instances
abbrev pub invariant-loop-arg : goal.invariant-loop-arg
invariant-loop-arg l = map (typ_instance (composed l.settings.sets)) (take l.arg-index l.args) ≡ take l.arg-index l.args
