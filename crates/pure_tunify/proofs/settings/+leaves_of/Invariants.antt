use Rattle.std.proofs.Common.{map}
use Rattle.pure_definitions.specs.Terms.Subst.{typ_image, typ_instance}
use Rattle.pure_definitions.proofs.LeavesLemmas.{HasPut}
use Rattle.pure_tunify.proofs.settings.+leaves_of.Given as goal

abbrev pub invariant-loop-arg : goal.invariant-loop-arg
invariant-loop-arg l = HasPut (map (typ_instance (typ_image l.stored)) l.args) l.left l.room l.arg-index l.rest
