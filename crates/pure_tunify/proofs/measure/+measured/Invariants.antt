use Rattle.std.proofs.Common.{map}
use Rattle.pure_definitions.specs.Terms.Subst.{typ_instance}
use Rattle.pure_tunify.specs.Settings.{composed}
use Rattle.pure_tunify.proofs.MeasureLaws.{HasMeasured}
use Rattle.pure_tunify.proofs.measure.+measured.Given as goal

abbrev pub invariant-loop-arg : goal.invariant-loop-arg
invariant-loop-arg l = HasMeasured (map (typ_instance (composed l.settings.sets)) l.args) l.arg-index l.whole
