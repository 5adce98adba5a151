use Rattle.pure_definitions.specs.Terms.Subst.{typ_instance}
use Rattle.pure_tunify.specs.Settings.{composed}
use Rattle.pure_tunify.specs.Measures.{IsMeasured}
use Rattle.pure_tunify.proofs.MeasureLaws.{unset_measured, known_at}
use Rattle.pure_tunify.proofs.measure.measured_variable.Goals as goal

pub returns-in-None : goal.returns-in-None
returns-in-None c = unset_measured c.args.settings.now.sets c.args.t.now c.requires.variable (c.in-None.ensures.image c.requires.variable)

pub returns-in-Some-get : goal.returns-in-Some-get
returns-in-Some-get c = known_at (λ v m. IsMeasured (typ_instance (composed c.args.settings.now.sets) v) m) c.args.known.now.entries c.args.t.now c.in-Some-get.measure.now c.requires.known c.in-Some-get.ensures.value
