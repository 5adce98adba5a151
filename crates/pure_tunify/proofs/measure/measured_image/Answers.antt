use Rattle.std.proofs.Common.{sym, subst}
use Rattle.pure_definitions.specs.Types.Typ.{Typ}
use Rattle.pure_tunify.specs.Measures.{IsMeasureOf}
use Rattle.pure_tunify.proofs.ReachLaws.{on_true}
use Rattle.pure_tunify.proofs.measure.measured_image.Goals as goal

pub returns-then-stays : goal.returns-then-stays
returns-then-stays c = subst (λ (u : Typ). IsMeasureOf u c.measure_of.result) (sym (on_true _ c.stays.result c.stays.ensures c.if-stays.true)) c.measure_of.ensures
