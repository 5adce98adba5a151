use Rattle.std.proofs.Common.{sym, subst}
use Rattle.pure_kernel.specs.Logic.Derivable.{IsDerivable}
use Rattle.pure_tauto.proofs.ProverLaws.{derivable-at}
use Rattle.pure_tauto.proofs.steps.copied.Goals as goal

pub returns : goal.returns
returns g c = λ h. subst (IsDerivable (g.B.Base.content c.args._thy.now)) (sym c.in_ok-th.ensures) (derivable-at (g.B.Base.content c.args._thy.now) c.args.known.now c.args.place c.index-known-place.result c.requires c.index-known-place.is h)
