use Rattle.std.proofs.Common.{◌≡◌, refl}
use Rattle.pure_definitions.specs.Types.Typ.{TVar}
use Rattle.pure_definitions.specs.Terms.Subst.{typ_instance}
use Rattle.pure_tunify.specs.Settings.{composed}
use Rattle.pure_tunify.proofs.WorkLaws.{when_true}
use Rattle.pure_tunify.proofs.ReachLaws.{on_true}
use Rattle.pure_tunify.proofs.TreatLaws.{occurs_unset, sortless_unset}
use Rattle.pure_tunify.proofs.turn.treat_unwritten.Goals as goal

pub returns-then-occurs : goal.returns-then-occurs
returns-then-occurs c =
    let whole : TVar c.in-TVar.name c.in-TVar.index c.in-TVar.sort ≡ c.args.variable.now = rw c.in-TVar.is at c.variable.view_is in
    occurs_unset c.args.order.now c.args.variable.now (typ_instance (composed c.args.settings.now.sets) c.args.t.now) c.in-TVar.name c.in-TVar.index c.in-TVar.sort whole (when_true _ _ c.in_ok-occurs.occurs c.in_ok-occurs.ensures c.if-occurs.true)

pub returns-then-out : goal.returns-then-out
returns-then-out c =
    let whole : TVar c.in-TVar.name c.in-TVar.index c.in-TVar.sort ≡ c.args.variable.now = rw c.in-TVar.is at c.variable.view_is in
    sortless_unset c.args.order.now c.args.variable.now (typ_instance (composed c.args.settings.now.sets) c.args.t.now) c.in-TVar.name c.in-TVar.index c.in-TVar.sort whole (on_true _ c.in_ok-out.out c.in_ok-out.ensures c.if-out.true)

pub returns : goal.returns
returns c = (refl, c.requires.beyond)
