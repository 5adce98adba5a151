use Rattle.std.proofs.Common.{◌∙◌, ap}
use Rattle.pure_machine.specs.State.{with_cancelled}
use Rattle.pure_machine.specs.Parts.{whole}
use Rattle.pure_machine.proofs.GroupLaws.{whole-cancelled}
use Rattle.pure_machine.proofs.machine.Machine.cancel.Goals as goal

pub returns : goal.returns
returns g c =
    let m = c.self.inside in
    ap (λ h. whole m.theories h.list h.marks m.policy m.kept m.stopped m.log) c.cancel.ensures
    ∙ whole-cancelled m.theories m.promises c.args.groups.now m.policy m.kept m.stopped m.log
    ∙ ap (λ s. with_cancelled s c.args.groups.now) c.self.view_is
