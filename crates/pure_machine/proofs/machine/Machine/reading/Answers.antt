use Rattle.std.proofs.Common.{refl, subst, inl, inr}
use Rattle.pure_machine.specs.Step.{Runs}
use Rattle.pure_machine.proofs.TakeLaws.{finished-whole}
use Rattle.pure_machine.proofs.machine.Machine.reading.Goals as goal

pub returns-then-runs : goal.returns-then-runs
returns-then-runs g c = (record { goes_on = c.requires.going; nothing = c.requires.nothing; runs = subst Runs c.self.view_is (inl c.if-runs.ensures) }, refl)

pub returns-then-runs-2 : goal.returns-then-runs-2
returns-then-runs-2 g c = (record { goes_on = c.requires.going; nothing = c.requires.nothing; runs = subst Runs c.self.view_is (inr c.if-runs-2.ensures) }, refl)

pub returns : goal.returns
returns g c =
    let m = c.self.inside in
    (finished-whole c.args.self.now m.theories m.promises.list m.promises.marks m.policy m.kept m.stopped m.log c.self.view_is c.requires.going c.requires.nothing c.if-runs.ensures c.if-runs-2.ensures, refl)
