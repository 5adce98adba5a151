use Rattle.pure_definitions.specs.Types.Typ.{TVar}
use Rattle.pure_tunify.proofs.SettingLaws.{free-absent}
use Rattle.pure_tunify.proofs.WrittenLaws.{fixed_absent}
use Rattle.pure_tunify.proofs.settings.Settings.find.Goals as goal

pub returns-in-Some-clause-image : goal.returns-in-Some-clause-image
returns-in-Some-clause-image c = rw (← c.t.view_is, c.in-TVar.is, ← c.self.view_is) (tt, c.in-Some.ensures)

pub returns-in-None-clause-image : goal.returns-in-None-clause-image
returns-in-None-clause-image c =
    rw (← c.t.view_is, c.in-TVar.is, ← c.self.view_is) (λ is. free-absent c.self.inside.map (TVar c.in-TVar.name c.in-TVar.index c.in-TVar.sort) c.self.invariant.triangular tt c.in-None.ensures)

pub returns-in-TFree-clause-image : goal.returns-in-TFree-clause-image
returns-in-TFree-clause-image c = rw (← c.t.view_is, c.in-TFree.is, ← c.self.view_is) (λ is. fixed_absent c.self.inside.map c.in-TFree.name c.in-TFree.sort)

pub returns-in-Con-clause-image : goal.returns-in-Con-clause-image
returns-in-Con-clause-image c = rw (← c.t.view_is, c.in-Con.is) (λ is. absurd is)
