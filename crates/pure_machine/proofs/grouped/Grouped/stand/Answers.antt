use Rattle.pure_machine.proofs.GroupLaws.{stood-kept}
use Rattle.pure_machine.proofs.grouped.Grouped.stand.Goals as goal

pub invariant_of-self : goal.invariant_of-self
invariant_of-self g c = stood-kept c.args.self.now c.self.inside.groups c.self.inside.members c.self.inside.promises c.stand.new.self c.args.number _ c.self.view_is c.requires.allowed c.stand.ensures c.self.invariant
