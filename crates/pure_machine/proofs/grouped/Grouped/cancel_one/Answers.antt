use Rattle.std.proofs.Common.{◌∙◌, sym}
use Rattle.pure_machine.proofs.GroupLaws.{group-stays, listed-is, regrouped-is, cancelled-kept}
use Rattle.pure_machine.proofs.grouped.Grouped.cancel_one.Goals as goal

pub returns-then-not-is_new : goal.returns-then-not-is_new
returns-then-not-is_new g c = group-stays c.args.self.now c.self.inside.groups c.self.inside.members c.self.inside.promises c.args.group c.self.view_is (sym c.is_new.ensures ∙ c.if-not-is_new.true) c.self.invariant

pub invariant_of-self : goal.invariant_of-self
invariant_of-self g c = cancelled-kept c.cancel_one.new.self c.self.inside.members c.self.inside.promises c.cancel.new.self c.cancel.ensures c.self.invariant.1

pub invariant_of-self-in-Theory : goal.invariant_of-self-in-Theory
invariant_of-self-in-Theory g c =
    cancelled-kept c.cancel_one.new.self c.self.inside.members c.self.inside.promises c.cancel_listed.new.self
    (listed-is c.self.inside.groups c.cancel_one.new.self c.in-Theory.index c.args.group c.self.inside.members c.self.inside.promises c.cancel_listed.new.self c.of.result.now c.in-Theory.is c.cancel_one.ensures c.of.ensures c.cancel_listed.ensures c.self.invariant)
    c.self.invariant.1

pub returns-in-Theory : goal.returns-in-Theory
returns-in-Theory g c =
    regrouped-is c.args.self.now c.self.inside.groups c.cancel_one.new.self c.args.group c.self.inside.promises c.cancel_listed.new.self c.self.view_is c.cancel_one.ensures
    (listed-is c.self.inside.groups c.cancel_one.new.self c.in-Theory.index c.args.group c.self.inside.members c.self.inside.promises c.cancel_listed.new.self c.of.result.now c.in-Theory.is c.cancel_one.ensures c.of.ensures c.cancel_listed.ensures c.self.invariant)
