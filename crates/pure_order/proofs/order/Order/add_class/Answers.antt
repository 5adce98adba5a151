use Rattle.pure_order.proofs.order.Order.add_class.Goals as goal

pub invariant_of-self-2 : goal.invariant_of-self-2
invariant_of-self-2 c = c.push_class.ensures.coregular c.self.invariant

pub returns-clause-coregular : goal.returns-clause-coregular
returns-clause-coregular c = c.push_class.ensures.coregular c.self.invariant
