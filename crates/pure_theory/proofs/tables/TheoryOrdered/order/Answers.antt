use Rattle.std.proofs.Common.{◌∙◌}
use Rattle.pure_theory.proofs.tables.TheoryOrdered.order.Goals as goal

pub returns : goal.returns
returns c = rw (← c.self.view_is) (c.deref.ensures ∙ c.self.invariant.order)
