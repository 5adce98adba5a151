use Rattle.std.proofs.Common.{◌∙◌, ap}
use Rattle.pure_theory_tables.specs.View.{in_order}
use Rattle.pure_theory_tables.proofs.declarations.Declarations.share.Goals as goal

pub invariant_of-result : goal.invariant_of-result
invariant_of-result c = rw c.in_ok-list.ensures (record { listed = c.self.invariant.listed; indexed = c.in_ok-index.ensures.same _ c.self.invariant.indexed; by_number = rw c.in_ok-numbered.ensures c.self.invariant.by_number })

pub returns : goal.returns
returns c = ap in_order c.in_ok-list.ensures ∙ c.self.view_is
