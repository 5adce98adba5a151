use Rattle.std.proofs.Common.{◌∙◌, ap}
use Rattle.pure_theory_tables.specs.View.{in_order}
use Rattle.pure_theory_tables.proofs.PlaceLaws.{none_listed, none_in_order}
use Rattle.pure_theory_tables.proofs.NumberedLaws.{none_numbered}
use Rattle.pure_theory_tables.proofs.declarations.Declarations.empty.Goals as goal

pub invariant_of-result : goal.invariant_of-result
invariant_of-result c = rw (c.empty-2.ensures, none_in_order) (record { listed = none_listed; indexed = c.in_ok-index.ensures; by_number = rw c.empty-3.ensures none_numbered })

pub returns : goal.returns
returns c = ap in_order c.empty-2.ensures ∙ none_in_order
