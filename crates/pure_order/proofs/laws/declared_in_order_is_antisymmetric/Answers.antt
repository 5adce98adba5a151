use Rattle.pure_order_tables.proofs.BelowLaws.{antisymmetric}
use Rattle.pure_order.proofs.laws.declared_in_order_is_antisymmetric.Goals as goal

pub returns : goal.returns
returns c = antisymmetric
