use Rattle.pure_order_tables.proofs.RowLaws.{none_held}
use Rattle.pure_order.proofs.places.Places.empty.Goals as goal
use Rattle.std.proofs.Common.{refl}

pub invariant_of-result : goal.invariant_of-result
invariant_of-result c = record { count = refl; start = λ place h. absurd (none_held 128 place h); end = λ place h. absurd (none_held 128 place h) }

pub returns : goal.returns
returns c = none_held 128
