use Rattle.pure_text.proofs.AscendingLaws.{finds, found_or_not}
use Rattle.pure_order_tables.proofs.names.has.Goals as goal

pub returns : goal.returns
returns c = rw c.is_ok.ensures.value (found_or_not c.args.names.now c.args.name c.binary_search.result (finds c.args.names.now c.args.name c.binary_search.result c.requires c.binary_search.ensures.position))
