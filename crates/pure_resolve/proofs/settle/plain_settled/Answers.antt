use Rattle.pure_resolve.proofs.SettleLaws.{plain_typed, plain_long}
use Rattle.pure_resolve.proofs.settle.plain_settled.Goals as goal

pub long_within-requires : goal.long_within-requires
long_within-requires c = plain_typed c.args.terms.now c.args.t c.in_ok-image.image c.requires.typed c.requires.respecting c.in_ok-image.ensures

pub returns : goal.returns
returns c = plain_long c.args.terms.now c.args.t c.in_ok-image.image c.long_within.result c.in_ok-image.ensures c.long_within.ensures
