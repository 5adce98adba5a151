use Rattle.pure_resolve.proofs.SettleLaws.{kept_comes}
use Rattle.pure_resolve.proofs.settle.is_kept.Goals as goal

pub returns : goal.returns
returns c = λ h. kept_comes c.args.typs.now c.args.terms.now c.args.t.now c.requires.long (c.stays.ensures c.if-not-stays.false) (c.is_within.ensures.0 h)
