use Rattle.pure_norm.proofs.TurnLemmas.{held-over}
use Rattle.pure_norm.proofs.walk.is_over.Goals as goal

pub returns : goal.returns
returns c =
    held-over c.args.held.now c.is_abs.result c.stay.result c.is_normal.result c.loose_above_of.result c.deref.result.now c.if-is_abs.false c.is_abs.ensures c.if-not-stay.false c.stay.ensures c.loose_above_of.ensures c.deref.ensures c.is_normal.ensures
