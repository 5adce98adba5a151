use Rattle.pure_unify_steps.proofs.PutLaws.{own_side, instance_closed, found_comes}
use Rattle.pure_unify_steps.proofs.put.terms_found.Goals as goal

pub instance_long-requires-clause-own : goal.instance_long-requires-clause-own
instance_long-requires-clause-own c = own_side c.args.t.now c.requires.long

pub instance_long-requires-clause-closed : goal.instance_long-requires-clause-closed
instance_long-requires-clause-closed c = instance_closed c.args.map.now c.args.t.now c.requires.respecting c.requires.long

pub returns : goal.returns
returns c = found_comes c.args.map.now c.args.t.now c.in-Some.long c.requires.respecting c.requires.long c.in-Some.ensures (c.is_within.ensures.0 c.if-not-is_within.false)
