use Rattle.std.proofs.Common.{refl, arith}
use Rattle.pure_norm.proofs.InstanceLaws.{below_stays}
use Rattle.pure_unify_steps.proofs.PutLaws.{untouched_fixed}
use Rattle.pure_unify_steps.proofs.put.+is_touched.Goals as goal

pub returns-then-index_above_of-least : goal.returns-then-index_above_of-least
returns-then-index_above_of-least t c = below_stays c.args.map.now c.args.least c.requires c.args.t.now (omega arith)

pub returns-in-Free : goal.returns-in-Free
returns-in-Free t c = untouched_fixed c.args.map.now c.args.t.now c.in-Free.name c.in-Free.typ (rw (← c.t.view_is, c.in-Free.is) refl)
