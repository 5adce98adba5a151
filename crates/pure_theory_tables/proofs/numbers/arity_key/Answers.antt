use Rattle.std.proofs.Common.{refl}
use Rattle.pure_theory_tables.specs.Keys as keys
use Rattle.pure_theory_tables.proofs.numbers.arity_key.Goals as goal

pub returns : goal.returns
unfolding keys.arity_key
returns c = rw (← c.con.view_is, ← c.class.view_is) refl
