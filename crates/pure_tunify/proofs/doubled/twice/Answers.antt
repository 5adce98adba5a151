use Rattle.std.proofs.Common.{arith}
use Rattle.pure_tunify.proofs.TwiceLaws.{same_twice}
use Rattle.pure_tunify.proofs.doubled.twice.Goals as goal

pub returns-then-eq : goal.returns-then-eq
returns-then-eq c = same_twice c.args.types.now c.index-types-0.result c.index-types-1.result c.eq.result (omega (arith, c.if-types-ne2.false)) c.index-types-0.is c.index-types-1.is c.eq.ensures c.if-eq.true
