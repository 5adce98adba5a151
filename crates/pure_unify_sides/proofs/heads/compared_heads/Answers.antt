use Rattle.pure_unify_sides.proofs.HeadLaws.{same_heads, constant_heads, apart_heads}
use Rattle.pure_unify_sides.proofs.heads.compared_heads.Goals as goal

pub returns-then-eq : goal.returns-then-eq
returns-then-eq c = same_heads c.args.h.now c.args.k.now c.eq.result c.eq.ensures c.if-eq.true

pub returns-then-are_of_one_name : goal.returns-then-are_of_one_name
returns-then-are_of_one_name c = constant_heads c.args.h.now c.args.k.now c.eq.result c.are_of_one_name.result c.eq.ensures c.if-eq.false c.are_of_one_name.ensures c.if-are_of_one_name.true

pub returns : goal.returns
returns c = apart_heads c.args.h.now c.args.k.now c.eq.result c.are_of_one_name.result c.eq.ensures c.if-eq.false c.are_of_one_name.ensures c.if-are_of_one_name.false
