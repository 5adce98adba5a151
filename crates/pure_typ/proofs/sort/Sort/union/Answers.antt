use Rattle.pure_typ.proofs.MergeLemmas.{union-of, union-none, none-union}
use Rattle.pure_typ.proofs.sort.Sort.union.Goals as goal

pub returns-then-is_empty : goal.returns-then-is_empty
returns-then-is_empty c = union-none c.args.self.now c.args.other.now c.classes-others.result.now c.in_ok-left.left c.is_empty.result c.classes-others.ensures.are c.classes-own.ensures.ascend c.is_empty.ensures c.if-is_empty.true c.in_ok-left.ensures

pub returns-then-is_empty-2 : goal.returns-then-is_empty-2
returns-then-is_empty-2 c = none-union c.args.self.now c.args.other.now c.classes-own.result.now c.in_ok-right.right c.is_empty-2.result c.classes-own.ensures.are c.classes-others.ensures.ascend c.is_empty-2.ensures c.if-is_empty-2.true c.in_ok-right.ensures

pub make-requires : goal.make-requires
make-requires c =
    (union-of c.args.self.now c.args.other.now c.classes-own.result.now c.classes-others.result.now c.in_ok-classes.classes.items c.classes-own.ensures.are c.classes-others.ensures.are c.in_ok-classes.ensures c.classes-own.ensures.ascend c.classes-others.ensures.ascend).ascend

pub returns : goal.returns
returns c =
    rw c.in_ok-union.ensures (union-of c.args.self.now c.args.other.now c.classes-own.result.now c.classes-others.result.now c.in_ok-classes.classes.items c.classes-own.ensures.are c.classes-others.ensures.are c.in_ok-classes.ensures c.classes-own.ensures.ascend c.classes-others.ensures.ascend)
