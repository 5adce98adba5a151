use Rattle.std.proofs.Common.{List, sym, subst}
use Rattle.pure_definitions.specs.Terms.Subst.{TypBind, IsTypMap}
use Rattle.pure_tunify.proofs.WritingLaws.{reversed_absent}
use Rattle.pure_unify.proofs.unifier.typs_in_order.Goals as goal

pub push-requires : goal.push-requires
push-requires c =
    reversed_absent c.binds-binds.result.now c.loop-left.map c.loop-left.left c.index-binds-left.result c.in_ok-entry.entry c.loop-left-test.true c.loop-left.invariant.short c.index-binds-left.is c.in_ok-entry.ensures c.loop-left.invariant.out
    (subst (λ (bs : List TypBind). IsTypMap bs) (sym c.binds-binds.ensures.are) c.binds-binds.ensures.distinct)
