use Rattle.pure_conv.proofs.RuleLaws.{is_unfolded}
use Rattle.pure_conv.proofs.rule.instance_for.Goals as goal

pub returns : goal.returns
returns c =
    is_unfolded c.args.rule.now.order.now c.args.rule.now.name c.args.rule.now.typ.now c.args.rule.now.body.now c.args.name c.args.typ.now _ c.match_typ.new.binds c.in_ok-can.can c.empty-binds.ensures c.if-not-can.false
    (c.is_same.ensures.0 c.if-not-is_same.false) c.are_sorted.ensures.distinct c.in_ok-can.ensures (c.are_sorted.ensures.sorted.0 c.if-not-are_sorted.false)
