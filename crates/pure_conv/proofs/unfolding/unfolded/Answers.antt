use Rattle.pure_unfold.proofs.UnfoldLaws.{unfolded-once}
use Rattle.pure_conv.specs.Rules.{puts}
use Rattle.pure_conv.proofs.UnfoldingLaws.{equation-made}
use Rattle.pure_conv.proofs.unfolding.unfolded.Goals as goal

pub returns : goal.returns
returns c =
    let once = unfolded-once c.args.rule.now.order.now c.args.rule.now.name c.args.rule.now.typ.now c.args.rule.now.body.now c.requires.0 c.requires.1 in
    equation-made (puts c.args.rule.now) once c.args.typ.now c.args.t.now c.in_ok-left.left c.in_ok-right.right c.in_ok-equation.field-0 c.in_ok-left.ensures c.in_ok-right.ensures c.in_ok-equation.ensures
