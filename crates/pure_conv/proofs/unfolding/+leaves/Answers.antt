use Rattle.pure_unfold.proofs.UnfoldLaws.{unfolded-once}
use Rattle.pure_conv.specs.Rules.{puts}
use Rattle.pure_conv.proofs.UnfoldingLaws.{leaves-full, leaves-deep}
use Rattle.pure_conv.proofs.unfolding.+leaves.Goals as goal

pub returns-then-left-eq0-clause-leaves : goal.returns-then-left-eq0-clause-leaves
returns-then-left-eq0-clause-leaves t c =
    let once = unfolded-once c.args.rule.now.order.now c.args.rule.now.name c.args.rule.now.typ.now c.args.rule.now.body.now c.requires.defining.0 c.requires.defining.1 in
    leaves-full (puts c.args.rule.now) once c.args.t.now c.args.left c.args.room c.if-left-eq0.true

pub returns-then-room-eq0-clause-leaves : goal.returns-then-room-eq0-clause-leaves
returns-then-room-eq0-clause-leaves t c =
    let once = unfolded-once c.args.rule.now.order.now c.args.rule.now.name c.args.rule.now.typ.now c.args.rule.now.body.now c.requires.defining.0 c.requires.defining.1 in
    leaves-deep (puts c.args.rule.now) once c.args.t.now c.args.left c.args.room c.if-room-eq0.true
