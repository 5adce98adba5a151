use Rattle.pure_definitions.specs.Terms.Subst.{typ_image, inst_typ}
use Rattle.pure_unfold.proofs.UnfoldLaws.{unfolded-once}
use Rattle.pure_conv.specs.Rules.{puts}
use Rattle.pure_conv.proofs.UnfoldingLaws.{leaves-put_ok}
use Rattle.pure_conv.proofs.unfolding.constant_leaves.Goals as goal

pub returns-in-Some-clause-leaves : goal.returns-in-Some-clause-leaves
returns-in-Some-clause-leaves c =
    let once = unfolded-once c.args.rule.now.order.now c.args.rule.now.name c.args.rule.now.typ.now c.args.rule.now.body.now c.requires.defining.0 c.requires.defining.1 in
    let found = rw c.in-Some.is at c.in_ok-binds.ensures in
    leaves-put_ok (puts c.args.rule.now) once c.args.t.now c.args.name c.args.typ.now (inst_typ (typ_image c.in-Some.binds) c.args.rule.now.body.now) c.args.left c.args.room c.body_leaves.result c.requires.constant found c.body_leaves.ensures
