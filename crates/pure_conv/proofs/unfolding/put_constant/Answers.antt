use Rattle.std.proofs.Common.{refl}
use Rattle.std.specs.Prelude.{option_map}
use Rattle.pure_definitions.specs.Terms.Term.{Const}
use Rattle.pure_definitions.specs.Terms.Subst.{typ_image, inst_typ}
use Rattle.pure_unfold.specs.Replaced.{IsReplaced}
use Rattle.pure_unfold.proofs.UnfoldLaws.{unfolded-once}
use Rattle.pure_conv.specs.Rules.{puts, became}
use Rattle.pure_conv.proofs.UnfoldingLaws.{put-large}
use Rattle.pure_conv.proofs.unfolding.put_constant.Goals as goal

pub returns-in_err-body-in-Some : goal.returns-in_err-body-in-Some
returns-in_err-body-in-Some c =
    let once = unfolded-once c.args.rule.now.order.now c.args.rule.now.name c.args.rule.now.typ.now c.args.rule.now.body.now c.requires.0 c.requires.1 in
    let found = rw c.in-Some.is at c.in_ok-binds.ensures in
    put-large (puts c.args.rule.now) once (λ made. IsReplaced (puts c.args.rule.now) (Const c.args.name c.args.typ.now) (became (Const c.args.name c.args.typ.now) (option_map (λ u. u.value) made))) (Const c.args.name c.args.typ.now) c.args.name c.args.typ.now
    (inst_typ (typ_image c.in-Some.binds) c.args.rule.now.body.now) c.in_err-body-in-Some.field-0.0
    c.from_residual-in_err-body-in-Some.result c.from_residual-in_err-body-in-Some.ensures.1 refl found c.in_err-body-in-Some.ensures
