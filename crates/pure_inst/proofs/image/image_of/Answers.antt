use Rattle.std.proofs.Common.{◌∙◌, ap, sym}
use Rattle.pure_text.proofs.AnswerLaws.{test_fails}
use Rattle.pure_definitions.specs.Terms.Term.{Var}
use Rattle.pure_definitions.specs.Terms.Subst.{TermBind, typ_image, typ_instance}
use Rattle.pure_inst.proofs.ReplacedLaws.{image-found, image-passed, image-none}
use Rattle.pure_inst.proofs.image.image_of.Goals as goal

pub returns-then-replaces : goal.returns-then-replaces
returns-then-replaces c =
    let v = Var c.args.name c.args.index (typ_instance (typ_image c.args.typs.now) c.args.typ.now) in
    rw (← c.binds-bind-items.ensures.are)
    (image-found c.binds-bind-items.result.now v c.loop-bind.bind-index c.bind-item.result c.loop-bind-test.true c.bind-item.is c.loop-bind.invariant (c.replaces.ensures.0 c.if-replaces.true) ∙ ap (λ (b : TermBind). b.image) (sym c.bind.view_is))

pub loop-bind-preserved : goal.loop-bind-preserved
loop-bind-preserved c =
    let v = Var c.args.name c.args.index (typ_instance (typ_image c.args.typs.now) c.args.typ.now) in
    image-passed c.binds-bind-items.result.now v c.loop-bind.bind-index c.bind-item.result c.loop-bind-test.true c.bind-item.is c.loop-bind.invariant (test_fails _ c.replaces.result c.replaces.ensures c.if-replaces.false)

pub returns : goal.returns
returns c =
    let v = Var c.args.name c.args.index (typ_instance (typ_image c.args.typs.now) c.args.typ.now) in
    rw (← c.binds-bind-items.ensures.are) (image-none c.binds-bind-items.result.now v c.loop-bind.bind-index c.loop-bind-test.false c.loop-bind.invariant)
