use Rattle.std.proofs.Common.{◌∙◌, ap}
use Rattle.pure_definitions.specs.Terms.Subst.{TypBind}
use Rattle.pure_tunify.proofs.WorkLaws.{when_false, when_true}
use Rattle.pure_tunify.proofs.ReachLaws.{reach_none, reach_image}
use Rattle.pure_tunify.proofs.reached.reach.Goals as goal

pub returns-then-not-occurs : goal.returns-then-not-occurs
returns-then-not-occurs c = reach_none c.args.bind.now c.in_ok-variable.variable c.args.typs.now.items c.as_slice.result.now c.in_ok-variable.ensures c.as_slice.ensures.value
    (when_false _ _ c.occurs_in_any-occurs.result c.occurs_in_any-occurs.ensures c.if-not-occurs.true)

pub returns : goal.returns
returns c = reach_image c.args.bind.now c.in_ok-variable.variable c.in_ok-image.image c.args.typs.now.items c.as_slice.result.now c.push.new.self.items c.in_ok-variable.ensures c.as_slice.ensures.value
    (when_true _ _ c.occurs_in_any-occurs.result c.occurs_in_any-occurs.ensures c.if-not-occurs.false) (c.in_ok-image.ensures ∙ ap (λ (b : TypBind). b.image) c.bind.view_is) c.in_ok-push.ensures.items
