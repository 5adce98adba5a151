use Rattle.std.proofs.Common.{◌∙◌, ap, sym}
use Rattle.pure_definitions.specs.Types.Typ.{TVar}
use Rattle.pure_definitions.specs.Terms.Subst.{TypBind}
use Rattle.pure_tunify.proofs.EntryLaws.{image-past, image-here, image-none}
use Rattle.pure_tunify.proofs.stored.image_among.Goals as goal

pub returns-then-sets : goal.returns-then-sets
returns-then-sets c =
    image-here c.args.binds.now c.loop-bind.bind-index c.bind-item.result (TVar c.args.name c.args.index c.args.sort.now) c.loop-bind-test.true c.bind-item.is c.loop-bind.invariant (sym c.sets.ensures ∙ c.if-sets.true)
    ∙ ap (λ (b : TypBind). b.image) (sym c.bind.view_is)

pub loop-bind-preserved : goal.loop-bind-preserved
loop-bind-preserved c =
    image-past c.args.binds.now c.loop-bind.bind-index c.bind-item.result (TVar c.args.name c.args.index c.args.sort.now) c.loop-bind-test.true c.bind-item.is c.loop-bind.invariant (sym c.sets.ensures ∙ c.if-sets.false)

pub returns : goal.returns
returns c = image-none c.args.binds.now c.loop-bind.bind-index (TVar c.args.name c.args.index c.args.sort.now) c.loop-bind-test.false c.loop-bind.invariant
