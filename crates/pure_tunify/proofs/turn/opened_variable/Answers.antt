use Rattle.std.proofs.Common.{ap, subst, sym, ◌∙◌}
use Rattle.pure_definitions.specs.Types.Typ.{Typ}
use Rattle.pure_definitions.specs.Terms.Subst.{typ_instance}
use Rattle.pure_tunify.specs.Unifiers.{IsOld}
use Rattle.pure_tunify.specs.Settings.{composed}
use Rattle.pure_tunify.proofs.WrittenLaws.{image_same, image_old}
use Rattle.pure_tunify.proofs.turn.opened_variable.Goals as goal

pub returns-in_ok-copy-in-Some-clause-same : goal.returns-in_ok-copy-in-Some-clause-same
returns-in_ok-copy-in-Some-clause-same c =
    let now = c.args.settings.now in
    ap (typ_instance (composed now.sets)) c.in_ok-copy-in-Some.ensures
    ∙ c.in_ok-top-in-Some.ensures.same
    ∙ image_same now c.args.t c.in-Some.image.now c.in-Some.ensures.tidy c.in-Some.ensures.image.0 c.in-Some.ensures.image.1

pub returns-in_ok-copy-in-Some-clause-old : goal.returns-in_ok-copy-in-Some-clause-old
returns-in_ok-copy-in-Some-clause-old c old =
    let now = c.args.settings.now in
    subst (λ (h : Typ). IsOld now.index now.next h) (sym c.in_ok-copy-in-Some.ensures)
    (c.in_ok-top-in-Some.ensures.old (image_old now c.args.t c.in-Some.image.now c.in-Some.ensures.tidy c.in-Some.ensures.image.1 old))
