use Rattle.std.proofs.Common.{◌≡◌, true, false, ap, sym, ◌∙◌}
use Rattle.pure_definitions.specs.Types.Typ.{Typ, typ_eq}
use Rattle.pure_unify_definitions.specs.Fronts.{range}
use Rattle.pure_unify.proofs.ImageLaws.{fit_here, fit_behind}
use Rattle.pure_unify.proofs.images.+first_fit.Goals as goal

pub returns-then-eq-clause-fits : goal.returns-then-eq-clause-fits
returns-then-eq-clause-fits t c =
    let same : typ_eq (range c.in-Some.domain.now) c.args.range.now ≡ true = ap (λ (U : Typ). typ_eq U c.args.range.now) (sym c.range_of.ensures) ∙ (sym c.eq.ensures ∙ c.if-eq.true) in
    fit_here c.args.range.now c.args.rest.now c.in-Some.domain.now c.in-Some.more.now c.args.from c.in-Some.ensures same

pub returns-else-eq-clause-fits : goal.returns-else-eq-clause-fits
returns-else-eq-clause-fits t c =
    let differ : typ_eq (range c.in-Some.domain.now) c.args.range.now ≡ false = ap (λ (U : Typ). typ_eq U c.args.range.now) (sym c.range_of.ensures) ∙ (sym c.eq.ensures ∙ c.if-eq.false) in
    fit_behind c.first_fit.result (λ fit. fit.0) (λ fit. fit.1.now) c.args.range.now c.args.rest.now c.in-Some.domain.now c.in-Some.more.now c.args.from c.in-Some.ensures differ c.first_fit.ensures.fits
