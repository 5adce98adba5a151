use Rattle.std.proofs.Common.{rules, refl, subst}
use Rattle.pure_definitions.specs.Terms.Term.{Term}
use Rattle.pure_conv.specs.Bottom.{IsEquationFrom}
use Rattle.pure_conv_rows.proofs.constants.replaced.Goals as goal

pub bottom-requires-clause-equations : goal.bottom-requires-clause-equations
bottom-requires-clause-equations c = λ k T th r. subst (λ (t : Term). IsEquationFrom t th) r.shows.1 (r.says.met th refl)
