use Rattle.std.proofs.Common.{◌≡◌, ◌∷◌, length, ap, arith}
use Rattle.pure_goal_rules.proofs.build.+below_parameters.Goals as goal

pub below_parameters-requires : goal.below_parameters-requires
below_parameters-requires t c =
    let e : c.args.items.now ≡ c.in-Some.first.now ∷ c.in-Some.rest.now = c.in-Some.ensures.cases.0 in
    let counted = ap length e in
    (omega (arith, counted), tt)
