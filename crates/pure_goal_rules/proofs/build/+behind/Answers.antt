use Rattle.std.proofs.Common.{◌≡◌, ◌∷◌, length, ap, arith}
use Rattle.pure_goal_rules.proofs.build.+behind.Goals as goal

pub behind-requires : goal.behind-requires
behind-requires t c =
    let e : c.args.items.now ≡ c.in-Some.first.now ∷ c.in-Some.rest.now = c.in-Some.ensures.cases.0 in
    let counted = ap length e in
    (omega (arith, counted), tt)
