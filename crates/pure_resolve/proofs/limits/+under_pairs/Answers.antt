use Rattle.std.proofs.Common.{◌≡◌, List, ◌∷◌, length, ap, subst, arith}
use Rattle.pure_text.specs.Lists.{Each}
use Rattle.pure_logic.specs.Derivable.{Pair}
use Rattle.pure_resolve.specs.Goals.{IsLeftTyped}
use Rattle.pure_resolve.proofs.limits.+under_pairs.Goals as goal

pub under_pairs-requires : goal.under_pairs-requires
under_pairs-requires t c =
    let e : c.args.pairs.now ≡ c.in-Some.pair.now ∷ c.in-Some.rest.now = c.in-Some.ensures.cases.0 in
    let counted = ap length e in
    (omega (arith, counted), (subst (λ (ps : List Pair). Each IsLeftTyped ps) e c.requires).1)
