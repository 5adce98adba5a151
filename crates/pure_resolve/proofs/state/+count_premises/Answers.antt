use Rattle.std.proofs.Common.{◌≡◌, ◌+◌, List, length, ap, sym, ◌∙◌, arith}
use Rattle.pure_definitions.specs.Terms.Term as tree
use Rattle.pure_definitions.specs.Terms.Limits.{cut_off}
use Rattle.pure_resolve.proofs.ChainLaws.{no-premise, first-premise}
use Rattle.pure_resolve.proofs.state.+count_premises.Goals as goal

pub returns-in-None : goal.returns-in-None
returns-in-None t c As C e = sym (ap (λ (Bs : List tree.Term). cut_off (length Bs)) (no-premise c.args.t.now As C c.in-None.ensures e))

pub returns-in-Some : goal.returns-in-Some
returns-in-Some t c As C e =
    let p = first-premise c.args.t.now c.in-Some.field-0-0.now c.in-Some.rest.now As C c.in-Some.ensures e in
    let inner : c.count_premises.result ≡ cut_off (length p.rest) = c.count_premises.ensures p.rest C p.chained in
    let counted : length As ≡ length p.rest + 1 = ap length p.is ∙ omega arith in
    let added = c.saturating_add.ensures in
    omega (arith, inner, counted, added)
