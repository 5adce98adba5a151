use Rattle.std.proofs.Common.{◌≡◌, ◌+◌, length, ap, ◌∙◌, arith}
use Rattle.pure_resolve.proofs.CallLaws.{enough_more}
use Rattle.pure_resolve.proofs.state.+has_premises.Goals as goal

pub returns-then-count-eq0 : goal.returns-then-count-eq0
returns-then-count-eq0 t c As C e = omega (arith, c.if-count-eq0.true)

pub returns-in-None : goal.returns-in-None
returns-in-None t c As C e = let none = ap length (c.in-None.ensures.premise As C e) in omega (arith, none, c.if-count-eq0.false)

pub returns-in-Some : goal.returns-in-Some
returns-in-Some t c As C e =
    let p = c.in-Some.ensures.premise As C e in
    let counted : length As ≡ length p.others + 1 = ap length p.stand ∙ omega arith in
    enough_more c.args.count (length p.others) (length As) c.has_premises.result c.if-count-eq0.false counted (c.has_premises.ensures p.others C (c.deref-tail.ensures ∙ p.behind))
