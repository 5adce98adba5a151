use Rattle.std.proofs.Common.{refl, subst}
use Rattle.pure_text.proofs.AnswerLaws.{test_fails}
use Rattle.pure_definitions.specs.Terms.Term.{Term}
use Rattle.pure_definitions.specs.Terms.Bounds.{Occurs}
use Rattle.pure_pattern_rules.proofs.SideLaws.{head_low, typ_low, imitable}
use Rattle.pure_pattern_rules.proofs.TreatedLaws.{occurs_decided, head_decided}
use Rattle.pure_pattern_rules.proofs.mixed.mixed.Goals as goal

pub returns-then-occurs_in-clause-treated : goal.returns-then-occurs_in-clause-treated
returns-then-occurs_in-clause-treated c =
    occurs_decided c.args.index c.args.flexible.now c.args.rigid.now c.requires.sides.pattern c.requires.sides.flexible (subst (λ (v : Term). Occurs v c.args.rigid.now) c.head.ensures (c.occurs_in.ensures.0 c.if-occurs_in.true))

pub head_treated-requires-clause-few : goal.head_treated-requires-clause-few
head_treated-requires-clause-few c = typ_low c.args.flexible.now c.args.flexible.now c.in_ok-variable.variable refl c.requires.flexible c.in_ok-variable.ensures

pub head_treated-requires-clause-low : goal.head_treated-requires-clause-low
head_treated-requires-clause-low c = rw c.head-2.ensures (head_low c.args.rigid.now c.requires.rigid)

pub head_treated-requires-clause-imitable : goal.head_treated-requires-clause-imitable
head_treated-requires-clause-imitable c =
    let v = c.in_ok-variable.variable in
    rw c.head-2.ensures (imitable c.args.index c.args.flexible.now c.args.rigid.now v.name v.index v.typ v.places.items c.requires.sides c.in_ok-variable.ensures)

pub returns-clause-treated : goal.returns-clause-treated
returns-clause-treated c =
    let v = c.in_ok-variable.variable in
    let absent = test_fails (Occurs c.head.result.now c.args.rigid.now) c.occurs_in.result c.occurs_in.ensures c.if-occurs_in.false in
    head_decided c.args.index c.args.flexible.now c.args.rigid.now c.head.result.now c.head-2.result.now v c.head.ensures c.head-2.ensures c.in_ok-variable.ensures c.head_treated.result absent c.head_treated.ensures.treated
