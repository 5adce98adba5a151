use Rattle.pure_text.proofs.AnswerLaws.{test_fails}
use Rattle.pure_theory.proofs.FactLookupLaws.{built_refl, built_subst, built_ext, built_iff, built_mp, built_spec, none_built}
use Rattle.pure_theory.proofs.facts.built_of.Goals as goal

pub returns-then-is_either : goal.returns-then-is_either
returns-then-is_either c = built_refl c.args.text.now (c.is_either.ensures.0 c.if-is_either.true)

pub returns-then-is_either-2 : goal.returns-then-is_either-2
returns-then-is_either-2 c = built_subst c.args.text.now (c.is_either-2.ensures.0 c.if-is_either-2.true)

pub returns-then-is_either-3 : goal.returns-then-is_either-3
returns-then-is_either-3 c = built_ext c.args.text.now (c.is_either-3.ensures.0 c.if-is_either-3.true)

pub returns-then-is_either-4 : goal.returns-then-is_either-4
returns-then-is_either-4 c = built_iff c.args.text.now (c.is_either-4.ensures.0 c.if-is_either-4.true)

pub returns-then-is_either-5 : goal.returns-then-is_either-5
returns-then-is_either-5 c = built_mp c.args.text.now (c.is_either-5.ensures.0 c.if-is_either-5.true)

pub returns-then-is_either-6 : goal.returns-then-is_either-6
returns-then-is_either-6 c = built_spec c.args.text.now (c.is_either-6.ensures.0 c.if-is_either-6.true)

pub returns : goal.returns
returns c = none_built c.args.text.now
    (test_fails _ c.is_either.result c.is_either.ensures c.if-is_either.false)
    (test_fails _ c.is_either-2.result c.is_either-2.ensures c.if-is_either-2.false)
    (test_fails _ c.is_either-3.result c.is_either-3.ensures c.if-is_either-3.false)
    (test_fails _ c.is_either-4.result c.is_either-4.ensures c.if-is_either-4.false)
    (test_fails _ c.is_either-5.result c.is_either-5.ensures c.if-is_either-5.false)
    (test_fails _ c.is_either-6.result c.is_either-6.ensures c.if-is_either-6.false)
