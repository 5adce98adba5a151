use Rattle.std.proofs.Common.{take_all}
use Rattle.pure_text.proofs.AnswerLaws.{test_fails, yes_as, no_as}
use Rattle.pure_declare.proofs.HaveSteps.{have-named}
use Rattle.pure_declare.proofs.MayLaws.{named-more}
use Rattle.pure_declare.proofs.may.are_haves_named.Goals as goal

pub returns-then-not-is_have_named : goal.returns-then-not-is_have_named
returns-then-not-is_have_named c =
    let fails = test_fails _ c.is_have_named.result c.is_have_named.ensures c.if-not-is_have_named.true in
    no_as _ (λ each. fails (have-named c.args.haves.now c.loop-have.have-index c.have-item.result c.loop-have-test.true c.have-item.is c.args.names.now c.args.lemma.now each))

pub loop-have-preserved : goal.loop-have-preserved
loop-have-preserved c =
    named-more c.args.haves.now c.loop-have.have-index c.have-item.result c.loop-have-test.true c.have-item.is c.args.names.now c.args.lemma.now c.loop-have.invariant (c.is_have_named.ensures.0 c.if-not-is_have_named.false)

pub returns : goal.returns
returns c = yes_as _ (rw (take_all c.loop-have.have-index c.args.haves.now c.loop-have-test.false) at c.loop-have.invariant)
