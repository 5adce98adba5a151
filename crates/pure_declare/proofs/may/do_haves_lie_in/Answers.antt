use Rattle.std.proofs.Common.{take_all}
use Rattle.pure_text.proofs.AnswerLaws.{test_fails, yes_as, no_as}
use Rattle.pure_declare.proofs.HaveSteps.{have-lies}
use Rattle.pure_declare.proofs.MayLaws.{lies-more}
use Rattle.pure_declare.proofs.may.do_haves_lie_in.Goals as goal

pub returns-then-not-lies_in : goal.returns-then-not-lies_in
returns-then-not-lies_in c =
    let fails = test_fails _ c.lies_in.result c.lies_in.ensures c.if-not-lies_in.true in
    no_as _ (λ each. fails (have-lies c.args.haves.now c.loop-have.have-index c.have-item.result c.loop-have-test.true c.have-item.is c.args.source.now each))

pub loop-have-preserved : goal.loop-have-preserved
loop-have-preserved c =
    lies-more c.args.haves.now c.loop-have.have-index c.have-item.result c.loop-have-test.true c.have-item.is c.args.source.now c.loop-have.invariant (c.lies_in.ensures.0 c.if-not-lies_in.false)

pub returns : goal.returns
returns c = yes_as _ (rw (take_all c.loop-have.have-index c.args.haves.now c.loop-have-test.false) at c.loop-have.invariant)
