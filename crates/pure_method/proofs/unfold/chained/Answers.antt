use Rattle.pure_method.proofs.ReadyLaws.{theory_content}
use Rattle.pure_method.proofs.ChainedLaws.{comes-at_first, comes-turn, comes-fault, comes-end}
use Rattle.pure_method.proofs.unfold.chained.Goals as goal

pub replaced-requires-clause-chain : goal.replaced-requires-clause-chain
replaced-requires-clause-chain c = (c.args.first.now, c.loop-fact.invariant.now, c.loop-fact.invariant.chained)

pub loop-fact-init : goal.loop-fact-init
loop-fact-init c = comes-at_first c.args.theory.now (theory_content c.args.theory.now c.requires.content) c.args.first.now c.requires.proposition c.args.facts.now c.in_ok-chain.chain c.in_ok-chain.ensures

pub returns-in-Err : goal.returns-in-Err
returns-in-Err c =
    comes-fault c.args.theory.now c.args.first.now c.args.facts.now c.loop-fact.fact-index c.fact-item.result c.loop-fact-test.true c.fact-item.is c.loop-fact.chain c.loop-fact.invariant c.in-Err.fault
    (c.in-Err.ensures c.args.first.now c.loop-fact.invariant.now c.loop-fact.invariant.chained)

pub loop-fact-preserved : goal.loop-fact-preserved
loop-fact-preserved c =
    comes-turn c.args.theory.now c.args.first.now c.args.facts.now c.loop-fact.fact-index c.fact-item.result c.loop-fact-test.true c.fact-item.is c.loop-fact.chain c.loop-fact.invariant c.in-Ok.more
    (c.in-Ok.ensures c.args.first.now c.loop-fact.invariant.now c.loop-fact.invariant.chained)

pub returns : goal.returns
returns c = comes-end c.args.theory.now c.args.first.now c.args.facts.now c.loop-fact.fact-index c.loop-fact.chain c.loop-fact-test.false c.loop-fact.invariant
