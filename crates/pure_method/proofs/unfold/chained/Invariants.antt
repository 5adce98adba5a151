use Rattle.pure_method.proofs.ChainedLaws.{ComesSo}
use Rattle.pure_method.proofs.unfold.chained.Given as goal

abbrev pub invariant-loop-fact : goal.invariant-loop-fact
invariant-loop-fact l = ComesSo l.theory l.first l.facts l.fact-index l.chain
