use Rattle.pure_unify.proofs.HeadLaws.{IsHeadSoFar}
use Rattle.pure_unify.proofs.comes.head_later.Given as goal

abbrev pub invariant-loop-i : goal.invariant-loop-i
invariant-loop-i l = IsHeadSoFar l.settings l.t l.top l.i
