use Rattle.std.proofs.Common.{take}
use Rattle.pure_text.specs.Lists.{Each, EachTwo, IsIn}
use Rattle.pure_tunify.specs.GraphCode.{asked_at, root_at}
use Rattle.pure_tunify.proofs.agreement.are_sorts_asked.Given as goal

abbrev pub invariant-loop-i : goal.invariant-loop-i
invariant-loop-i l = EachTwo (λ kid sort. Each (λ d. IsIn d (asked_at l.asked (root_at l.roots kid))) sort) (take l.i l.kids) (take l.i l.domains)
