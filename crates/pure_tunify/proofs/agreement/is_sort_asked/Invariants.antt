use Rattle.std.proofs.Common.{take}
use Rattle.pure_text.specs.Lists.{Each, IsIn}
use Rattle.pure_tunify.specs.GraphCode.{asked_at}
use Rattle.pure_tunify.proofs.agreement.is_sort_asked.Given as goal

abbrev pub invariant-loop-own : goal.invariant-loop-own
invariant-loop-own l = Each (λ c. IsIn c (asked_at l.asked l.class)) (take l.own-index l.own-items)
