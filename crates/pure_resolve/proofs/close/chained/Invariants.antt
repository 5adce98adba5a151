use Rattle.std.proofs.Common.{◌≡◌, length}
use Rattle.pure_logic.specs.Connectives.{chain}
use Rattle.pure_resolve.proofs.close.chained.Given as goal

abbrev pub invariant-loop-premise : goal.invariant-loop-premise
invariant-loop-premise l = chain l.premises.items l.conclusion ≡ chain l.initial.premises.items l.initial.conclusion

abbrev pub decreases-loop-premise : goal.decreases-loop-premise
decreases-loop-premise l = length l.premises.items
