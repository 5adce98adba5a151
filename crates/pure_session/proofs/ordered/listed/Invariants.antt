use Rattle.std.proofs.Common.{◌≡◌, ◌++◌, length, map}
use Rattle.pure_session.proofs.ordered.listed.Given as goal

-- what is left goes behind those that were put
abbrev pub invariant-loop-rest : goal.invariant-loop-rest
invariant-loop-rest l = l.list ++ map (λ text. text.now) l.rest ≡ map (λ text. text.now) l.texts

abbrev pub decreases-loop-rest : goal.decreases-loop-rest
decreases-loop-rest l = length l.rest
