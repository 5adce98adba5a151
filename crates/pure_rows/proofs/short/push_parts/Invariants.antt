use Rattle.std.proofs.Common.{◌≡◌, ◌++◌, length, map}
use Rattle.pure_rows.specs.Short.{text_of_parts}
use Rattle.pure_rows.proofs.short.push_parts.Given as goal

abbrev pub invariant-loop-rest : goal.invariant-loop-rest
invariant-loop-rest l =
    l.text.items ++ text_of_parts (map (λ part. part.now) l.rest) ≡ l.fn.text.items ++ text_of_parts (map (λ part. part.now) l.parts)

abbrev pub decreases-loop-rest : goal.decreases-loop-rest
decreases-loop-rest l = length l.rest
