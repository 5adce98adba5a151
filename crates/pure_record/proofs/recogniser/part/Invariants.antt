use Rattle.std.proofs.Common.{◌≡◌, length, reverse}
use Rattle.pure_record.specs.Machine.{next}
use Rattle.pure_record.proofs.recogniser.part.Given as goal

-- parts were left out
abbrev pub invariant-loop-top : goal.invariant-loop-top
invariant-loop-top l = next (reverse l.initial.stack.items) l.lexeme ≡ next (reverse l.stack.items) l.lexeme

abbrev pub decreases-loop-top : goal.decreases-loop-top
decreases-loop-top l = length l.stack.items
