use Rattle.std.proofs.Common.{◌≡◌, ◌++◌, take, drop}
use Rattle.pure_record.specs.Lexemes.{before_dot}
use Rattle.pure_record.proofs.lexing.before_dot.Given as goal

-- no dot so far
abbrev pub invariant-loop-at : goal.invariant-loop-at
invariant-loop-at l = before_dot l.bytes ≡ take l.at l.bytes ++ before_dot (drop l.at l.bytes)
