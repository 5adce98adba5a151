use Rattle.std.proofs.Common.{◌≡◌, drop}
use Rattle.pure_record.specs.Lexemes.{behind_dot}
use Rattle.pure_record.proofs.lexing.behind_dot.Given as goal

-- no dot so far
abbrev pub invariant-loop-at : goal.invariant-loop-at
invariant-loop-at l = behind_dot (drop l.at l.bytes) ≡ behind_dot l.bytes
