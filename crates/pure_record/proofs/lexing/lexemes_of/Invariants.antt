use Rattle.std.proofs.Common.{◌≡◌, ◌++◌, drop}
use Rattle.pure_record.specs.Lexemes.{lexemes}
use Rattle.pure_record.proofs.lexing.lexemes_of.Given as goal

-- what is read, and what is left to read
abbrev pub invariant-loop-token : goal.invariant-loop-token
invariant-loop-token l = l.list.items ++ lexemes l.names l.source (drop l.token-index l.tokens) ≡ lexemes l.names l.source l.tokens
