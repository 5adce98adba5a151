use Rattle.std.proofs.Common.{take}
use Rattle.pure_record.specs.Spelled.{AreNamesOf}
use Rattle.pure_record.proofs.names.texts_of_few.Given as goal

-- the names of the tokens before
abbrev pub invariant-loop-token : goal.invariant-loop-token
invariant-loop-token l = AreNamesOf l.source (take l.token-index l.tokens) l.texts
