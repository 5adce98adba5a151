use Rattle.std.proofs.Common.{◌-◌, length}
use Rattle.pure_lex.proofs.Steps.{Progress}
use Rattle.pure_lex.proofs.reading.tokens.Given as goal

abbrev pub invariant-loop-text : goal.invariant-loop-text
invariant-loop-text l = Progress l.to l.text l.found.items l.at

abbrev pub decreases-loop-text : goal.decreases-loop-text
decreases-loop-text l = length l.text - l.at
