use Rattle.std.proofs.Common.{◌≡◌, ◌∷◌, [], drop, reverse}
use Rattle.pure_record.specs.declared.symbol.Symbol.TheVariants.{Record}
use Rattle.pure_record.specs.Machine.{run}
use Rattle.pure_record.proofs.recogniser.recognised.Given as goal

abbrev pub invariant-loop-at : goal.invariant-loop-at
invariant-loop-at l = run (Record ∷ []) l.lexemes ≡ run (reverse l.stack.items) (drop l.at l.lexemes)
