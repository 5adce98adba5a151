use Rattle.std.proofs.Common.{◌≡◌, length}
use Rattle.pure_grammar.specs.Terms.InnerReader.{ranged}
use Rattle.pure_read.specs.Frames.{seen_stack}
use Rattle.pure_read.proofs.typ.ranged.Given as goal

abbrev pub invariant-arrows : goal.invariant-arrows
invariant-arrows l = ranged l.at l.typ (seen_stack l.stack) ≡ ranged l.fn.at l.fn.typ (seen_stack l.fn.stack)

abbrev pub decreases-arrows : goal.decreases-arrows
decreases-arrows l = length (seen_stack l.stack)
