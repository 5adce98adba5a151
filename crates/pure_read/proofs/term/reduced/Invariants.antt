use Rattle.std.proofs.Common.{◌≡◌, length}
use Rattle.pure_grammar.specs.Terms.InnerReader.{reduced}
use Rattle.pure_read.specs.Frames.{seen_stack}
use Rattle.pure_read.proofs.term.reduced.Given as goal

abbrev pub invariant-joins : goal.invariant-joins
invariant-joins l = reduced l.level l.at l.term.value (seen_stack l.stack) ≡ reduced l.level l.fn.at l.fn.term.value (seen_stack l.fn.stack)

abbrev pub decreases-joins : goal.decreases-joins
decreases-joins l = length (seen_stack l.stack)
