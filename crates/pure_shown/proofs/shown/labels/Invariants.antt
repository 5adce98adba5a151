use Rattle.pure_theorem.specs.Sets.{IsLabelSet}
use Rattle.pure_shown.proofs.shown.labels.Given as goal

abbrev pub invariant-loop-digit : goal.invariant-loop-digit
invariant-loop-digit l = IsLabelSet l.set.items
