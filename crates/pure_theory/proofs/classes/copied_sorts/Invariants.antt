use Rattle.std.proofs.Common.{◌≡◌, take}
use Rattle.std.specs.List.Sorted.{IsStrictlyIncreasing}
use Rattle.pure_text.specs.Lists.{Each}
use Rattle.pure_theory.proofs.classes.copied_sorts.Given as goal

-- what is copied so far
abbrev pub invariant-loop-sort : goal.invariant-loop-sort
invariant-loop-sort l = (l.copies.items ≡ take l.sort-index l.sorts) × Each IsStrictlyIncreasing (take l.sort-index l.sorts)
