use Rattle.std.proofs.Common.{◌≡◌, ◌++◌, length, reverse}
use Rattle.pure_unify_visits.proofs.splits.take_pairs.Given as goal

abbrev pub invariant-loop : goal.invariant-loop
invariant-loop l = record {
  parts : l.taken.items ++ reverse l.rest.items ≡ reverse l.initial.rest.items;
  many : length l.taken.items ≡ l.counter;
}
