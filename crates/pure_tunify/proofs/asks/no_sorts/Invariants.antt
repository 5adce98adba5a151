use Rattle.std.proofs.Common.{◌≡◌, [], length}
use Rattle.pure_text.specs.Lists.{Each}
use Rattle.pure_tunify.proofs.asks.no_sorts.Given as goal

abbrev pub invariant-loop : goal.invariant-loop
invariant-loop l = record {
  long : length l.sorts.items ≡ l.counter;
  empty : Each (λ s. s ≡ []) l.sorts.items;
}
