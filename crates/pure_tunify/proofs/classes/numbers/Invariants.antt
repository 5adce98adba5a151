use Rattle.std.proofs.Common.{◌≡◌, ℕ, length, get_or}
use Rattle.pure_tunify.proofs.classes.numbers.Given as goal

abbrev pub invariant-loop-i : goal.invariant-loop-i
invariant-loop-i l = record {
  long : length l.xs.items ≡ l.i;
  are : (k : ℕ) → get_or l.xs.items k k ≡ k;
}
