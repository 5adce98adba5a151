use Rattle.std.proofs.Common.{◌≡◌, ◌≤◌, length, Some}
use Rattle.pure_io.specs.Entries.{names_in}
use Rattle.pure_io.proofs.entries.names_within.Given as goal

abbrev pub invariant-loop-entry : goal.invariant-loop-entry
invariant-loop-entry g l = record {
  can : (goal.iterator-loop-entry g).can_next l.entry-iterator;
  ends : (goal.iterator-loop-entry g).is_finite l.entry-iterator;
  counted : l.count ≡ length l.yielded;
  within : l.count ≤ l.limit;
  named : names_in l.yielded ≡ Some l.names.items;
}
