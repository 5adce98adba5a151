use Rattle.std.proofs.Common.{◌≡◌, ℕ, length, get_or}
use Rattle.pure_citations.proofs.index.widen.Given as goal

abbrev pub invariant-loop-at : goal.invariant-loop-at
invariant-loop-at l = (length l.list.items ≡ l._at) × ((k : ℕ) → get_or l.list.items k 0 ≡ get_or l.fn.list.items k 0)
