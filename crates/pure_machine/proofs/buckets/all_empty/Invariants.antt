use Rattle.std.proofs.Common.{◌≡◌, ◌-◌, ℕ, [], get_or, vec_len}
use Rattle.pure_machine.proofs.buckets.all_empty.Given as goal

-- those so far are empty
abbrev pub invariant-loop-alloc : goal.invariant-loop-alloc
invariant-loop-alloc g l = (k : ℕ) → get_or l.list.items k [] ≡ []

abbrev pub decreases-loop-alloc : goal.decreases-loop-alloc
decreases-loop-alloc g l = l.count - vec_len l.list
