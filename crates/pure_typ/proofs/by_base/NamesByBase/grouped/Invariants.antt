use Rattle.std.proofs.Common.{◌≡◌, ℕ, List, filter}
use Rattle.std.specs.List.{range_with_len}
use Rattle.pure_typ.specs.NameBases.{names_at, has_base}
use Rattle.pure_typ.proofs.by_base.NamesByBase.grouped.Given as goal

-- The map has for each base those of the numbers so far that have it.
abbrev pub invariant-loop-number : goal.invariant-loop-number
invariant-loop-number l = (base : List ℕ) → names_at l.by_base base ≡ filter (has_base l.fn.names base) (range_with_len 0 l.number)
