-- The runs of a shelf.
use Rattle.std.specs.Prelude.{◌≡◌, ◌≤◌, ◌<◌, ℕ, ◌+◌, ◌^◌, List, ◌++◌, length, map}
use Rattle.std.specs.Ordering.{nat_cmp}
use Rattle.std.specs.FinMap.{from_entries, len}
use Rattle.pure_text.specs.Lists.{Each}
use Rattle.pure_shared_maps.specs.Pairs.{Ascends, HasSame, joined}
use Rattle.pure_shared_maps.specs.Powers.{Descends, IsPower}

-- The runs ascend, their lengths are powers of two, the greatest first, and there are as many keys as pairs.
pub record IsShelf {V : Type 0} (runs : List (List (ℕ × V))) (count : ℕ) : Type 0 where
  pub ascend : Each Ascends runs
  pub lengths : Descends 32 (map length runs)
  pub long : length (joined runs) ≡ count
  pub distinct : len (from_entries {R = nat_cmp} (joined runs)) ≡ count

-- A run that is no longer than the last can be put behind the runs, or be merged with the last.
pub record CanTake {V : Type 0} (runs : List (List (ℕ × V))) (run : List (ℕ × V)) : Type 0 where
  pub ascend : Each Ascends runs
  pub ascends : Ascends run
  pub lengths : Descends 32 (map length runs)
  pub power : IsPower (length run)
  pub least : Each (λ r. length run ≤ length r) runs
  pub room : length (joined runs) + length run < 2 ^ 32

-- The runs have the pairs of these runs and of this one.
pub record HasTaken {V : Type 0} (runs : List (List (ℕ × V))) (run : List (ℕ × V)) (all : List (List (ℕ × V))) : Type 0 where
  pub ascend : Each Ascends all
  pub lengths : Descends 32 (map length all)
  pub same : HasSame (joined all) (joined runs ++ run)
