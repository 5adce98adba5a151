-- What contracts see of a library and a sink in memory.
use Rattle.std.specs.Prelude.{◌≡◌, ◌⊎◌, ℕ, ◌-◌, ◌<◌, ◌≤◌, min, List, Contains, length}
use Rattle.pure_io.specs.Counts.{next_count}
use Rattle.pure_io.specs.declared.library.File.{File}

-- a library in memory: its files, the numbers of the calls that fail, how many calls and how many faults there were
pub record LibraryState : Type 0 where
  pub files : List File
  pub failing : List ℕ
  pub calls : ℕ
  pub faults : ℕ

-- the next call is one of those that fail
abbrev pub NextFails : LibraryState → Type 0
NextFails library = Contains library.failing library.calls

-- the library after a call: the call is counted, and a fault where it failed, and all else stays
pub record CountsCall (old new : LibraryState) : Type 0 where
  pub files : new.files ≡ old.files
  pub failing : new.failing ≡ old.failing
  pub calls : new.calls ≡ next_count old.calls
  pub fault : NextFails old → new.faults ≡ next_count old.faults
  pub no_fault : ¬ NextFails old → new.faults ≡ old.faults

-- a sink in memory: the bytes written, how many it has room for, how many it takes in one write, and its calls and faults
pub record SinkState : Type 0 where
  pub bytes : List ℕ
  pub capacity : ℕ
  pub width : ℕ
  pub failing : List ℕ
  pub calls : ℕ
  pub faults : ℕ

-- a write fails where its number is listed, and where the sink is full and the piece isn't empty
abbrev pub WriteFails : SinkState → List ℕ → Type 0
WriteFails sink piece =
    Contains sink.failing sink.calls ⊎ ((sink.capacity ≤ length sink.bytes) × (0 < length piece))

-- how many bytes of a piece are taken: the least of its length, the width and the room left
abbrev pub taken_count : SinkState → List ℕ → ℕ
taken_count sink piece = min (min (length piece) sink.width) (sink.capacity - length sink.bytes)

-- a write was counted, and the sink's limits stay
pub record KeepsLimits (old new : SinkState) : Type 0 where
  pub capacity : new.capacity ≡ old.capacity
  pub width : new.width ≡ old.width
  pub failing : new.failing ≡ old.failing
  pub calls : new.calls ≡ next_count old.calls
