-- The attempts of one worker: those of its lane, lane, lane + width, lane + 2 * width and so on.
use Rattle.std.specs.Prelude.{◌≡◌, ◌<◌, ◌≤◌, ◌+◌, ◌*◌, ◌⊎◌, ℕ, Bool, List, [], ◌∷◌, length, slice_index_or, true, false}
use Rattle.pure_race.specs.declared.lanes.End.{End}
use Rattle.pure_race.specs.declared.lanes.End.TheVariants.{Won, Lost, Left, Lacking}
use Rattle.pure_race.specs.declared.lanes.Lane.{Lane}

-- each attempt of the lane below the number loses
abbrev pub LaneLoses : (Wins : ℕ → Bool → Type 0) → ℕ → ℕ → ℕ → Type 0
LaneLoses Wins width lane below = (k : ℕ) → lane + k * width < below → Wins (lane + k * width) false

-- the number is one of the lane
abbrev pub IsInLane : ℕ → ℕ → ℕ → Type 0
IsInLane width lane n = (k : ℕ) × (n ≡ lane + k * width)

-- below count: a number that wins, or count itself
abbrev pub IsBound : (Wins : ℕ → Bool → Type 0) → ℕ → ℕ → Type 0
IsBound Wins count n = (n ≡ count) ⊎ ((n < count) × Wins n true)

-- what a lane's end says of its attempts below count
abbrev pub IsEnd : (Wins : ℕ → Bool → Type 0) → ℕ → ℕ → ℕ → End → Type 0
IsEnd Wins count width lane Lacking = Unit {0}
IsEnd Wins count width lane Lost = LaneLoses Wins width lane count
IsEnd Wins count width lane (Won n) = (n < count) × Wins n true × LaneLoses Wins width lane n
IsEnd Wins count width lane (Left n) = (n < count) × IsInLane width lane n × LaneLoses Wins width lane n

-- what the ends of all lanes say, each at its place
abbrev pub AreEnds : (Wins : ℕ → Bool → Type 0) → ℕ → ℕ → List End → Type 0
AreEnds Wins count width ends = (i : ℕ) → i < length ends → IsEnd Wins count width i (slice_index_or ends i Lacking)

-- these lanes begin at this number and the next ones, each at one more
abbrev pub AreLanesFrom : ℕ → List Lane → Type 0
AreLanesFrom n [] = Unit {0}
AreLanesFrom n (lane ∷ lanes) = (lane.first ≡ n) × AreLanesFrom (n + 1) lanes

-- the lane stays that lane, with its end
abbrev pub IsEnded : (Wins : ℕ → Bool → Type 0) → ℕ → ℕ → Lane → Lane → Type 0
IsEnded Wins count width old new = (new.first ≡ old.first) × IsEnd Wins count width old.first new.end

-- the new bound is the lesser of the old one and of the first attempt of the lane that wins
abbrev pub IsSettled : (Wins : ℕ → Bool → Type 0) → ℕ → ℕ → ℕ → ℕ → ℕ → Type 0
IsSettled Wins count width lane old new = IsBound Wins count new × (new ≤ old) × LaneLoses Wins width lane new
