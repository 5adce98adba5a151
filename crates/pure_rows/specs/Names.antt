-- What words stand for.
use Rattle.std.specs.Prelude.{ℕ, List, [], ◌∷◌, Option, Some, None, if◌then◌else◌}
use Rattle.std.specs.Str.{bytes_eq}

-- what stands beside the first name that is the word
abbrev pub meant_by : {T : Type 0} → List (List ℕ × T) → List ℕ → Option T
meant_by [] word = None
meant_by (entry ∷ others) word = if bytes_eq entry.0 word then Some entry.1 else meant_by others word
