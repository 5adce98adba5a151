-- Histories in which each event stands with the number of the seat that entered it.
use Rattle.std.specs.Prelude.{ℕ, nat_eq, nat_lt, List, [], ◌∷◌, map, length, if◌then◌else◌}

-- the events that the seat of this number entered, in order
abbrev pub entered_by : {E : Type 0} → (number : ℕ) → List (ℕ × E) → List E
entered_by n [] = []
entered_by n (e ∷ es) = if nat_eq e.0 n then (e.1 ∷ entered_by n es) else entered_by n es

-- the events, without the numbers
abbrev pub events : {E : Type 0} → List (ℕ × E) → List E
events log = map (λ e. e.1) log

-- of two lists the longer, and the first where they are as long
abbrev pub longer : {A : Type 0} → List A → List A → List A
longer xs ys = if nat_lt (length xs) (length ys) then ys else xs
