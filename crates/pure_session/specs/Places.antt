-- Places of texts among others, and which places lead to which.
use Rattle.std.specs.Prelude.{◌≡◌, ◌⊎◌, ◌↔◌, ◌<◌, ℕ, suc, Bool, true, false, List, [], ◌∷◌, map, get_or, if◌then◌else◌}
use Rattle.std.specs.Global.{Vec}
use Rattle.pure_grammar.specs.Theories.Lexeme.{same}

-- the place of a text among others, their number where it isn't among them
abbrev pub place_in : (texts : List (List ℕ)) → (text : List ℕ) → ℕ
place_in [] text = 0
place_in (t ∷ texts) text = if same t text then 0 else suc (place_in texts text)

-- the place is marked in the row
abbrev pub HasMark : (row : List Bool) → (place : ℕ) → Type 0
HasMark row place = get_or row place false ≡ true

abbrev pub cells : List (Vec Bool) → List (List Bool)
cells = map (λ (row : Vec Bool). row.items)

-- Of each row some places are marked: the row's own place leads to them.
abbrev pub is_marked : List (List Bool) → (from to : ℕ) → Bool
is_marked rows from to = get_or (get_or rows from []) to false

abbrev pub IsMarked : List (List Bool) → (from to : ℕ) → Type 0
IsMarked rows from to = is_marked rows from to ≡ true

-- the second row has what the first has, and what the other has if the first leads through its place
abbrev pub IsJoined : (through : ℕ) → (other row joined : List Bool) → Type 0
IsJoined through other row joined = (i : ℕ) → HasMark joined i ↔ (HasMark row i ⊎ (HasMark row through × HasMark other i))

-- From one place to another, by places below a bound.
pub data Path (marked : ℕ → ℕ → Bool) (bound : ℕ) : (from to : ℕ) → Type 0 where
  direct : (i j : ℕ) → marked i j ≡ true → Path marked bound i j
  along : (i k j : ℕ) → marked i k ≡ true → k < bound → Path marked bound k j → Path marked bound i j
