-- Numbers in decimal.
use Rattle.std.specs.Prelude.{ℕ, ◌+◌, ◌-◌, ◌*◌, ◌&&◌, Bool, List, [], ◌∷◌, Option, Some, None, length, nat_le, if◌then◌else◌}
use Rattle.std.specs.List.{list_all}
use Rattle.std.specs.Char.{is_ascii_digit}

-- one to nine decimal digits
abbrev pub is_number : List ℕ → Bool
is_number text = nat_le 1 (length text) && nat_le (length text) 9 && list_all is_ascii_digit text

-- the value of digits that stand behind a number
abbrev pub value_behind : ℕ → List ℕ → ℕ
value_behind value [] = value
value_behind value (digit ∷ digits) = value_behind (value * 10 + (digit - 48)) digits

abbrev pub number_of : List ℕ → Option ℕ
number_of text = if is_number text then Some (value_behind 0 text) else None
