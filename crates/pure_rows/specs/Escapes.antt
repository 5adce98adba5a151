-- The reading of a field, byte by byte.
use Rattle.std.specs.Prelude.{ℕ, ◌==◌, List, [], ◌∷◌, ◌++◌, Option, Some, None, if◌then◌else◌}
use Rattle.std.specs.Option.{option_to_list}
use Rattle.pure_rows.specs.Fields.{backslash, letter_x, named_byte, digit_count, digits_byte}
use Rattle.pure_rows.specs.declared.escapes.Place.{Place}
use Rattle.pure_rows.specs.declared.escapes.Place.TheVariants.{Plain, Escape, Hexadecimal, Digit, Fault}

-- behind an escape that is complete, if it is one
abbrev pub place_of : Option ℕ → Place
place_of (Some byte) = Plain
place_of None = Fault

-- where reading goes on behind a byte
abbrev pub place_behind : Place → ℕ → Place
place_behind Plain byte = if byte == backslash then Escape else Plain
place_behind Escape byte = if byte == letter_x then Hexadecimal else place_of (named_byte byte)
place_behind Hexadecimal byte = Digit byte
place_behind (Digit high) byte = place_of (digits_byte (digit_count high) (digit_count byte))
place_behind Fault byte = Fault

-- what is complete with a byte
abbrev pub found_with : Place → ℕ → Option ℕ
found_with Plain byte = if byte == backslash then None else Some byte
found_with Escape byte = if byte == letter_x then None else named_byte byte
found_with Hexadecimal byte = None
found_with (Digit high) byte = digits_byte (digit_count high) (digit_count byte)
found_with Fault byte = None

-- where reading ends
abbrev pub place_at_end : Place → List ℕ → Place
place_at_end place [] = place
place_at_end place (byte ∷ bytes) = place_at_end (place_behind place byte) bytes

-- all that is complete at the end
abbrev pub all_found : Place → List ℕ → List ℕ
all_found place [] = []
all_found place (byte ∷ bytes) = option_to_list (found_with place byte) ++ all_found (place_behind place byte) bytes

-- what was found, unless the end stands in an escape
abbrev pub ended : Place → List ℕ → Option (List ℕ)
ended Plain found = Some found
ended _ found = None

abbrev pub field_of : List ℕ → Option (List ℕ)
field_of written = ended (place_at_end Plain written) (all_found Plain written)

abbrev pub before : Option (List ℕ) → Option (List (List ℕ)) → Option (List (List ℕ))
before (Some field) (Some fields) = Some (field ∷ fields)
before _ _ = None

abbrev pub fields_of : List (List ℕ) → Option (List (List ℕ))
fields_of [] = Some []
fields_of (written ∷ others) = before (field_of written) (fields_of others)
