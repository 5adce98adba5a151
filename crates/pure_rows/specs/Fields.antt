-- What a line stands for: its fields, each of which stands for bytes.
use Rattle.std.specs.Prelude.{◌≡◌, ◌≢◌, ℕ, ◌+◌, ◌-◌, ◌*◌, ◌==◌, ◌&&◌, List, [], ◌∷◌, Option, Some, None, nat_le, if◌then◌else◌}
use Rattle.std.specs.List.{slice_split}

abbrev pub tab : ℕ
tab = 9

abbrev pub backslash : ℕ
backslash = 92

-- the letter of `\x`
abbrev pub letter_x : ℕ
letter_x = 120

-- the byte that a letter behind a backslash stands for: `\n`, `\t`, `\r` and `\\`
abbrev pub named_byte : ℕ → Option ℕ
named_byte letter =
    if letter == 110 then Some 10 else
    (if letter == 116 then Some 9 else
    (if letter == 114 then Some 13 else
    (if letter == 92 then Some 92 else None)))

-- what a hexadecimal digit counts
abbrev pub digit_count : ℕ → Option ℕ
digit_count byte =
    if nat_le 48 byte && nat_le byte 57 then Some (byte - 48) else
    (if nat_le 97 byte && nat_le byte 102 then Some (byte - 97 + 10) else None)

-- the byte of two digits
abbrev pub digits_byte : Option ℕ → Option ℕ → Option ℕ
digits_byte (Some high) (Some low) = Some (high * 16 + low)
digits_byte _ _ = None

-- A written field stands for bytes: each byte but a backslash for itself, a backslash and a letter for the byte of that letter,
-- and `\x` with two hexadecimal digits for their byte.
pub data StandsFor : List ℕ → List ℕ → Type 0 where
  Empty : StandsFor [] []
  Itself : (byte : ℕ) (written bytes : List ℕ) → byte ≢ backslash → StandsFor written bytes → StandsFor (byte ∷ written) (byte ∷ bytes)
  Named : (letter byte : ℕ) (written bytes : List ℕ) → named_byte letter ≡ Some byte → StandsFor written bytes
      → StandsFor (backslash ∷ letter ∷ written) (byte ∷ bytes)
  Numbered : (high low byte : ℕ) (written bytes : List ℕ) → digits_byte (digit_count high) (digit_count low) ≡ Some byte
      → StandsFor written bytes → StandsFor (backslash ∷ letter_x ∷ high ∷ low ∷ written) (byte ∷ bytes)

-- each of the texts stands for the field at its place
abbrev pub StandForEach : List (List ℕ) → List (List ℕ) → Type 0
StandForEach [] [] = Unit {0}
StandForEach (written ∷ others) (field ∷ fields) = StandsFor written field × StandForEach others fields
StandForEach _ _ = ⊥

-- the line stands for these fields, with tabs between them
abbrev pub IsRow : List ℕ → List (List ℕ) → Type 0
IsRow line fields = StandForEach (slice_split (λ b. b == tab) line) fields

-- the line stands for no fields
abbrev pub IsNoRow : List ℕ → Type 0
IsNoRow line = (fields : List (List ℕ)) → IsRow line fields → ⊥
