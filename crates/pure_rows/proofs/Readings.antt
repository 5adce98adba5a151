-- What is read of a field is what it stands for.
use Rattle.std.proofs.Common.{◌≡◌, ◌∙◌, ℕ, ◌==◌, Bool, true, false, List, [], ◌∷◌, ◌++◌, refl, sym, ap, Some, None}
use Rattle.std.specs.Prelude.{Option, if◌then◌else◌}
use Rattle.std.specs.Option.{option_to_list}
use Rattle.std.proofs.lemmas.Bool.Decides.{Decides-eqb}
use Rattle.pure_rows.specs.Fields.{StandsFor, Empty, Itself, Named, Numbered, StandForEach, backslash, letter_x, named_byte, digit_count, digits_byte}
use Rattle.pure_rows.specs.Escapes.{place_of, place_behind, found_with, place_at_end, all_found, ended, field_of, before, fields_of}
use Rattle.pure_rows.specs.declared.escapes.Place.{Place}
use Rattle.pure_rows.specs.declared.escapes.Place.TheVariants.{Plain, Escape, Hexadecimal, Digit, Fault}

false_or : (b : Bool) → (b ≡ true → ⊥) → b ≡ false
false_or true other = absurd (other refl)
false_or false other = refl

-- ---- what is read is stood for

-- the field stands for the bytes, where it was read up to a place
abbrev Rest : Place → List ℕ → List ℕ → Type 0
Rest Plain written bytes = StandsFor written bytes
Rest Escape written bytes = StandsFor (backslash ∷ written) bytes
Rest Hexadecimal written bytes = StandsFor (backslash ∷ letter_x ∷ written) bytes
Rest (Digit high) written bytes = StandsFor (backslash ∷ letter_x ∷ high ∷ written) bytes
Rest Fault written bytes = ⊥

plain_step : (t : Bool) (byte : ℕ) (written : List ℕ) → (byte == backslash) ≡ t
    → Rest (if t then Escape else Plain) written (all_found (if t then Escape else Plain) written)
    → StandsFor (byte ∷ written) (option_to_list (if t then None else Some byte) ++ all_found (if t then Escape else Plain) written)
plain_step true byte written e rest = rw ((Decides-eqb byte backslash).0 e) rest
plain_step false byte written e rest =
    Itself byte written (all_found Plain written) (λ is. absurd (cc (e, (Decides-eqb byte backslash).1 is))) rest

named_step : (o : Option ℕ) (letter : ℕ) (written : List ℕ) → named_byte letter ≡ o
    → Rest (place_of o) written (all_found (place_of o) written)
    → StandsFor (backslash ∷ letter ∷ written) (option_to_list o ++ all_found (place_of o) written)
named_step (Some byte) letter written e rest = Named letter byte written (all_found Plain written) e rest
named_step None letter written e rest = absurd rest

escape_step : (t : Bool) (letter : ℕ) (written : List ℕ) → (letter == letter_x) ≡ t
    → Rest (if t then Hexadecimal else place_of (named_byte letter)) written (all_found (if t then Hexadecimal else place_of (named_byte letter)) written)
    → StandsFor (backslash ∷ letter ∷ written) (option_to_list (if t then None else named_byte letter) ++ all_found (if t then Hexadecimal else place_of (named_byte letter)) written)
escape_step true letter written e rest = rw ((Decides-eqb letter letter_x).0 e) rest
escape_step false letter written e rest = named_step (named_byte letter) letter written refl rest

digit_step : (o : Option ℕ) (high low : ℕ) (written : List ℕ) → digits_byte (digit_count high) (digit_count low) ≡ o
    → Rest (place_of o) written (all_found (place_of o) written)
    → StandsFor (backslash ∷ letter_x ∷ high ∷ low ∷ written) (option_to_list o ++ all_found (place_of o) written)
digit_step (Some byte) high low written e rest = Numbered high low byte written (all_found Plain written) e rest
digit_step None high low written e rest = absurd rest

read : (place : Place) (written : List ℕ) → place_at_end place written ≡ Plain → Rest place written (all_found place written)
read Plain [] e = Empty
read Escape [] e = absurd (cc)
read Hexadecimal [] e = absurd (cc)
read (Digit high) [] e = absurd (cc)
read Fault [] e = absurd (cc)
read Plain (byte ∷ written) e = plain_step (byte == backslash) byte written refl (read (place_behind Plain byte) written e)
read Escape (byte ∷ written) e = escape_step (byte == letter_x) byte written refl (read (place_behind Escape byte) written e)
read Hexadecimal (byte ∷ written) e = read (Digit byte) written e
read (Digit high) (byte ∷ written) e =
    digit_step (digits_byte (digit_count high) (digit_count byte)) high byte written refl (read (place_behind (Digit high) byte) written e)
read Fault (byte ∷ written) e = read Fault written e

-- the end of what was read, if it isn't within an escape
ended_plain : (place : Place) (found bytes : List ℕ) → ended place found ≡ Some bytes → (place ≡ Plain) × (found ≡ bytes)
ended_plain Plain found bytes e = (refl, cc)
ended_plain Escape found bytes e = absurd (cc)
ended_plain Hexadecimal found bytes e = absurd (cc)
ended_plain (Digit high) found bytes e = absurd (cc)
ended_plain Fault found bytes e = absurd (cc)

field_read : (written bytes : List ℕ) → field_of written ≡ Some bytes → StandsFor written bytes
field_read written bytes e =
    let ends = ended_plain (place_at_end Plain written) (all_found Plain written) bytes e in
    rw ends.1 at (read Plain written ends.0)

-- ---- what is stood for is read

not_backslash : (byte : ℕ) → (byte ≡ backslash → ⊥) → (byte == backslash) ≡ false
not_backslash byte other = false_or (byte == backslash) (λ e. other ((Decides-eqb byte backslash).0 e))

not_x : (letter byte : ℕ) → named_byte letter ≡ Some byte → (letter == letter_x) ≡ false
not_x letter byte named =
    false_or (letter == letter_x) (λ e. let is = (Decides-eqb letter letter_x).0 e in let none : None ≡ Some byte = rw is at named in cc)

stood_for : (written bytes : List ℕ) → StandsFor written bytes → (place_at_end Plain written ≡ Plain) × (all_found Plain written ≡ bytes)
stood_for _ _ Empty = (refl, refl)
stood_for _ _ (Itself byte written bytes other stands) =
    let rest = stood_for written bytes stands in
    (rw (not_backslash byte other) rest.0, rw (not_backslash byte other) (ap (λ bs. byte ∷ bs) rest.1))
stood_for _ _ (Named letter byte written bytes named stands) =
    let rest = stood_for written bytes stands in
    (rw (not_x letter byte named, named) rest.0, rw (not_x letter byte named, named) (ap (λ bs. byte ∷ bs) rest.1))
stood_for _ _ (Numbered high low byte written bytes counts stands) =
    let rest = stood_for written bytes stands in
    (rw counts rest.0, rw counts (ap (λ bs. byte ∷ bs) rest.1))

field_stood_for : (written bytes : List ℕ) → StandsFor written bytes → field_of written ≡ Some bytes
field_stood_for written bytes stands = let ends = stood_for written bytes stands in rw (ends.0, ends.1) refl

-- ---- lines

before_some : (field : Option (List ℕ)) (fields : Option (List (List ℕ))) (all : List (List ℕ)) → before field fields ≡ Some all
    → (first : List ℕ) × (others : List (List ℕ)) × (field ≡ Some first) × (fields ≡ Some others) × (first ∷ others ≡ all)
before_some (Some first) (Some others) all e = (first, others, refl, refl, cc)
before_some (Some first) None all e = absurd (cc)
before_some None fields all e = absurd (cc)

pub fields_read : (written fields : List (List ℕ)) → fields_of written ≡ Some fields → StandForEach written fields
fields_read [] [] e = tt
fields_read [] (field ∷ fields) e = absurd (cc)
fields_read (text ∷ written) fields e =
    let parts = before_some (field_of text) (fields_of written) fields e in
    rw (sym parts.4) (field_read text parts.0 parts.2, fields_read written parts.1 parts.3)

pub fields_stood_for : (written fields : List (List ℕ)) → StandForEach written fields → fields_of written ≡ Some fields
fields_stood_for [] [] stand = refl
fields_stood_for [] (field ∷ fields) stand = absurd stand
fields_stood_for (text ∷ written) [] stand = absurd stand
fields_stood_for (text ∷ written) (field ∷ fields) stand =
    rw (field_stood_for text field stand.0, fields_stood_for written fields stand.1) refl
