-- Texts that are written short.
use Rattle.std.specs.Prelude.{ℕ, zero, suc, ◌==◌, List, [], ◌∷◌, ◌++◌}
use Rattle.std.specs.List.{slice_split}
use Rattle.std.specs.Option.{unwrap_or}
use Rattle.pure_rows.specs.Numbers.{number_of}

abbrev pub at_sign : ℕ
at_sign = 64

-- the piece so often
abbrev pub repeated : ℕ → List ℕ → List ℕ
repeated zero piece = []
repeated (suc n) piece = piece ++ repeated n piece

-- The text of the parts between the `@`: the first stands for itself, the second and the third for the third as often as the
-- second says, and then this begins again. What is no number says never, and a number with no piece behind it nothing.
abbrev pub text_of_parts : List (List ℕ) → List ℕ
text_of_parts [] = []
text_of_parts (plain ∷ []) = plain
text_of_parts (plain ∷ count ∷ []) = plain
text_of_parts (plain ∷ count ∷ piece ∷ others) = plain ++ repeated (unwrap_or (number_of count) 0) piece ++ text_of_parts others

abbrev pub text_of : List ℕ → List ℕ
text_of short = text_of_parts (slice_split (λ b. b == at_sign) short)
