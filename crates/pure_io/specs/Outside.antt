-- What a library of files and a sink of bytes do, in the files and bytes that they tell and in their counts of faults.
use Rattle.std.specs.Prelude.{◌≡◌, ℕ, ◌+◌, ◌-◌, ◌^◌, ◌<◌, ◌≤◌, min, List, [], ◌∷◌, ◌++◌, length, take, Option, Some, None, nat_eq, if◌then◌else◌}
use Rattle.std.specs.Cmp.Lexicographic.{pointwise}
use Rattle.pure_io.specs.declared.library.File.{File}

-- the text of the first file of that name
abbrev pub text_named : List ℕ → List File → Option (List ℕ)
text_named name [] = None
text_named name (file ∷ files) = if pointwise nat_eq file.name name then Some file.text else text_named name files

-- a count of faults rose: it is greater than before, or stands at a counter's last value, 2^64 - 1; counts never pass that value
abbrev pub Rose : ℕ → ℕ → Type 0
Rose before now = min (before + 1) (2 ^ 64 - 1) ≤ now

-- told bytes grew by these, and bytes that weren't told stay so
abbrev pub Appends : Option (List ℕ) → Option (List ℕ) → List ℕ → Type 0
Appends None new bytes = new ≡ None
Appends (Some old) new bytes = new ≡ Some (old ++ bytes)

-- told bytes grew by a part of the text that begins it and isn't all of it
abbrev pub AppendsProperPrefix : Option (List ℕ) → Option (List ℕ) → List ℕ → Type 0
AppendsProperPrefix old new text = (n : ℕ) × (n < length text) × Appends old new (take n text)
