-- What numbered variables become.
use Rattle.std.specs.Prelude.{ℕ, List}
use Rattle.pure_definitions.specs.Types.Typ.{Typ, TFree}
use Rattle.pure_elab.specs.declared.numbers.Numbering.{Numbering}
use Rattle.pure_elab.specs.declared.numbers.Numbering.TheVariants as numbering
use Rattle.pure_elab.specs.Numbered.{unknown_of}

-- the image of a variable with a number
abbrev pub image_of : Numbering → ℕ → List ℕ → Typ
image_of numbering.Unknowns = unknown_of
image_of numbering.Fixed = TFree
