-- What the seats of a board saw.
use Rattle.std.specs.Prelude.{◌⊎◌, List}
use mathlib.Core.List.{IsPrefix}
use Rattle.pure_text.specs.Lists.{IsIn}
use Rattle.pure_board.specs.Sight.{Sight}

-- Of what two of these seats saw the longer begins with the shorter.
abbrev pub BeginAlike : {W G C O : Type 0} → List (Sight W G C O) → Type 0
BeginAlike {W} {G} {C} {O} seats = (a b : Sight W G C O) → IsIn a seats → IsIn b seats → IsPrefix a.seen b.seen ⊎ IsPrefix b.seen a.seen
