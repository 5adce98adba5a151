-- Lists in which each name is declared once.
use Rattle.std.specs.Prelude.{◌≡◌, List}
use Rattle.pure_text.specs.Lists.{IsIn}
use Rattle.pure_definitions.specs.Declarations.Decl.{Decl}
use Rattle.pure_logic.specs.Content.{AreNamedAlike}

-- Two declarations of one kind with one name are the same.
abbrev pub AreNamedOnce : List Decl → Type 0
AreNamedOnce ds = (d e : Decl) → IsIn d ds → IsIn e ds → AreNamedAlike d e → d ≡ e
