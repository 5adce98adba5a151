-- Declarations that are told by one name or one label.
use Rattle.std.specs.Prelude.{◌≡◌, ◌⊎◌, ℕ, List}
use Rattle.pure_text.specs.Lists.{IsIn}
use Rattle.pure_definitions.specs.Declarations.Decl.{Decl, ClassDecl}
use Rattle.pure_logic.specs.Content.{AreNamedAlike, AreLabelledAlike}

-- The declarations are of one kind with one name, or promises with one label.
abbrev pub AreAlike : Decl → Decl → Type 0
AreAlike d e = AreNamedAlike d e ⊎ AreLabelledAlike d e

-- The list has a declaration like this one.
abbrev pub HasAlike : List Decl → Decl → Type 0
HasAlike ds d = (e : Decl) × IsIn e ds × AreAlike d e

-- Two declarations of the list that are alike are the same.
abbrev pub AreOnce : List Decl → Type 0
AreOnce ds = (d e : Decl) → IsIn d ds → IsIn e ds → AreAlike d e → d ≡ e

-- What the list declares like this declaration is this declaration itself.
abbrev pub Fits : List Decl → Decl → Type 0
Fits ds d = (e : Decl) → IsIn e ds → AreAlike d e → d ≡ e

-- The declaration is that of the class of this name.
abbrev pub IsOfClass : Decl → ℕ → Type 0
IsOfClass (ClassDecl k) n = k.name ≡ n
IsOfClass _ n = ⊥
