-- What a finite type map puts for a type variable.
use Rattle.std.specs.Prelude.{◌≡◌, List}
use Rattle.pure_text.specs.Lists.{IsIn}
use Rattle.pure_definitions.specs.Types.Typ.{Typ}
use Rattle.pure_definitions.specs.Terms.Subst.{TypBind, typ_variable}

-- An entry replaces the variable by this image.
abbrev pub IsTypBound : List TypBind → (variable image : Typ) → Type 0
IsTypBound binds variable image = (b : TypBind) × IsIn b binds × (typ_variable b ≡ variable) × (b.image ≡ image)
