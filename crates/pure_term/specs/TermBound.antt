-- What a finite term map puts for a variable.
use Rattle.std.specs.Prelude.{◌≡◌, List}
use Rattle.pure_text.specs.Lists.{IsIn}
use Rattle.pure_definitions.specs.Terms.Term.{Term}
use Rattle.pure_definitions.specs.Terms.Subst.{TermBind, term_variable}

-- An entry replaces the variable by this image.
abbrev pub IsTermBound : List TermBind → (variable image : Term) → Type 0
IsTermBound binds variable image = (b : TermBind) × IsIn b binds × (term_variable b ≡ variable) × (b.image ≡ image)
