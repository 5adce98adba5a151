-- What a scope lists.
use Rattle.std.specs.Prelude.{List, [], ◌∷◌}
use Rattle.pure_definitions.specs.Types.Typ.{Typ}
use Rattle.pure_term.specs.declared.scope.Scope.{Scope, Empty, Under'}

-- the types of the binders that a scope lists, the innermost first
abbrev pub scope_typs : Scope → List Typ
scope_typs Empty = []
scope_typs (Under' t p s) = t.now ∷ scope_typs s
