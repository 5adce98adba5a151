-- What a scope lists.
use Rattle.std.specs.Prelude.{List, [], ◌∷◌}
use Rattle.pure_elab.specs.declared.scope.Scope.{Scope, Empty, Under'}
use Rattle.pure_elab.specs.Drafts.{Binder}

-- the binders that a scope lists, the innermost first
abbrev pub binders_of : Scope → List Binder
binders_of Empty = []
binders_of (Under' x t p s) = record { text = x.now; typ = t.now } ∷ binders_of s
