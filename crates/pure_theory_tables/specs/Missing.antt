-- What a list lacks of another.
use Rattle.std.specs.Prelude.{◌≡◌, List, ◌∷◌, ◌++◌}
use Rattle.pure_text.specs.Lists.{IsIn, Each}
use Rattle.pure_definitions.specs.Declarations.Decl as tree
use Rattle.pure_theory_tables.specs.declared.decl.Decl.{Decl}
use Rattle.pure_theory_tables.specs.View.{outline}

-- It is the first declaration of the first list that isn't one of the second.
pub record IsFirstMissing (ds es : List tree.Decl) (found : Decl) : Type 0 where
  pub front : List tree.Decl
  pub decl : tree.Decl
  pub rest : List tree.Decl
  pub is : ds ≡ front ++ decl ∷ rest
  pub there : Each (λ d. IsIn d es) front
  pub missing : ¬ IsIn decl es
  pub outlined : found ≡ outline decl
