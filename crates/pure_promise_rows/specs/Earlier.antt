-- Promises of earlier places.
use Rattle.std.specs.Prelude.{◌≡◌, ◌<◌, ℕ, List}
use Rattle.pure_text.specs.Lists.{IsIn}
use Rattle.pure_definitions.specs.Names.{Label}
use Rattle.pure_definitions.specs.Terms.Term.{Term}
use Rattle.pure_definitions.specs.Declarations.Decl.{Decl, PromiseDecl}

-- Each promise is of the theory 1, and of a command before this one.
abbrev pub AreEarlier : ℕ → List Decl → Type 0
AreEarlier place ds = (x : ℕ) (l : Label) (A : Term) → IsIn (PromiseDecl x l A) ds → (l.theory ≡ 1) × (l.command < place)
