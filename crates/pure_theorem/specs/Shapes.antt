-- Terms and types that have not a given form; and terms that have a type.
use Rattle.std.specs.Prelude.{◌≡◌, ◌≢◌, ℕ, []}
use Rattle.pure_definitions.specs.Types.Typ.{Typ}
use Rattle.pure_definitions.specs.Terms.Term.{Term, Const, App}
use Rattle.pure_definitions.specs.Terms.Typing.{HasType}
use Rattle.pure_logic.specs.Connectives.{eq_typ, all_typ, imp, eq, all_of}

-- The type isn't that of equality, or of quantification, at any type.
abbrev pub IsNoEqTyp : Typ → Type 0
IsNoEqTyp typ = (T : Typ) → typ ≢ eq_typ T

abbrev pub IsNoAllTyp : Typ → Type 0
IsNoAllTyp typ = (T : Typ) → typ ≢ all_typ T

-- The term isn't a constant of this name; or an application.
abbrev pub IsNoConstTyped : ℕ → Term → Type 0
IsNoConstTyped name t = (T : Typ) → t ≢ Const name T

abbrev pub IsNoApplication : Term → Type 0
IsNoApplication t = (f a : Term) → t ≢ App f a

-- The term isn't an implication; or an equation; or a quantification over a function.
abbrev pub IsNoImplication : Term → Type 0
IsNoImplication t = (A B : Term) → t ≢ imp A B

abbrev pub IsNoEquation : Term → Type 0
IsNoEquation t = (T : Typ) (u v : Term) → t ≢ eq T u v

abbrev pub IsNoQuantification : Term → Type 0
IsNoQuantification t = (T : Typ) (f : Term) → t ≢ all_of T f

-- The term has a type under no binders.
abbrev pub IsTyped : Term → Type 0
IsTyped t = (T : Typ) × HasType [] t T
