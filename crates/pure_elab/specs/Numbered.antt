-- Type variables that are numbered by first occurrence: the unknowns of a constant's occurrence, and the fixed variables that left unknowns become.
use Rattle.std.specs.Prelude.{ℕ, ◌+◌, Bool, List, [], ◌∷◌, ◌++◌, length, if◌then◌else◌}
use Rattle.std.specs.List.{list_any}
use Rattle.pure_definitions.specs.Types.Typ.{Typ, TFree, TVar, typ_eq}
use Rattle.pure_definitions.specs.Terms.Term.{Term, Const, Free, Var, Bound, Abs, App}
use Rattle.pure_definitions.specs.Terms.Subst.{TypBind, typ_variable, typ_image, inst_typ}
use Rattle.pure_tunify.specs.Occurrences.{schematics}
use Rattle.pure_tunify.specs.Settings.{bind}

-- whether an entry is for the variable
abbrev pub has_entry : List TypBind → Typ → Bool
has_entry binds v = list_any (λ b. typ_eq (typ_variable b) v) binds

-- the entries, with one more for the variable, if it has none yet: its image is that of the next number
abbrev pub with_entry : (image : ℕ → List ℕ → Typ) → (first : ℕ) → List TypBind → Typ → List TypBind
with_entry image first binds (TVar x i s) = if has_entry binds (TVar x i s) then binds else binds ++ bind x i s (image (first + length binds) s) ∷ []
with_entry image first binds _ = binds

-- the same of variables one after the other: so the one that stands first in the list has the first number
abbrev pub numbered : (image : ℕ → List ℕ → Typ) → (first : ℕ) → List TypBind → List Typ → List TypBind
numbered image first binds [] = binds
numbered image first binds (v ∷ vs) = numbered image first (with_entry image first binds v) vs

-- the schematic type variables of a term in preorder, each as often as it stands there
abbrev pub term_variables : Term → List Typ
term_variables (Const c T) = schematics T
term_variables (Free x T) = schematics T
term_variables (Var x i T) = schematics T
term_variables (Bound n) = []
term_variables (Abs T b) = schematics T ++ term_variables b
term_variables (App f a) = term_variables f ++ term_variables a

-- the unknown of this number and sort
abbrev pub unknown_of : ℕ → List ℕ → Typ
unknown_of n s = TVar n 0 s

-- the unknowns of an occurrence of a constant of this declared type, from this number on
abbrev pub unknowns : (next : ℕ) → Typ → List TypBind
unknowns next T = numbered unknown_of next [] (schematics T)

-- the fixed type variables that the term's schematic ones become, with names from this one on
abbrev pub fixings : (fresh : ℕ) → Term → List TypBind
fixings fresh t = numbered TFree fresh [] (term_variables t)

-- the term with its schematic type variables made fixed
abbrev pub with_fixed : (fresh : ℕ) → Term → Term
with_fixed fresh t = inst_typ (typ_image (fixings fresh t)) t
