-- Schematic type variables in terms.
use Rattle.std.specs.Prelude.{ℕ, List, Bool, false, ◌||◌, nat_lt}
use Rattle.pure_definitions.specs.Types.Typ.{Typ, TVar}
use Rattle.pure_definitions.specs.Terms.Term.{Term, Const, Free, Var, Bound, Abs, App}
use Rattle.pure_definitions.specs.Terms.Measures.{typ_index_above}
use Rattle.pure_term_laws.specs.LawsOccurs.{TypOccurs}

-- A schematic type variable occurs in the term.
abbrev pub HasTypVariable : Term → Type 0
HasTypVariable t = (x i : ℕ) × (s : List ℕ) × TypOccurs (TVar x i s) t

-- whether a type in the term has a schematic type variable, which is where one above the greatest index of one isn't 0
abbrev pub is_schematic_typ : Typ → Bool
is_schematic_typ T = nat_lt 0 (typ_index_above T)

abbrev pub has_typ_variable : Term → Bool
has_typ_variable (Const c T) = is_schematic_typ T
has_typ_variable (Free x T) = is_schematic_typ T
has_typ_variable (Var x i T) = is_schematic_typ T
has_typ_variable (Bound p) = false
has_typ_variable (Abs T b) = is_schematic_typ T || has_typ_variable b
has_typ_variable (App f a) = has_typ_variable f || has_typ_variable a
