-- Statements with fixed variables in place of schematic ones.
use Rattle.pure_definitions.specs.Types.Typ.{Typ, TFree, TVar}
use Rattle.pure_definitions.specs.Terms.Term.{Term, Free, Var}
use Rattle.pure_definitions.specs.Terms.Subst.{typ_instance, term_instance, retyped_variable}

-- the fixed type variable of the same name and sort in place of a schematic one, whatever its index
abbrev pub fixed_typ_variable : Typ → Typ
fixed_typ_variable (TVar x i s) = TFree x s
fixed_typ_variable T = T

-- the fixed variable of the same name in place of a schematic one, whatever its index
abbrev pub fixed_variable : Term → Term
fixed_variable (Var x i T) = Free x (typ_instance fixed_typ_variable T)
fixed_variable t = retyped_variable fixed_typ_variable t

-- the term with its schematic variables and its schematic type variables fixed
abbrev pub fixed_again : Term → Term
fixed_again t = term_instance fixed_typ_variable fixed_variable t
