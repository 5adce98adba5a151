-- Statements with schematic variables in place of fixed ones.
use Rattle.pure_definitions.specs.Terms.Term.{Term, Free, Var}
use Rattle.pure_definitions.specs.Terms.Subst.{typ_instance, term_instance, retyped_variable}
use Rattle.pure_logic.specs.Content.{schematic_typ_variable}

-- the schematic variable of the same name, with the index 0, in place of a fixed one
abbrev pub schematic_variable : Term → Term
schematic_variable (Free x T) = Var x 0 (typ_instance schematic_typ_variable T)
schematic_variable t = retyped_variable schematic_typ_variable t

-- the term with its fixed variables and its fixed type variables made schematic
abbrev pub generalised : Term → Term
generalised t = term_instance schematic_typ_variable schematic_variable t
