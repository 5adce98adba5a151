-- The places of a term map's entries in the order of their variables.
use Rattle.std.specs.Prelude.{ℕ, List, [], map}
use Rattle.pure_definitions.specs.Types.Typ.{TFree}
use Rattle.pure_definitions.specs.Terms.Term.{Term, Var}
use Rattle.pure_definitions.specs.Terms.Subst.{TermBind, term_variable}
use Rattle.pure_definitions.specs.Models.Comparison.{term_cmp}
use Rattle.pure_typ.specs.Ascending.{AreAscending, IsBetween}

-- The places are those of the entries, in the ascending order of their variables.
abbrev pub AreTermPlaces : List TermBind → List ℕ → Type 0
AreTermPlaces binds places = AreAscending term_cmp (Var 0 0 (TFree 0 [])) (map term_variable binds) places

-- where among them a variable stands or would stand
abbrev pub IsTermPlace : List TermBind → List ℕ → Term → ℕ → Type 0
IsTermPlace binds places v at = IsBetween term_cmp (Var 0 0 (TFree 0 [])) (map term_variable binds) places v at at
