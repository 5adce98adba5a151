-- The places of a type map's entries in the order of their variables.
use Rattle.std.specs.Prelude.{ℕ, List, [], map}
use Rattle.pure_definitions.specs.Types.Typ.{Typ, TVar}
use Rattle.pure_definitions.specs.Terms.Subst.{TypBind, typ_variable}
use Rattle.pure_definitions.specs.Models.Comparison.{typ_cmp}
use Rattle.pure_typ.specs.Ascending.{AreAscending, IsBetween}

-- The places are those of the entries, in the ascending order of their variables.
abbrev pub AreTypPlaces : List TypBind → List ℕ → Type 0
AreTypPlaces binds places = AreAscending typ_cmp (TVar 0 0 []) (map typ_variable binds) places

-- where among them a variable stands or would stand
abbrev pub IsTypPlace : List TypBind → List ℕ → Typ → ℕ → Type 0
IsTypPlace binds places v at = IsBetween typ_cmp (TVar 0 0 []) (map typ_variable binds) places v at at
