-- Entries that are kept in a list while they are few, and else in a map.
use Rattle.std.specs.Prelude.{List, Option, None, Some}
use Rattle.pure_definitions.specs.Terms.Subst.{TypBind}

-- those of the map, where there is one, and else those of the list
abbrev pub entries_of : (few : List TypBind) → Option (List TypBind) → List TypBind
entries_of few None = few
entries_of few (Some all) = all
