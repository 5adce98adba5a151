-- Pairs, entries and states with images put in by renaming.
use Rattle.std.specs.Prelude.{List, ◌++◌, map}
use Rattle.pure_definitions.specs.Terms.Term.{Term}
use Rattle.pure_definitions.specs.Terms.Subst.{TermBind, term_image}
use Rattle.pure_logic.specs.Derivable.{Pair}
use Rattle.pure_pattern_laws.specs.Steps.{State}
use Rattle.pure_pattern_laws.specs.Putting.{put_in}

abbrev pub pair_put : (Term → Term) → Pair → Pair
pair_put terms p = record { left = put_in terms p.left; right = put_in terms p.right }

abbrev pub bind_put : (Term → Term) → TermBind → TermBind
bind_put terms b = record { name = b.name; index = b.index; typ = b.typ; image = put_in terms b.image }

-- the state in which these variables are set
abbrev pub state_put : List TermBind → State → State
state_put bs s = record { pairs = map (pair_put (term_image bs)) s.pairs; binds = map (bind_put (term_image bs)) s.binds ++ bs }
