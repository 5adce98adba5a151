-- Laws that theories close: their parents merge, or one of them is the first in conflict.
use Rattle.std.specs.Prelude.{◌⊎◌, ℕ, List}
use Rattle.pure_definitions.specs.Declarations.Decl.{Decl}
use Rattle.pure_logic.specs.Content.{Content}
use Rattle.pure_logic.specs.Beginning.{IsMerge}
use Rattle.pure_session_laws.specs.Theory.Begin.{IsFirstConflict}
use Rattle.pure_graph.specs.Order.{Loaded}
use Rattle.pure_session_laws.specs.Loaded.{IsLoadedSession}
use Rattle.pure_session_meaning.specs.Verdicts.{Verdict, IsTheoryAt, Closes, AllClose}

-- The parents merge, one after the other, or one of them is the first in conflict.
abbrev pub MergesOrNot : List Content → Type 0
MergesOrNot parents = ((merged : List Decl) × IsMerge parents merged) ⊎ ((con : ℕ) × (c1 : ℕ) × (c2 : ℕ) × IsFirstConflict parents con c1 c2)

-- Any contents do one or the other.
abbrev pub ContentsMergeOrNot : Type 0
ContentsMergeOrNot = (parents : List Content) → MergesOrNot parents

-- A theory whose parents have closed closes too.
abbrev pub TheoryCloses : Type 0
TheoryCloses = (texts : List (List ℕ)) (theories : List Loaded) → IsLoadedSession texts theories
    → (index : ℕ) (theory : Loaded) → IsTheoryAt theories index theory → (parents : List Verdict) → AllClose texts theories theory.parents parents
    → (v : Verdict) × Closes texts theories index v
