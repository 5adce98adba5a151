-- Theories whose names aren't those of Pure's.
use Rattle.std.specs.Prelude.{◌≢◌, List}
use Rattle.pure_text.specs.Lists.{IsIn, Each}
use Rattle.pure_graph.specs.Order.{Loaded}
use Rattle.pure_graph.specs.Outcome.{pure_theory}

-- the names of the theories have no dot (46), and none is that of the built-in theory
abbrev pub ArePlain : List Loaded → Type 0
ArePlain theories = Each (λ (l : Loaded). (¬ IsIn 46 l.name) × (l.name ≢ pure_theory)) theories
