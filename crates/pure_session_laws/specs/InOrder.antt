-- The order of a session's theories.
use Rattle.std.specs.Prelude.{◌≡◌, ◌≤◌, ℕ, List, map, slice_get, Some}
use Rattle.pure_text.specs.Lists.{Each, AreDistinct}
use Rattle.pure_graph.specs.Reading.{Answer}
use Rattle.pure_graph.specs.Order.{Loaded}
use Rattle.pure_graph.specs.Session.{Refusal, IsLoadingOf}

-- Of a theory with so many theories before it: the indexes of its parents, which count from 1, are those of theories before it, each once.
pub record AreParents (before : ℕ) (parents : List ℕ) : Type 0 where
  pub earlier : Each (λ p. (1 ≤ p) × (p ≤ before)) parents
  pub distinct : AreDistinct parents

-- The names of the theories are distinct, and the parents of each come before it.
pub record AreInOrder (theories : List Loaded) : Type 0 where
  pub names : AreDistinct (map (λ (l : Loaded). l.name) theories)
  pub parents : (k : ℕ) (l : Loaded) → slice_get theories k ≡ Some l → AreParents k l.parents

-- The theories that are loaded are in order.
abbrev pub LoadedInOrder : Type 0
LoadedInOrder = (answers : List Answer) (theories : List Loaded) (refused : List Refusal) (files : ℕ) → IsLoadingOf answers theories refused files → AreInOrder theories
