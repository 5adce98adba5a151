-- What is known of the theories of a session when they are checked.
use Rattle.std.specs.Prelude.{◌≡◌, ◌≤◌, ℕ, List, map, slice_get, Some}
use Rattle.pure_text.specs.Lists.{Each, AreDistinct}
use Rattle.pure_typ.specs.NameTexts.{AreSessionTexts}
use Rattle.pure_graph.specs.Order.{Loaded}
use Rattle.pure_session_laws.specs.Well.{IsWellLoaded}

-- The texts are those of a session, each of its theories is well loaded, their names are distinct, and the parents of each, whose indexes count from 1, come before it.
pub record IsLoadedSession (texts : List (List ℕ)) (theories : List Loaded) : Type 0 where
  pub names : AreSessionTexts texts
  pub well : Each (IsWellLoaded texts) theories
  pub distinct : AreDistinct (map (λ (l : Loaded). l.name) theories)
  pub parents : (place : ℕ) (theory : Loaded) → slice_get theories place ≡ Some theory → Each (λ p. (1 ≤ p) × (p ≤ place)) theory.parents
