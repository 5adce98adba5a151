-- A session whose theories are run: the texts of its names, and its theories in load order.
use Rattle.std.specs.Prelude.{ℕ, List}
use Rattle.pure_graph.specs.Order.{Loaded}

pub record Checked : Type 0 where
  pub texts : List (List ℕ)
  pub theories : List Loaded
