-- What files that were read make.
use Rattle.std.specs.Prelude.{◌≡◌, ℕ, List, length, map}
use Rattle.std.specs.List.{filter_map}
use Rattle.pure_graph.specs.Reading.{File}
use Rattle.pure_graph.specs.Graph.{linked, AreJudged}
use Rattle.pure_session.specs.ImportGraph.{theories}
use Rattle.pure_graph.specs.Order.{Loaded, AreInLoadOrder}
use Rattle.pure_graph.specs.Session.{Shown, refusal_of, shown}

-- The files go through the tests on their imports; those that are left are taken in load order, the others are refused.
pub record AreLoadedFrom (read : List File) (loaded : List Loaded) (refused : List Shown) (files : ℕ) : Type 0 where
  pub judged : List File
  pub are_judged : AreJudged (map (linked (theories read)) read) judged
  pub in_order : AreInLoadOrder judged loaded
  pub refused_are : refused ≡ map shown (filter_map refusal_of judged)
  pub counted : files ≡ length read
