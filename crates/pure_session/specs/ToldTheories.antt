-- What loading answers of a library, whether or not it tells its files.
use Rattle.std.specs.Prelude.{◌≡◌, ℕ, List, map, Option, IfSome}
use Rattle.pure_io.specs.declared.library.File as library
use Rattle.pure_graph.specs.Listing.{AreTheories}
use Rattle.pure_graph.specs.Order.{Loaded}
use Rattle.pure_graph.specs.Reading.{Answer}
use Rattle.pure_graph.specs.Session.{answer_in, Refusal, Shown, IsLoadingOf, IsSession, shown}

-- These are the theories and the refused files of a library, apart from the names of the session.
pub record AreTheoriesOf (told : Option (List library.File)) (theories : List Loaded) (refused : List Shown) (files : ℕ) : Type 0 where
  pub names : List (List ℕ)
  pub listed_theories : List (List ℕ)
  pub tells : IfSome told (λ library_files. names ≡ map (λ (f : library.File). f.name) library_files)
  pub listed : AreTheories names listed_theories
  pub answers : List Answer
  pub of_theories : map (λ (a : Answer). a.theory) answers ≡ listed_theories
  pub tells_answers : IfSome told (λ library_files. answers ≡ map (answer_in library_files) listed_theories)
  pub refusals : List Refusal
  pub loading : IsLoadingOf answers theories refusals files
  pub texts : refused ≡ map shown refusals

-- These are the names, the theories and the refused files of the session of the files, with the texts of the reasons.
pub record IsShownSession (files : List library.File) (names : List (List ℕ)) (theories : List Loaded) (refused : List Shown) (count : ℕ) : Type 0 where
  pub refusals : List Refusal
  pub is_session : IsSession files (record { names = names; theories = theories; refused = refusals; files = count })
  pub texts : refused ≡ map shown refusals
