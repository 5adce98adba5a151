-- Classes and arities by their numbers.
use Rattle.std.specs.Prelude.{◌≡◌, ℕ, List, Some, None}
use Rattle.std.specs.Ordering.{nat_cmp}
use Rattle.std.specs.FinMap.{FinMap, get}
use Rattle.pure_text.specs.Lists.{IsIn}
use Rattle.pure_definitions.specs.Declarations.Decl.{Decl}
use Rattle.pure_theory_tables.specs.declared.entry.Entry.{Entry}
use Rattle.pure_theory_tables.specs.Keys.{number_key}
use Rattle.pure_theory_tables.specs.View.{decl_of}

-- The number of each class and each arity of the list has an entry, so that what has none isn't in the list; and what the entries hold is in the list.
pub record AreNumbered (numbered : FinMap nat_cmp Entry) (ds : List Decl) : Type 0 where
  pub each : (d : Decl) (key : ℕ) → IsIn d ds → number_key d ≡ Some key → ¬ (get numbered key ≡ None)
  pub held : (key : ℕ) (e : Entry) → get numbered key ≡ Some e → IsIn (decl_of e) ds
