-- What a theory's parents left when they closed.
use Rattle.std.specs.Prelude.{◌≡◌, ◌<◌, ℕ, suc, List, [], length, map, take, get_or, true, false, Option, Some, None, slice_get}
use Rattle.pure_text.specs.Lists.{Each}
use Rattle.pure_logic.specs.Content.{Content}
use Rattle.pure_session_meaning.specs.Theory.Begin.{IsFirstConflict}
use Rattle.pure_print.specs.declared.row.Row.{Row}
use Rattle.pure_statements.specs.ReasonText.{reason_text}
use Rattle.pure_statements.specs.declared.reason.Reason.TheVariants.{NotCoregular}
use Rattle.pure_graph.specs.Order.{Loaded}
use Rattle.pure_session_meaning.specs.Verdicts.{Verdict, IsTheoryAt, AllClose, refused_theory}
use Rattle.pure_theory_run.specs.Outline.{Outline, outline, is_barred}

-- These are the outlines of what became of the theories with these indexes.
pub record AreOutlinesOf (texts : List (List ℕ)) (theories : List Loaded) (indexes : List ℕ) (values : List Outline) : Type 0 where
  pub verdicts : List Verdict
  pub closed : AllClose texts theories indexes verdicts
  pub values_are : values ≡ map outline verdicts

-- A theory of the session has this index, and these are the outlines of what became of its parents.
pub record HasParents (texts : List (List ℕ)) (theories : List Loaded) (index : ℕ) (values : List Outline) : Type 0 where
  pub theory : Loaded
  pub is_at : IsTheoryAt theories index theory
  pub outlines : AreOutlinesOf texts theories theory.parents values

-- The first that was refused when it began stands at this place; or none was.
abbrev pub IsFirstBarredAt : List Outline → Option ℕ → Type 0
IsFirstBarredAt values None = Each (λ o. is_barred o ≡ false) values
IsFirstBarredAt values (Some place) = (place < length values) × Each (λ o. is_barred o ≡ false) (take place values) × ((d : Outline) → is_barred (get_or values place d) ≡ true)

-- The value that the theory with this index left is among these, in load order.
pub record IsLeftBy (values : List Outline) (index : ℕ) (value : Outline) : Type 0 where
  pub place : ℕ
  pub index_is : index ≡ suc place
  pub held : slice_get values place ≡ Some value

-- The row says of the theory with this name that these contents, merged one after the other, aren't coregular: the first such merge gives the names.
pub record IsConflictRow (texts : List (List ℕ)) (theory : List ℕ) (parents : List Content) (row : Row) : Type 0 where
  pub con : ℕ
  pub c1 : ℕ
  pub c2 : ℕ
  pub conflict : IsFirstConflict parents con c1 c2
  pub row_is : row ≡ refused_theory theory (reason_text texts [] (NotCoregular con c1 c2))

-- The theory with the index at this place has this name.
pub record IsNameOfParent (theories : List Loaded) (indexes : List ℕ) (place : ℕ) (name : List ℕ) : Type 0 where
  pub index : ℕ
  pub held : slice_get indexes place ≡ Some index
  pub parent : Loaded
  pub is_at : IsTheoryAt theories index parent
  pub name_is : name ≡ parent.name
