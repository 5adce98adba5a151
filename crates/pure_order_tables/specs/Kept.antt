-- Rows of bits that are kept beside the domains of an arity.
use Rattle.std.specs.Prelude.{◌≡◌, ◌↔◌, ◌<◌, ℕ, List, [], length, get_or, Option, Some, None, slice_get}
use Rattle.std.specs.declared.alloc.Global.{Global}
use Rattle.std.specs.declared.sync.Arc.{Arc}
use Rattle.std.specs.Global.{Vec}
use Rattle.std.specs.Arc.{arc_value}
use Rattle.pure_text.specs.Lists.{Each}
use Rattle.pure_definitions.specs.Types.Order.{Class, Algebra, HasClassBelow}
use Rattle.pure_order_tables.specs.declared.tables.ArityEntry.{ArityEntry}
use Rattle.pure_order_tables.specs.Rows.{Holds}
use Rattle.pure_order_tables.specs.Classes.{IsDeclared, of_classes}
use Rattle.pure_order_tables.specs.ClassTable.{name_at}
use Rattle.pure_order_tables.specs.ArityView.{arity_of, arities_of}

-- The classes of the sort are declared, and the row holds the numbers of the classes above one of them.
pub record IsSortRow (cs : List Class) (s words : List ℕ) : Type 0 where
  pub declared : Each (IsDeclared cs) s
  pub held : (n : ℕ) → Holds words n ↔ ((n < length cs) × HasClassBelow (of_classes cs) s (name_at cs n))

-- The row is that of the sort, if it isn't empty.
pub record IsKeptRow (cs : List Class) (s words : List ℕ) : Type 0 where
  pub row : 0 < length words → IsSortRow cs s words

-- the words of the row at a place; none where there is no such row
abbrev pub words_of : Option (Vec ℕ) → List ℕ
words_of None = []
words_of (Some row) = row.items

abbrev pub words_in : Option (Arc (Vec (Vec ℕ)) Global) → ℕ → List ℕ
words_in None i = []
words_in (Some rows) i = words_of (slice_get (arc_value rows).items i)

-- Each of these rows is that of the sort at its place, if it isn't empty.
pub record AreKeptRows (cs : List Class) (ss : List (List ℕ)) (rows : Option (Arc (Vec (Vec ℕ)) Global)) : Type 0 where
  pub at : (i : ℕ) → IsKeptRow cs (get_or ss i []) (words_in rows i)

-- The rows beside the arity's domains are right.
abbrev pub IsKeptEntry : List Class → ArityEntry → Type 0
IsKeptEntry cs e = AreKeptRows cs (arity_of e).domains e.rows

-- These are the arities of the algebra, with rows that are right.
pub record AreKeptEntries (cs : List Class) (B : Algebra) (es : List ArityEntry) : Type 0 where
  pub are : arities_of es ≡ B.arities
  pub kept : Each (IsKeptEntry cs) es
