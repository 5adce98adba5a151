-- What a table of arities keeps.
use Rattle.std.specs.Prelude.{ℕ, ◌<◌, List, length, get_or, MatchOption}
use Rattle.std.specs.FinMap.{FinMap, get}
use Rattle.std.specs.Ordering.{nat_cmp}
use Rattle.pure_text.specs.Lists.{Each}
use Rattle.pure_definitions.specs.Types.Order.{Arity, Algebra, Class, IsClassBelow}
use Rattle.pure_order_tables.specs.declared.slots.Slot.{Slot}
use Rattle.pure_order_tables.specs.declared.tables.ArityEntry.{ArityEntry}
use Rattle.pure_order_tables.specs.Arities.{IsArityBelow, IsGreatestIfAny, IsKnown}
use Rattle.pure_order_tables.specs.ArityView.{algebra_of}
use Rattle.pure_order_tables.specs.Kept.{IsKeptEntry}

-- The place is that of an arity of k for a class below d that is a greatest one, if there is a greatest one.
pub record IsPlace (A : Algebra) (k d : ℕ) (i : ℕ) : Type 0 where
  pub within : i < length A.arities
  pub greatest : (default : Arity) → IsGreatestIfAny A k d (get_or A.arities i default)

-- The place is such a place if the class of its arity is below d, and else there is no such arity.
pub record IsPlaceIfBelow (A : Algebra) (k d : ℕ) (i : ℕ) : Type 0 where
  pub below : (default : Arity) → IsClassBelow A (get_or A.arities i default).class d → IsPlace A k d i
  pub apart : (default : Arity) → ¬ IsClassBelow A (get_or A.arities i default).class d → (q : Arity) → ¬ IsArityBelow A k d q

-- The slot gives the places of k: those of later arities by the class, and for all other classes that of the first arity.
pub record IsSlot (A : Algebra) (k : ℕ) (slot : Slot) : Type 0 where
  pub first : slot.first < length A.arities
  pub places : (d : ℕ) → MatchOption (get slot.later d) (IsPlaceIfBelow A k d slot.first) (IsPlace A k d)

-- Arities name declared classes, and the slots of all constructors with arities are right.
pub record IsArityTable (A : Algebra) (slots : FinMap nat_cmp Slot) : Type 0 where
  pub known : Each (IsKnown A.classes) A.arities
  pub places : (k : ℕ) → MatchOption (get slots k) ((d : ℕ) (q : Arity) → ¬ IsArityBelow A k d q) (IsSlot A k)

-- The table of arities is right, and so are the rows beside their domains.
pub record IsTable (cs : List Class) (es : List ArityEntry) (slots : FinMap nat_cmp Slot) : Type 0 where
  pub arities : IsArityTable (algebra_of cs es) slots
  pub kept : Each (IsKeptEntry cs) es
