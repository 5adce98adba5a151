-- What each refusal says.
use Rattle.std.specs.Prelude.{◌≡◌, ℕ, List}
use Rattle.pure_order.specs.declared.fault.OrderFault.{OrderFault}
use Rattle.pure_order.specs.declared.fault.OrderFault.TheVariants.{UnknownClass, Duplicate, NotCoregular, Memory}
use Rattle.pure_text.specs.Lists.{Each}
use Rattle.pure_definitions.specs.Types.Order.{Class, Arity, Algebra}
use Rattle.pure_order_tables.specs.Classes.{IsDeclared}
use Rattle.pure_order_tables.specs.Arities.{IsKnown, IsUnion, with_arity}
use Rattle.pure_order_tables.specs.Checks.{IsLeastConflict, IsLeastInConflict}
use Rattle.pure_order_tables.specs.Unknown.{IsFirstUnknown, HasArityFor, names_of}

-- Of a class: one to be above it isn't declared, the first; or else it is declared already.
abbrev pub IsClassFault : List Class → ℕ → List ℕ → OrderFault → Type 0
IsClassFault cs class above (UnknownClass c) = IsFirstUnknown cs above c
IsClassFault cs class above Duplicate = Each (IsDeclared cs) above × IsDeclared cs class
IsClassFault cs class above (NotCoregular k c d) = ⊥
IsClassFault cs class above Memory = Unit {0}

-- Of an arity: a class that it names isn't declared, the first; or else its constructor has an arity for the class; or else the algebra with it wouldn't be coregular, by the least class in conflict.
abbrev pub IsArityFault : Algebra → Arity → OrderFault → Type 0
IsArityFault A a (UnknownClass c) = IsFirstUnknown A.classes (names_of a) c
IsArityFault A a Duplicate = IsKnown A.classes a × HasArityFor A a.con a.class
IsArityFault A a (NotCoregular k c d) = IsKnown A.classes a × (¬ HasArityFor A a.con a.class) × (k ≡ a.con) × (c ≡ a.class) × IsLeastInConflict (with_arity A a) a d
IsArityFault A a Memory = Unit {0}

-- Of a merge: the union isn't coregular, by the least constructor, the least first class and the least second class in conflict.
abbrev pub IsMergeFault : Algebra → Algebra → OrderFault → Type 0
IsMergeFault A B (UnknownClass c) = ⊥
IsMergeFault A B Duplicate = ⊥
IsMergeFault A B (NotCoregular k c d) = (U : Algebra) × IsUnion A B U × IsLeastConflict U k c d
IsMergeFault A B Memory = Unit {0}
