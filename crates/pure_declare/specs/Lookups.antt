-- Written names of classes looked up, one or several.
use Rattle.std.specs.Prelude.{◌≡◌, ℕ, List, Some, None, Result, Ok, Err}
use Rattle.pure_text.specs.Lists.{EachTwo, AnyOf}
use Rattle.pure_elab.specs.Vocabulary.{Vocabulary}
use Rattle.pure_elab.specs.Table.{IsSortOf}
use Rattle.pure_statements.specs.declared.reason.Reason.{Reason}
use Rattle.pure_statements.specs.declared.reason.Reason.TheVariants.{UnknownClass}

-- The names are those of these classes, in order.
abbrev pub AreWritten : Vocabulary → (written : List (List ℕ)) → (classes : List ℕ) → Type 0
AreWritten V written cs = EachTwo (λ w c. V.class_written w ≡ Some c) written cs

-- One of the names means no class.
abbrev pub HasUnknown : Vocabulary → (written : List (List ℕ)) → Type 0
HasUnknown V written = AnyOf (λ w. V.class_written w ≡ None) written

-- the classes of these names, or that one of the names means none
abbrev pub AreWrittenClasses : Vocabulary → (written : List (List ℕ)) → Result (List ℕ) Reason → Type 0
AreWrittenClasses V written (Ok cs) = AreWritten V written cs
AreWrittenClasses V written (Err reason) = HasUnknown V written × (reason ≡ UnknownClass)

-- The sort has just the classes of these names.
abbrev pub IsWrittenSort : Vocabulary → (written : List (List ℕ)) → (sort : List ℕ) → Type 0
IsWrittenSort V written sort = (cs : List ℕ) × AreWritten V written cs × IsSortOf cs sort

-- the sorts of domains, or that a name in one of them means no class
abbrev pub AreWrittenSorts : Vocabulary → (domains : List (List (List ℕ))) → Result (List (List ℕ)) Reason → Type 0
AreWrittenSorts V domains (Ok sorts) = EachTwo (IsWrittenSort V) domains sorts
AreWrittenSorts V domains (Err reason) = AnyOf (HasUnknown V) domains × (reason ≡ UnknownClass)
