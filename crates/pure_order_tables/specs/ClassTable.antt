-- What a table of classes keeps.
use Rattle.std.specs.Prelude.{◌≡◌, ◌↔◌, ◌⊎◌, ◌<◌, ◌≤◌, ℕ, List, [], MatchOption, length, get_or}
use Rattle.std.specs.List.Sorted.{IsStrictlyIncreasing}
use Rattle.std.specs.FinMap.{FinMap, get}
use Rattle.std.specs.Ordering.{nat_cmp}
use Rattle.pure_text.specs.Lists.{IsIn, Each, AnyOf}
use Rattle.pure_definitions.specs.Types.Order.{Class, IsClassBelow}
use Rattle.pure_order_tables.specs.declared.classes.ClassEntry.{ClassEntry}
use Rattle.pure_order_tables.specs.Classes.{IsDeclared, Follows, of_classes}
use Rattle.pure_order_tables.specs.ClassView.{class_of, classes_of}
use Rattle.pure_order_tables.specs.Rows.{Holds}

-- The class is declared, and these names are the classes above it, ascending.
pub record AreAllAbove (cs : List Class) (c : ℕ) (names : List ℕ) : Type 0 where
  pub declared : IsDeclared cs c
  pub ascend : IsStrictlyIncreasing names
  pub are : (d : ℕ) → IsIn d names ↔ IsClassBelow (of_classes cs) c d

-- what is read where no class is; the name of the class with a number
abbrev pub no_class : Class
no_class = record { name = 0; above = [] }

abbrev pub name_at : List Class → ℕ → ℕ
name_at cs n = (get_or cs n no_class).name

-- The number is the place of the class among the declared ones.
pub record IsNumber (cs : List Class) (c n : ℕ) : Type 0 where
  pub within : n < length cs
  pub named : name_at cs n ≡ c

-- The row holds the numbers of the classes above the class.
abbrev pub IsRow : List Class → ℕ → List ℕ → Type 0
IsRow cs c words = (n : ℕ) → Holds words n ↔ ((n < length cs) × IsClassBelow (of_classes cs) c (name_at cs n))

-- The entry of a class has those above it, by their names and by their numbers.
pub record IsEntry (cs : List Class) (e : ClassEntry) : Type 0 where
  pub up : AreAllAbove cs e.name e.up.items
  pub row : IsRow cs e.name e.row.items

-- The row holds numbers of these classes alone, and one of each.
pub record HasNumbers (cs : List Class) (names words : List ℕ) : Type 0 where
  pub only : (n : ℕ) → Holds words n → (n < length cs) × IsIn (name_at cs n) names
  pub each : Each (λ c. (n : ℕ) × IsNumber cs c n × Holds words n) names

-- The row holds the next number, and those of the classes above one of these.
abbrev pub IsNewRow : List Class → List ℕ → List ℕ → Type 0
IsNewRow cs above words = (n : ℕ) → Holds words n ↔ ((n ≡ length cs) ⊎ AnyOf (λ b. (n < length cs) × IsClassBelow (of_classes cs) b (name_at cs n)) above)

-- The name is that of a class whose number is below the end and in the row.
abbrev pub NamedBefore : List Class → List ℕ → ℕ → ℕ → Type 0
NamedBefore cs words x end = (n : ℕ) × (n < end) × Holds words n × (name_at cs n ≡ x)

-- The name is that of a class whose number is in the first row and not in the second, from an end on.
pub record IsOtherNamed (cs : List Class) (row seen : List ℕ) (x end : ℕ) : Type 0 where
  pub number : ℕ
  pub is : IsNumber cs x number
  pub held : Holds row number
  pub other : ¬ Holds seen number
  pub from : end ≤ number

-- The entry is that of a new class: the row has its number and those of the classes above it, and the names are theirs.
pub record IsNewEntry (cs : List Class) (k : Class) (e : ClassEntry) : Type 0 where
  pub class : class_of e ≡ k
  pub row : IsNewRow cs k.above e.row.items
  pub ascend : IsStrictlyIncreasing e.up.items
  pub up : (x : ℕ) → IsIn x e.up.items ↔ ((x ≡ k.name) ⊎ NamedBefore cs e.row.items x (length cs))

-- The classes are declared in order, each entry is right, and the map gives for each declared class its number.
pub record IsClassTable (es : List ClassEntry) (numbers : FinMap nat_cmp ℕ) : Type 0 where
  pub ordered : Follows [] (classes_of es)
  pub entries : Each (IsEntry (classes_of es)) es
  pub numbered : (c : ℕ) → MatchOption (get numbers c) (¬ IsDeclared (classes_of es) c) (IsNumber (classes_of es) c)
