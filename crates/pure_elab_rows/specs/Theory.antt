-- The vocabulary of the rows' theory, from its tables.
use Rattle.std.specs.Prelude.{ℕ, List, [], ◌∷◌, Option, Some, None, bytes_eq, nat_eq, if◌then◌else◌}
use Rattle.pure_definitions.specs.Types.Typ.{Typ}
use Rattle.pure_definitions.specs.Types.Order.{Algebra}
use Rattle.pure_elab.specs.Vocabulary.{Vocabulary}
use Rattle.pure_elab_rows.specs.declared.theory.Written.{Written}
use Rattle.pure_elab_rows.specs.declared.theory.Counted.{Counted}
use Rattle.pure_elab_rows.specs.declared.theory.Constant.{Constant}

-- the name of the first entry with this text
abbrev pub name_among : List Written → (text : List ℕ) → Option ℕ
name_among [] text = None
name_among (e ∷ es) text = if bytes_eq e.text text then Some e.name else name_among es text

-- the count of the first entry with this name
abbrev pub count_among : List Counted → (name : ℕ) → Option ℕ
count_among [] name = None
count_among (e ∷ es) name = if nat_eq e.name name then Some e.count else count_among es name

-- the type of the first entry with this name
abbrev pub typ_among : List Constant → (name : ℕ) → Option Typ
typ_among [] name = None
typ_among (e ∷ es) name = if nat_eq e.name name then Some e.typ else typ_among es name

-- the vocabulary of tables
abbrev pub vocabulary_of : (classes cons consts names : List Written) → List Counted → List Constant → Algebra → (fresh : ℕ) → Vocabulary
vocabulary_of classes cons consts names counts typs A fresh = record {
  class_written = name_among classes;
  constructor_written = name_among cons;
  constant_written = name_among consts;
  name_written = name_among names;
  params = count_among counts;
  typ_declared = typ_among typs;
  algebra = A;
  fresh = fresh;
}
