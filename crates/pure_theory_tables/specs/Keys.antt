-- The numbers under which tables keep labels, and classes and arities.
use Rattle.std.specs.Prelude.{◌≡◌, ◌<◌, ℕ, ◌+◌, ◌*◌, ◌%◌, Option, Some, None}
use Rattle.pure_definitions.specs.Names.{Label}
use Rattle.pure_definitions.specs.Declarations.Decl.{Decl, ClassDecl, ArityDecl}

-- The number of a label.
unfoldable pub label_key : Label → ℕ
label_key l = (l.theory * 2097152 + l.command * 2048 + l.part) % 4294967296

-- The label is that of one of 2,048 theories, of one of 1,024 commands in it, and of one of 2,048 parts of the command.
pub record IsOrdinary (l : Label) : Type 0 where
  pub theory : l.theory < 2048
  pub command : l.command < 1024
  pub part : l.part < 2048

-- Such labels have numbers of their own. Others may meet, and are rare.
abbrev pub OrdinaryLabelsApart : Type 0
OrdinaryLabelsApart = (k l : Label) → IsOrdinary k → IsOrdinary l → label_key k ≡ label_key l → k ≡ l

-- The number of an arity. Arities of one number are rare: in a session with fewer names than 65,599 there are none.
unfoldable pub arity_key : (con class : ℕ) → ℕ
arity_key con class = (con * 65599 + class) % 4294967296

-- The number of a class or an arity; declarations of other kinds have none.
abbrev pub number_key : Decl → Option ℕ
number_key (ClassDecl k) = Some k.name
number_key (ArityDecl a) = Some (arity_key a.con a.class)
number_key _ = None
