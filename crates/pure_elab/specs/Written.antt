-- Written types: the sorts of type variables, and the types that they spell.
use Rattle.std.specs.Prelude.{ℕ, List, [], ◌∷◌, ◌++◌, Option, Some, None, nat_eq, if◌then◌else◌}
use Rattle.std.specs.List.Sorted.{IsStrictlyIncreasing}
use Rattle.pure_definitions.specs.Types.Typ as types
use Rattle.pure_definitions.specs.Types.Typ.{Typ, Typs}
use Rattle.pure_definitions.specs.Types.Order.{Algebra}
use Rattle.pure_order.specs.Domains.{IsReduced}
use Rattle.pure_grammar.specs.declared.token.TokenKind.{TokenKind}
use Rattle.pure_grammar.specs.declared.token.TokenKind.TheVariants as kind
use Rattle.pure_grammar.specs.Tokens.Token.{tail}
use Rattle.pure_grammar.specs.Terms.RawTree.{RawClassTree, RawTypTree, Var, Con, RawTypTrees, none, also, RawTree, Leaf, Abs, App, Typed}
use Rattle.pure_elab.specs.declared.classes.WrittenClass.{WrittenClass}
use Rattle.pure_elab.specs.Vocabulary.{Vocabulary}

-- the classes that are written at a variable, as far as they are found, each with the variable
abbrev pub found_class : (variable : ℕ) → Option ℕ → List WrittenClass
found_class x None = []
found_class x (Some c) = record { variable = x; class = c } ∷ []

abbrev pub found_classes : Vocabulary → (variable : ℕ) → List RawClassTree → List WrittenClass
found_classes V x [] = []
found_classes V x (c ∷ cs) = found_class x (V.class_written c.name) ++ found_classes V x cs

-- the same where the variable is found
abbrev pub classes_at_found : Vocabulary → Option ℕ → List RawClassTree → List WrittenClass
classes_at_found V None sort = []
classes_at_found V (Some x) sort = found_classes V x sort

-- the same of a variable by its token: schematic ones have none
abbrev pub variable_classes : Vocabulary → TokenKind → (text : List ℕ) → List RawClassTree → List WrittenClass
variable_classes V kind.TypeVar text sort = classes_at_found V (V.name_written (tail text)) sort
variable_classes V _ text sort = []

-- the classes that are written at the type variables of a type, each with its variable, in order
abbrev mutual
  pub typ_classes : Vocabulary → RawTypTree → List WrittenClass
  typ_classes V (Var at kind text sort) = variable_classes V kind text sort
  typ_classes V (Con at name args) = typs_classes V args

  pub typs_classes : Vocabulary → RawTypTrees → List WrittenClass
  typs_classes V none = []
  typs_classes V (also t ts) = typ_classes V t ++ typs_classes V ts

-- the same of the type of a binder, if one is written
abbrev pub annotation_classes : Vocabulary → Option RawTypTree → List WrittenClass
annotation_classes V None = []
annotation_classes V (Some t) = typ_classes V t

-- the same of a term
abbrev pub term_classes : Vocabulary → RawTree → List WrittenClass
term_classes V (Leaf at kind text) = []
term_classes V (Abs at var typ body) = annotation_classes V typ ++ term_classes V body
term_classes V (App at fun arg) = term_classes V fun ++ term_classes V arg
term_classes V (Typed at term typ) = term_classes V term ++ typ_classes V typ

-- of these classes those of the variable of this name
abbrev pub classes_at : List WrittenClass → (name : ℕ) → List ℕ
classes_at [] x = []
classes_at (w ∷ ws) x = if nat_eq w.variable x then w.class ∷ classes_at ws x else classes_at ws x

-- The second list is the reduced union of the first: its classes that aren't above another one, ascending.
pub record IsReducedSort (A : Algebra) (classes sort : List ℕ) : Type 0 where
  pub reduced : IsReduced A classes sort
  pub ascend : IsStrictlyIncreasing sort

-- Each type variable has the reduced union of the classes that are written at its occurrences.
abbrev pub AreSorts : Algebra → List WrittenClass → (sorts : ℕ → List ℕ) → Type 0
AreSorts A written sorts = (x : ℕ) → IsReducedSort A (classes_at written x) (sorts x)

-- the name that was found, where one was
abbrev pub name_or : ℕ → Option ℕ → ℕ
name_or other None = other
name_or other (Some n) = n

-- the type that is written, where each type variable is fixed and has this sort, and names are found
abbrev mutual
  pub written_typ : Vocabulary → (sorts : ℕ → List ℕ) → RawTypTree → Typ
  written_typ V sorts (Var at kind text sort) = let x = name_or 0 (V.name_written (tail text)) in types.TFree x (sorts x)
  written_typ V sorts (Con at name args) = types.Con (name_or 0 (V.constructor_written name)) (written_typs V sorts args)

  pub written_typs : Vocabulary → (sorts : ℕ → List ℕ) → RawTypTrees → Typs
  written_typs V sorts none = types.none
  written_typs V sorts (also t ts) = types.also (written_typ V sorts t) (written_typs V sorts ts)
