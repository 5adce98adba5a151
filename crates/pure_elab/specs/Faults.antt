-- The faults of names in a written term or type, in preorder, and which of them decides.
use Rattle.std.specs.Prelude.{◌≡◌, ◌<◌, ◌≤◌, ℕ, ◌+◌, List, [], ◌∷◌, ◌++◌, Option, Some, None, nat_eq, nat_lt, if◌then◌else◌}
use Rattle.pure_text.specs.Lists.{Each}
use Rattle.pure_grammar.specs.declared.token.TokenKind.{TokenKind}
use Rattle.pure_grammar.specs.declared.token.TokenKind.TheVariants as kind
use Rattle.pure_grammar.specs.Tokens.Token.{tail}
use Rattle.pure_grammar.specs.Terms.RawTree.{RawClassTree, RawTypTree, Var, Con, RawTypTrees, none, also, RawTree, Leaf, Abs, App, Typed}
use Rattle.pure_elab.specs.Vocabulary.{Vocabulary}
use Rattle.pure_elab.specs.declared.meaning.Meaning.{Meaning}
use Rattle.pure_elab.specs.declared.meaning.Meaning.TheVariants as meaning
use Rattle.pure_elab.specs.declared.fault.NameFault.{NameFault}
use Rattle.pure_elab.specs.declared.fault.NameFault.TheVariants as fault
use Rattle.pure_elab.specs.declared.fault.FaultAt.{FaultAt}
use Rattle.pure_elab.specs.Meant.{meant}

-- the fault at this place, where nothing was found
abbrev pub missing : (at : ℕ) → NameFault → Option ℕ → List FaultAt
missing at f None = record { at = at; fault = f } ∷ []
missing at f (Some n) = []

-- the faults of the classes of a sort
abbrev pub class_faults : Vocabulary → List RawClassTree → List FaultAt
class_faults V [] = []
class_faults V (c ∷ cs) = missing c.at fault.UnknownSort (V.class_written c.name) ++ class_faults V cs

-- the fault of a type variable by its token: a schematic one is refused
abbrev pub variable_faults : Vocabulary → (at : ℕ) → TokenKind → (text : List ℕ) → List FaultAt
variable_faults V at kind.TypeVar text = missing at fault.UnknownName (V.name_written (tail text))
variable_faults V at _ text = record { at = at; fault = fault.Schematic } ∷ []

-- how many types there are
abbrev pub raw_typs_count : RawTypTrees → ℕ
raw_typs_count none = 0
raw_typs_count (also t ts) = 1 + raw_typs_count ts

-- the fault of a constructor that takes so many arguments, if any, where this many stand
abbrev pub count_faults : (at : ℕ) → Option ℕ → (count : ℕ) → List FaultAt
count_faults at None count = record { at = at; fault = fault.UnknownName } ∷ []
count_faults at (Some n) count = if nat_eq n count then [] else record { at = at; fault = fault.WrongCount } ∷ []

-- the fault of a constructor, if it is found, with so many arguments
abbrev pub constructor_faults : Vocabulary → (at : ℕ) → Option ℕ → (count : ℕ) → List FaultAt
constructor_faults V at None count = record { at = at; fault = fault.UnknownName } ∷ []
constructor_faults V at (Some k) count = count_faults at (V.params k) count

-- the faults of a type, in preorder
abbrev mutual
  pub typ_faults : Vocabulary → RawTypTree → List FaultAt
  typ_faults V (Var at kind text sort) = variable_faults V at kind text ++ class_faults V sort
  typ_faults V (Con at name args) = constructor_faults V at (V.constructor_written name) (raw_typs_count args) ++ typs_faults V args

  pub typs_faults : Vocabulary → RawTypTrees → List FaultAt
  typs_faults V none = []
  typs_faults V (also t ts) = typ_faults V t ++ typs_faults V ts

-- the faults of the type of a binder, if one is written
abbrev pub annotation_faults : Vocabulary → Option RawTypTree → List FaultAt
annotation_faults V None = []
annotation_faults V (Some t) = typ_faults V t

-- the fault of a name or variable of a term by what it means
abbrev pub leaf_faults : (at : ℕ) → Meaning → List FaultAt
leaf_faults at meaning.Unknown = record { at = at; fault = fault.UnknownName } ∷ []
leaf_faults at meaning.Schematic = record { at = at; fault = fault.Schematic } ∷ []
leaf_faults at _ = []

-- the faults of a term under binders of these names, the innermost first, in preorder
abbrev pub term_faults : Vocabulary → List (List ℕ) → RawTree → List FaultAt
term_faults V binders (Leaf at kind text) = leaf_faults at (meant V binders kind text)
term_faults V binders (Abs at var typ body) = annotation_faults V typ ++ term_faults V (var ∷ binders) body
term_faults V binders (App at fun arg) = term_faults V binders fun ++ term_faults V binders arg
term_faults V binders (Typed at term typ) = term_faults V binders term ++ typ_faults V typ

-- The fault decides: it is the first in order of places, and of those at one place the first in preorder, which is that of the outer node.
pub record IsEarliest (faults : List FaultAt) (f : FaultAt) : Type 0 where
  pub front : List FaultAt
  pub back : List FaultAt
  pub stands : faults ≡ front ++ f ∷ back
  pub before : Each (λ g. f.at < g.at) front
  pub behind : Each (λ g. f.at ≤ g.at) back

-- of two faults the first in order of places, and of those at one place the one that was found before
abbrev pub kept : Option FaultAt → FaultAt → Option FaultAt
kept None f = Some f
kept (Some g) f = if nat_lt f.at g.at then Some f else Some g

-- the one that decides, of one found before and these
abbrev pub earliest : Option FaultAt → List FaultAt → Option FaultAt
earliest best [] = best
earliest best (f ∷ fs) = earliest (kept best f) fs
