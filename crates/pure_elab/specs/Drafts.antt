-- Drafts: written terms with unknown types, and the constraints on these.
use Rattle.std.specs.Prelude.{ℕ, ◌+◌, List, [], ◌∷◌, ◌++◌, length, map, Option, Some, None, bytes_eq, if◌then◌else◌}
use Rattle.pure_grammar.specs.Terms.RawTree as raw
use Rattle.pure_grammar.specs.Terms.RawTree.{RawTypTree, RawTree}
use Rattle.pure_definitions.specs.Types.Typ.{Typ, TVar, arrow, prop}
use Rattle.pure_definitions.specs.Terms.Term.{Term, Const, Free, Bound, Abs, App}
use Rattle.pure_definitions.specs.Terms.Subst.{typ_image, typ_instance}
use Rattle.pure_tunify.specs.declared.pair.TypPair.{TypPair}
use Rattle.pure_tunify.specs.Steps.{pair}
use Rattle.pure_elab.specs.Vocabulary.{Vocabulary}
use Rattle.pure_elab.specs.declared.meaning.Meaning.{Meaning}
use Rattle.pure_elab.specs.declared.meaning.Meaning.TheVariants as meaning
use Rattle.pure_elab.specs.Meant.{meant}
use Rattle.pure_elab.specs.Written.{written_typ}
use Rattle.pure_elab.specs.Numbered.{unknowns}

-- two types that have to be equal, and the place that is at fault where they can't be
pub record Constraint : Type 0 where
  pub at : ℕ
  pub left : Typ
  pub right : Typ

-- a term and its type, both with unknowns; the first number that no unknown has; and the constraints, in postorder, a function before its argument
pub record Draft : Type 0 where
  pub term : Term
  pub typ : Typ
  pub next : ℕ
  pub constraints : List Constraint

-- a binder around a part of a term: its name and its type
pub record Binder : Type 0 where
  pub text : List ℕ
  pub typ : Typ

-- the unknown of this number
abbrev pub unknown : ℕ → Typ
unknown n = TVar n 0 []

-- the unknown type of the fixed variable of this name
abbrev pub fixed_unknown : ℕ → Typ
fixed_unknown x = TVar x 1 []

-- the place of a term, and of a type
abbrev pub raw_place : RawTree → ℕ
raw_place (raw.Leaf at kind text) = at
raw_place (raw.Abs at var typ body) = at
raw_place (raw.App at fun arg) = at
raw_place (raw.Typed at term typ) = at

abbrev pub raw_typ_place : RawTypTree → ℕ
raw_typ_place (raw.Var at kind text sort) = at
raw_typ_place (raw.Con at name args) = at

-- the names of binders, and the type of the innermost with this name
abbrev pub texts_of : List Binder → List (List ℕ)
texts_of bs = map (λ b. b.text) bs

abbrev pub bound_typ : List Binder → (text : List ℕ) → Typ
bound_typ [] text = prop
bound_typ (b ∷ bs) text = if bytes_eq b.text text then b.typ else bound_typ bs text

-- the constant's declared type, where it has one
abbrev pub typ_or_prop : Option Typ → Typ
typ_or_prop None = prop
typ_or_prop (Some T) = T

-- a leaf of the term, with its type
abbrev pub leaf : Term → Typ → (next : ℕ) → Draft
leaf t T next = record { term = t; typ = T; next = next; constraints = [] }

-- each occurrence of a constant has its declared type with unknowns of its own, of the declared sorts
abbrev pub constant_draft : (name : ℕ) → (declared : Typ) → (next : ℕ) → Draft
constant_draft c T next =
    let binds = unknowns next T in
    let U = typ_instance (typ_image binds) T in
    leaf (Const c U) U (next + length binds)

-- a name with this text by what it means under the binders; one without a meaning is no part of a term that is typed
abbrev pub leaf_draft : Vocabulary → List Binder → (text : List ℕ) → Meaning → (next : ℕ) → Draft
leaf_draft V binders text (meaning.Constant c) next = constant_draft c (typ_or_prop (V.typ_declared c)) next
leaf_draft V binders text (meaning.Fixed x) next = leaf (Free x (fixed_unknown x)) (fixed_unknown x) next
leaf_draft V binders text (meaning.Bound n) next = leaf (Bound n) (bound_typ binders text) next
leaf_draft V binders text _ next = leaf (Free 0 prop) prop next

-- the type of a binder: the one that is written, or an unknown; and the first number that no unknown has then
abbrev pub binder_typ : Vocabulary → (sorts : ℕ → List ℕ) → Option RawTypTree → (next : ℕ) → Typ
binder_typ V sorts None next = unknown next
binder_typ V sorts (Some t) next = written_typ V sorts t

abbrev pub behind_binder : Option RawTypTree → (next : ℕ) → ℕ
behind_binder None next = next + 1
behind_binder (Some t) next = next

-- an abstraction over this type
abbrev pub abs_draft : Typ → Draft → Draft
abs_draft T b = record { term = Abs T b.term; typ = arrow T b.typ; next = b.next; constraints = b.constraints }

-- an application, with its argument at this place: the function's type is the arrow from the argument's type to a fresh unknown
abbrev pub app_draft : (at : ℕ) → Draft → Draft → Draft
app_draft at f a = record {
  term = App f.term a.term;
  typ = unknown a.next;
  next = a.next + 1;
  constraints = f.constraints ++ (a.constraints ++ record { at = at; left = f.typ; right = arrow a.typ (unknown a.next) } ∷ []);
}

-- the draft with one constraint more: its type is this one
abbrev pub constrained : (at : ℕ) → Draft → Typ → Draft
constrained at d T = record { term = d.term; typ = d.typ; next = d.next; constraints = d.constraints ++ record { at = at; left = d.typ; right = T } ∷ [] }

-- the draft of a term under binders, the innermost first, with unknowns from this number on
abbrev pub draft : Vocabulary → (sorts : ℕ → List ℕ) → List Binder → RawTree → (next : ℕ) → Draft
draft V sorts binders (raw.Leaf at kind text) next = leaf_draft V binders text (meant V (texts_of binders) kind text) next
draft V sorts binders (raw.Abs at var typ body) next =
    let T = binder_typ V sorts typ next in
    abs_draft T (draft V sorts (record { text = var; typ = T } ∷ binders) body (behind_binder typ next))
draft V sorts binders (raw.App at fun arg) next =
    let f = draft V sorts binders fun next in
    app_draft (raw_place arg) f (draft V sorts binders arg f.next)
draft V sorts binders (raw.Typed at term typ) next = constrained (raw_typ_place typ) (draft V sorts binders term next) (written_typ V sorts typ)

-- the draft of a whole term that has to have this type
abbrev pub whole_draft : Vocabulary → (sorts : ℕ → List ℕ) → RawTree → Typ → Draft
whole_draft V sorts t T = constrained (raw_place t) (draft V sorts [] t 0) T

-- the two types of a constraint
abbrev pub pair_of : Constraint → TypPair
pair_of c = pair c.left c.right
