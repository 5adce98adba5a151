-- What each phrase of terms and types means, as a tree. Parentheses leave the place of the node inside them as it is;
-- what goes on behind them begins at the parenthesis.
use Rattle.std.specs.Prelude.{ℕ, List, [], ◌∷◌, map, Option, Some, None}
use Rattle.pure_grammar.specs.declared.token.TokenKind.TheVariants as kind
use Rattle.pure_grammar.specs.Terms.RawTree.{RawClassTree, RawTypTree, RawTypTrees, RawTree, implication, equation, generality, function_type}
use Rattle.pure_grammar.specs.Terms.RawTree as tree
use Rattle.pure_grammar.specs.Terms.InnerPhrase.{InnerName, Simple, Full, InnerSort, NoSort, OneClass, NoClass, Classes, TypePhrase, DomainsType, PlainType, ArrowType, TypePhrases, NoType, AndType, PostPhrase, Post, BasePhrase, VariableBase, SchematicBase, NamedBase, ClosedBase, ArgumentsBase, VarPhrase, NamedVar, BoundVar, BinderPhrase, PlainBinder, TypedBinder, BindersPhrase, OneTyped, Binders, TermPhrase, AllTerm, ImpTerm, ImpPhrase, PremisesImp, PlainImp, ArrowImp, TermPhrases, NoTerm, AndTerm, EqPhrase, PlainEq, BothEq, ConPhrase, LambdaCon, PlainCon, TypedCon, AppPhrase, Application, AtomPhrases, NoAtom, AndAtom, AtomPhrase, NamedAtom, SchematicAtom, BoundAtom, ClosedAtom}

abbrev pub name_of : InnerName → List ℕ
name_of (Simple text at) = text
name_of (Full text at) = text

abbrev pub name_place : InnerName → ℕ
name_place (Simple text at) = at
name_place (Full text at) = at

abbrev pub class_raw : InnerName → RawClassTree
class_raw c = record { at = name_place c; name = name_of c }

-- the classes that are written
abbrev pub sort_raw : InnerSort → List RawClassTree
sort_raw NoSort = []
sort_raw (OneClass c) = class_raw c ∷ []
sort_raw NoClass = []
sort_raw (Classes c cs) = class_raw c ∷ map class_raw cs

-- where a type's first token stands
abbrev pub base_place : BasePhrase → ℕ
base_place (VariableBase text at s) = at
base_place (SchematicBase text at s) = at
base_place (NamedBase k) = name_place k
base_place (ClosedBase at t) = at
base_place (ArgumentsBase at t u ts k) = at

abbrev pub post_place : PostPhrase → ℕ
post_place (Post b ks) = base_place b

abbrev pub type_place : TypePhrase → ℕ
type_place (DomainsType at t ts u) = at
type_place (PlainType p) = post_place p
type_place (ArrowType p u) = post_place p

-- `T k1 .. kn` is each constructor applied to what stands before it; all begin where the text begins, at its parenthesis if
-- it has one
abbrev pub constructed : ℕ → RawTypTree → List InnerName → RawTypTree
constructed at t [] = t
constructed at t (k ∷ ks) = constructed at (tree.Con at (name_of k) (tree.also t tree.none)) ks

abbrev mutual
  pub type_raw : TypePhrase → RawTypTree
  type_raw (DomainsType at t ts u) = function_type at (type_raw t) (functions_raw ts (type_raw u))
  type_raw (PlainType p) = post_raw p
  type_raw (ArrowType p u) = function_type (post_place p) (post_raw p) (type_raw u)

  -- the functions from these types, one after another, to a type; each begins with its domain
  pub functions_raw : TypePhrases → RawTypTree → RawTypTree
  functions_raw NoType u = u
  functions_raw (AndType t ts) u = function_type (type_place t) (type_raw t) (functions_raw ts u)

  pub types_raw : TypePhrases → RawTypTrees
  types_raw NoType = tree.none
  types_raw (AndType t ts) = tree.also (type_raw t) (types_raw ts)

  pub post_raw : PostPhrase → RawTypTree
  post_raw (Post b ks) = constructed (base_place b) (base_raw b) ks

  pub base_raw : BasePhrase → RawTypTree
  base_raw (VariableBase text at s) = tree.Var at kind.TypeVar text (sort_raw s)
  base_raw (SchematicBase text at s) = tree.Var at kind.Schem text (sort_raw s)
  base_raw (NamedBase k) = tree.Con (name_place k) (name_of k) tree.none
  base_raw (ClosedBase at t) = type_raw t
  base_raw (ArgumentsBase at t u ts k) = tree.Con at (name_of k) (tree.also (type_raw t) (tree.also (type_raw u) (types_raw ts)))

abbrev pub var_of : VarPhrase → List ℕ
var_of (NamedVar text at) = text
var_of (BoundVar text at) = text

abbrev pub var_place : VarPhrase → ℕ
var_place (NamedVar text at) = at
var_place (BoundVar text at) = at

abbrev pub binder_var : BinderPhrase → List ℕ
binder_var (PlainBinder x) = var_of x
binder_var (TypedBinder at x t) = var_of x

abbrev pub binder_typ : BinderPhrase → Option RawTypTree
binder_typ (PlainBinder x) = None
binder_typ (TypedBinder at x t) = Some (type_raw t)

abbrev pub binder_place : BinderPhrase → ℕ
binder_place (PlainBinder x) = var_place x
binder_place (TypedBinder at x t) = at

-- `%x1 .. xn. t` is an abstraction for each binder: the first begins at the sign, each other one at its binder
abbrev pub inner_lambdas : List BinderPhrase → RawTree → RawTree
inner_lambdas [] t = t
inner_lambdas (b ∷ bs) t = tree.Abs (binder_place b) (binder_var b) (binder_typ b) (inner_lambdas bs t)

abbrev pub lambda_raw : ℕ → BindersPhrase → RawTree → RawTree
lambda_raw at (OneTyped x T) t = tree.Abs at (var_of x) (Some (type_raw T)) t
lambda_raw at (Binders b bs) t = tree.Abs at (binder_var b) (binder_typ b) (inner_lambdas bs t)

-- so with `!!x1 .. xn. t`; the abstraction below each has its binder's place
abbrev pub inner_alls : List BinderPhrase → RawTree → RawTree
inner_alls [] t = t
inner_alls (b ∷ bs) t = generality (binder_place b) (binder_place b) (binder_var b) (binder_typ b) (inner_alls bs t)

abbrev pub all_raw : ℕ → BindersPhrase → RawTree → RawTree
all_raw at (OneTyped x T) t = generality at (var_place x) (var_of x) (Some (type_raw T)) t
all_raw at (Binders b bs) t = generality at (binder_place b) (binder_var b) (binder_typ b) (inner_alls bs t)

-- where a term's first token stands
abbrev pub atom_place : AtomPhrase → ℕ
atom_place (NamedAtom x) = name_place x
atom_place (SchematicAtom text at) = at
atom_place (BoundAtom text at) = at
atom_place (ClosedAtom at t) = at

abbrev pub app_place : AppPhrase → ℕ
app_place (Application f xs) = atom_place f

abbrev pub con_place : ConPhrase → ℕ
con_place (LambdaCon at bs c) = at
con_place (PlainCon a) = app_place a
con_place (TypedCon a t) = app_place a

abbrev pub eq_place : EqPhrase → ℕ
eq_place (PlainEq c) = con_place c
eq_place (BothEq c d) = con_place c

abbrev pub imp_place : ImpPhrase → ℕ
imp_place (PremisesImp at a more b) = at
imp_place (PlainImp e) = eq_place e
imp_place (ArrowImp e b) = eq_place e

abbrev pub term_place : TermPhrase → ℕ
term_place (AllTerm at bs t) = at
term_place (ImpTerm i) = imp_place i

abbrev pub name_raw : InnerName → RawTree
name_raw (Simple text at) = tree.Leaf at kind.Ident text
name_raw (Full text at) = tree.Leaf at kind.Qualified text

abbrev mutual
  pub term_raw : TermPhrase → RawTree
  term_raw (AllTerm at bs t) = all_raw at bs (term_raw t)
  term_raw (ImpTerm i) = imp_raw i

  -- `[| A; B |] ==> C` is `A ==> B ==> C`
  pub imp_raw : ImpPhrase → RawTree
  imp_raw (PremisesImp at a more b) = implication at (term_raw a) (implications_raw more (term_raw b))
  imp_raw (PlainImp e) = eq_raw e
  imp_raw (ArrowImp e b) = implication (eq_place e) (eq_raw e) (term_raw b)

  -- the implications of these premises, one after another; each begins with its premise
  pub implications_raw : TermPhrases → RawTree → RawTree
  implications_raw NoTerm b = b
  implications_raw (AndTerm a more) b = implication (term_place a) (term_raw a) (implications_raw more b)

  pub eq_raw : EqPhrase → RawTree
  eq_raw (PlainEq c) = con_raw c
  eq_raw (BothEq c d) = equation (con_place c) (con_raw c) (con_raw d)

  pub con_raw : ConPhrase → RawTree
  con_raw (LambdaCon at bs c) = lambda_raw at bs (con_raw c)
  con_raw (PlainCon a) = app_raw a
  con_raw (TypedCon a t) = tree.Typed (app_place a) (app_raw a) (type_raw t)

  pub app_raw : AppPhrase → RawTree
  app_raw (Application f xs) = applied_raw (atom_place f) (atom_raw f) xs

  -- a function that begins at a place, applied to these arguments, one after another
  pub applied_raw : ℕ → RawTree → AtomPhrases → RawTree
  applied_raw at f NoAtom = f
  applied_raw at f (AndAtom x xs) = applied_raw at (tree.App at f (atom_raw x)) xs

  pub atom_raw : AtomPhrase → RawTree
  atom_raw (NamedAtom x) = name_raw x
  atom_raw (SchematicAtom text at) = tree.Leaf at kind.Schem text
  atom_raw (BoundAtom text at) = tree.Leaf at kind.BoundName text
  atom_raw (ClosedAtom at t) = term_raw t
