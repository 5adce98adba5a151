-- The trees of terms and types as they are written.
use Rattle.std.specs.Prelude.{ℕ, List, Option, codes, [], ◌∷◌}
use Rattle.pure_grammar.specs.declared.token.TokenKind.{TokenKind}
use Rattle.pure_grammar.specs.declared.token.TokenKind.TheVariants as kind

-- a class as it is written
pub record RawClassTree : Type 0 where
  pub at : ℕ
  pub name : List ℕ

-- A type: a variable by its token, with the classes that are written, or a constructor with its arguments. Each node has
-- the place of its first token.
mutual
  pub data RawTypTree : Type 0 where
    Var : (at : ℕ) → (kind : TokenKind) → (text : List ℕ) → (sort : List RawClassTree) → RawTypTree
    Con : (at : ℕ) → (name : List ℕ) → (args : RawTypTrees) → RawTypTree

  -- a list of types
  pub data RawTypTrees : Type 0 where
    none : RawTypTrees
    also : RawTypTree → RawTypTrees → RawTypTrees

-- the types of a list
abbrev pub raw_typs_of : List RawTypTree → RawTypTrees
raw_typs_of [] = none
raw_typs_of (t ∷ ts) = also t (raw_typs_of ts)

-- A term: a variable or constant by its token, an abstraction, an application, or a term with a type. Each node has the
-- place of the first token of its text; the leaf of `==>`, `==` or `!!`, and its application to the first argument, have that
-- of the whole.
pub data RawTree : Type 0 where
  Leaf : (at : ℕ) → (kind : TokenKind) → (text : List ℕ) → RawTree
  Abs : (at : ℕ) → (var : List ℕ) → (typ : Option RawTypTree) → (body : RawTree) → RawTree
  App : (at : ℕ) → (fun arg : RawTree) → RawTree
  Typed : (at : ℕ) → (term : RawTree) → (typ : RawTypTree) → RawTree

-- a constant of the notation
abbrev pub constant : ℕ → List ℕ → RawTree
constant at name = Leaf at kind.Qualified name

-- `A ==> B`, which begins at a place
abbrev pub implication : ℕ → RawTree → RawTree → RawTree
implication at a b = App at (App at (constant at (codes "Pure.imp")) a) b

-- `t == u`, which begins at a place
abbrev pub equation : ℕ → RawTree → RawTree → RawTree
equation at t u = App at (App at (constant at (codes "Pure.eq")) t) u

-- `!!x. B`, which begins at a place, with its binder at another
abbrev pub generality : (at binder : ℕ) → List ℕ → Option RawTypTree → RawTree → RawTree
generality at binder x t b = App at (constant at (codes "Pure.all")) (Abs binder x t b)

-- the type of functions, which begins at a place
abbrev pub function_type : ℕ → RawTypTree → RawTypTree → RawTypTree
function_type at t u = Con at (codes "Pure.fun") (also t (also u none))
