-- Terms (Isabelle/Isar Implementation manual, section 2.2). Bound variables have no names, so terms that are equal up to names of bound variables are the same tree.
use Rattle.std.specs.Prelude.{ℕ, ◌+◌, ◌≤◌, max, Bool, false, ◌&&◌, nat_eq}
use Rattle.pure_definitions.specs.Types.Typ.{Typ, typ_size, typ_depth, typ_eq}

-- A term is a constant or a fixed variable with its type, a schematic variable with its index and its type, a bound variable, which counts the abstractions between it and its own,
-- an abstraction over a variable of a type, or a function applied to an argument.
pub data Term : Type 0 where
  Const : (name : ℕ) → (typ : Typ) → Term
  Free : (name : ℕ) → (typ : Typ) → Term
  Var : (name index : ℕ) → (typ : Typ) → Term
  Bound : (place : ℕ) → Term
  Abs : (typ : Typ) → (body : Term) → Term
  App : (function argument : Term) → Term

-- the count of the term's nodes and of those of the types in it
abbrev pub term_size : Term → ℕ
term_size (Const c T) = 1 + typ_size T
term_size (Free x T) = 1 + typ_size T
term_size (Var x i T) = 1 + typ_size T
term_size (Bound n) = 1
term_size (Abs T b) = 1 + (typ_size T + term_size b)
term_size (App f a) = 1 + (term_size f + term_size a)

-- the count of nodes on the longest path from the root, into the types too
abbrev pub term_depth : Term → ℕ
term_depth (Const c T) = 1 + typ_depth T
term_depth (Free x T) = 1 + typ_depth T
term_depth (Var x i T) = 1 + typ_depth T
term_depth (Bound n) = 1
term_depth (Abs T b) = 1 + max (typ_depth T) (term_depth b)
term_depth (App f a) = 1 + max (term_depth f) (term_depth a)

-- the limits
abbrev pub max_size : ℕ
max_size = 200000

abbrev pub max_depth : ℕ
max_depth = 2000

-- The term is within the limits: its size is at most 200,000 and its depth at most 2,000.
pub record IsWithin (t : Term) : Type 0 where
  pub size : term_size t ≤ max_size
  pub depth : term_depth t ≤ max_depth

-- whether two terms are the same tree
abbrev pub term_eq : Term → Term → Bool
term_eq (Const c T) (Const d U) = nat_eq c d && typ_eq T U
term_eq (Free x T) (Free y U) = nat_eq x y && typ_eq T U
term_eq (Var x i T) (Var y j U) = nat_eq x y && (nat_eq i j && typ_eq T U)
term_eq (Bound m) (Bound n) = nat_eq m n
term_eq (Abs T b) (Abs U c) = typ_eq T U && term_eq b c
term_eq (App f a) (App g b) = term_eq f g && term_eq a b
term_eq _ _ = false
