-- The notation of terms: which of its forms each term is written in.
use Rattle.std.specs.Prelude.{ℕ, ◌+◌, ◌-◌, nat_eq, nat_lt, if◌then◌else◌}
use Rattle.pure_definitions.specs.Names.{all_name, imp_name, eq_name}
use Rattle.pure_definitions.specs.Terms.Term.{Term, Const, Free, Var, Bound, Abs, App}

-- A name, of which a bound variable has its number; a quantifier or an abstraction with the number of its binder;
-- an implication, an equation, or an application.
pub data Notation : Type 0 where
  Constant : (name : ℕ) → Notation
  Fixed : (name : ℕ) → Notation
  Schematic : (name index : ℕ) → Notation
  Numbered : (number : ℕ) → Notation
  ForAll : (number : ℕ) → (body : Notation) → Notation
  Implies : (left right : Notation) → Notation
  Equal : (left right : Notation) → Notation
  Lambda : (number : ℕ) → (body : Notation) → Notation
  Apply : (function argument : Notation) → Notation

-- `Pure.imp` and `Pure.eq` are infixes where they have two arguments
abbrev pub connective : ℕ → (left right : Notation) → Notation
connective c a b = if nat_eq c imp_name then Implies a b else (if nat_eq c eq_name then Equal a b else Apply (Apply (Constant c) a) b)

-- `Pure.all` is a quantifier where it has an abstraction
abbrev pub quantifier : ℕ → (number : ℕ) → (body : Notation) → Notation
quantifier c k b = if nat_eq c all_name then ForAll k b else Apply (Constant c) (Lambda k b)

-- An application is written by the notation of its constant, where it has one.
abbrev pub apply : (function argument : Notation) → Notation
apply (Constant c) (Lambda k b) = quantifier c k b
apply (Apply (Constant c) a) b = connective c a b
apply f a = Apply f a

-- A binder's number counts the binders outside of it. A bound variable has the number of its binder; a loose one, its place.
abbrev pub number_of : (binders place : ℕ) → ℕ
number_of n p = if nat_lt p n then n - (p + 1) else p

-- the notation of a term under n binders
abbrev pub notation : ℕ → Term → Notation
notation n (Const c T) = Constant c
notation n (Free x T) = Fixed x
notation n (Var x i T) = Schematic x i
notation n (Bound p) = Numbered (number_of n p)
notation n (Abs T b) = Lambda n (notation (n + 1) b)
notation n (App f a) = apply (notation n f) (notation n a)
