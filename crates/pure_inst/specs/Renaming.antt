-- Renaming of variables: fixed ones of some names made schematic with one index, and the indexes of schematic ones raised.
use Rattle.std.specs.Prelude.{ℕ, ◌+◌, ◌<◌, List, if◌then◌else◌}
use Rattle.pure_text.specs.Lists.{Each}
use Rattle.pure_definitions.specs.Types.Typ.{Typ, TFree, TVar, Con, Typs, none, also}
use Rattle.pure_definitions.specs.Terms.Term.{Term, Const, Free, Var, Bound, Abs, App}
use Rattle.pure_definitions.specs.Terms.Subst.{typ_instance, term_instance}
use Rattle.pure_logic.specs.Derivable.{Pair, Theorem}
use Rattle.pure_inst.specs.Named.{is_named}

-- the names of the fixed type variables and of the fixed variables that are made schematic, their index, and the number by which indexes are raised
pub record Renames : Type 0 where
  pub typs : List ℕ
  pub terms : List ℕ
  pub index : ℕ
  pub by : ℕ

-- the maps
abbrev pub renamed_typs : Renames → Typ → Typ
renamed_typs r (TFree x s) = if is_named r.typs x then TVar x r.index s else TFree x s
renamed_typs r (TVar x i s) = TVar x (i + r.by) s
renamed_typs r T = T

abbrev pub renamed_terms : Renames → Term → Term
renamed_terms r (Free x T) = if is_named r.terms x then Var x r.index (typ_instance (renamed_typs r) T) else Free x (typ_instance (renamed_typs r) T)
renamed_terms r (Var x i T) = Var x (i + r.by) (typ_instance (renamed_typs r) T)
renamed_terms r t = t

abbrev pub renamed : Renames → Term → Term
renamed r t = term_instance (renamed_typs r) (renamed_terms r) t

-- Each schematic index in the type, or in the term and its types, can be raised by so much: the sum is a number of the program. By none it always can.
abbrev mutual
  pub IsRaisableTyp : (by : ℕ) → Typ → Type 0
  IsRaisableTyp by (TFree x s) = Unit {0}
  IsRaisableTyp by (TVar x i s) = 0 < by → i + by < 4294967296
  IsRaisableTyp by (Con k ts) = AreRaisableTyps by ts

  pub AreRaisableTyps : (by : ℕ) → Typs → Type 0
  AreRaisableTyps by none = Unit {0}
  AreRaisableTyps by (also t ts) = IsRaisableTyp by t × AreRaisableTyps by ts

abbrev pub IsRaisable : (by : ℕ) → Term → Type 0
IsRaisable by (Const c T) = IsRaisableTyp by T
IsRaisable by (Free x T) = IsRaisableTyp by T
IsRaisable by (Var x i T) = (0 < by → i + by < 4294967296) × IsRaisableTyp by T
IsRaisable by (Bound n) = Unit {0}
IsRaisable by (Abs T b) = IsRaisableTyp by T × IsRaisable by b
IsRaisable by (App f a) = IsRaisable by f × IsRaisable by a

abbrev pub IsPairRaisable : (by : ℕ) → Pair → Type 0
IsPairRaisable by p = IsRaisable by p.left × IsRaisable by p.right

-- So can each in the theorem.
pub record AreRaisable (by : ℕ) (th : Theorem) : Type 0 where
  pub hyps : Each (IsRaisable by) th.hyps
  pub pairs : Each (IsPairRaisable by) th.pairs
  pub prop : IsRaisable by th.prop
