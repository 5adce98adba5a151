-- Indexes that are low enough can be raised.
use Rattle.std.proofs.Common.{ℕ, ◌+◌, ◌≤◌, arith}
use Rattle.pure_definitions.specs.Types.Typ.{Typ, TFree, TVar, Con, Typs, none, also}
use Rattle.pure_definitions.specs.Terms.Term.{Term, Const, Free, Var, Bound, Abs, App}
use Rattle.pure_definitions.specs.Terms.Measures.{typ_index_above, typs_index_above, term_index_above}
use Rattle.pure_inst.specs.Renaming.{IsRaisableTyp, AreRaisableTyps, IsRaisable}

mutual
  low_typ : (by : ℕ) (T : Typ) → typ_index_above T + by ≤ 4294967296 → IsRaisableTyp by T
  low_typ by (TFree x s) h = tt
  low_typ by (TVar x i s) h = λ _. omega arith
  low_typ by (Con k ts) h = low_typs by ts h

  low_typs : (by : ℕ) (ts : Typs) → typs_index_above ts + by ≤ 4294967296 → AreRaisableTyps by ts
  low_typs by none h = tt
  low_typs by (also t ts) h = (low_typ by t (omega arith), low_typs by ts (omega arith))

pub low_term : (by : ℕ) (t : Term) → term_index_above t + by ≤ 4294967296 → IsRaisable by t
low_term by (Const c T) h = low_typ by T h
low_term by (Free x T) h = low_typ by T h
low_term by (Var x i T) h = (λ _. omega arith, low_typ by T (omega arith))
low_term by (Bound n) h = tt
low_term by (Abs T b) h = (low_typ by T (omega arith), low_term by b (omega arith))
low_term by (App f a) h = (low_term by f (omega arith), low_term by a (omega arith))
