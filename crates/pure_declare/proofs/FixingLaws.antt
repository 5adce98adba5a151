-- A generalised statement that is fixed again is the statement.
use Rattle.std.proofs.Common.{◌≡◌, refl, ap}
use Rattle.pure_definitions.specs.Types.Typ.{Typ, TFree, TVar, Con, Typs, none, also}
use Rattle.pure_definitions.specs.Terms.Term.{Term, Const, Free, Var, Bound, Abs, App}
use Rattle.pure_definitions.specs.Terms.Subst.{typ_instance, typs_instance}
use Rattle.pure_logic.specs.Content.{schematic_typ_variable}
use Rattle.pure_statements.specs.Schematic.{generalised}
use Rattle.pure_declare.specs.Fixing.{fixed_typ_variable, fixed_again}
use Rattle.pure_declare.specs.Tidy.{HasTypIndexes, HaveTypIndexes, HasIndexes}
use Rattle.pure_declare.proofs.TidyLaws.{Never}

mutual
  typ-again : (T : Typ) → HasTypIndexes Never T → typ_instance fixed_typ_variable (typ_instance schematic_typ_variable T) ≡ T
  typ-again (TFree x s) h = refl
  typ-again (TVar x i s) h = absurd h
  typ-again (Con k ts) h = ap (Con k) (typs-again ts h)

  typs-again : (ts : Typs) → HaveTypIndexes Never ts → typs_instance fixed_typ_variable (typs_instance schematic_typ_variable ts) ≡ ts
  typs-again none h = refl
  typs-again (also t ts) h = λ i. also (typ-again t h.0 i) (typs-again ts h.1 i)

pub term-again : (t : Term) → HasIndexes Never t → fixed_again (generalised t) ≡ t
term-again (Const c T) h = ap (Const c) (typ-again T h)
term-again (Free x T) h = ap (Free x) (typ-again T h)
term-again (Var x i T) h = absurd h.0
term-again (Bound n) h = refl
term-again (Abs T b) h = λ i. Abs (typ-again T h.0 i) (term-again b h.1 i)
term-again (App f a) h = λ i. App (term-again f h.0 i) (term-again a h.1 i)
