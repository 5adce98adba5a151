-- What the body of a definition may not have: a variable, and a type variable that the type of the defined constant lacks.
use Rattle.std.specs.Prelude.{◌⊎◌}
use Rattle.pure_definitions.specs.Types.Typ.{Typ, TFree, TVar, Con, Typs, none, also}
use Rattle.pure_definitions.specs.Types.Occurs.{OccursInTyp}
use Rattle.pure_definitions.specs.Terms.Term.{Term, Const, Free, Var, Bound, Abs, App}

-- The term has a fixed or a schematic variable.
abbrev pub HasVariable : Term → Type 0
HasVariable (Const c T) = ⊥
HasVariable (Free x T) = Unit {0}
HasVariable (Var x i T) = Unit {0}
HasVariable (Bound n) = ⊥
HasVariable (Abs T b) = HasVariable b
HasVariable (App f a) = HasVariable f ⊎ HasVariable a

-- The second type has a type variable, fixed or schematic, that the first lacks.
abbrev mutual
  pub HasExtra : Typ → Typ → Type 0
  HasExtra T (TFree x s) = ¬ OccursInTyp (TFree x s) T
  HasExtra T (TVar x i s) = ¬ OccursInTyp (TVar x i s) T
  HasExtra T (Con k ts) = HaveExtra T ts

  pub HaveExtra : Typ → Typs → Type 0
  HaveExtra T none = ⊥
  HaveExtra T (also t ts) = HasExtra T t ⊎ HaveExtra T ts

-- A type in the term has a type variable that the type lacks.
abbrev pub HasExtraTyp : Typ → Term → Type 0
HasExtraTyp T (Const c U) = HasExtra T U
HasExtraTyp T (Free x U) = HasExtra T U
HasExtraTyp T (Var x i U) = HasExtra T U
HasExtraTyp T (Bound n) = ⊥
HasExtraTyp T (Abs U b) = HasExtra T U ⊎ HasExtraTyp T b
HasExtraTyp T (App f a) = HasExtraTyp T f ⊎ HasExtraTyp T a
