-- Beta reduction at any place (Isabelle/Isar Implementation manual, section 2.2). The normaliser takes the leftmost-outermost step each time.
use Rattle.std.specs.Prelude.{◌≡◌}
use Rattle.pure_definitions.specs.Types.Typ.{Typ}
use Rattle.pure_definitions.specs.Terms.Term.{Term, Abs, App}
use Rattle.pure_definitions.specs.Terms.Bounds.{subst_bound}

-- One step contracts a redex, wherever it stands in the term: `(%x. b) a` becomes b with a in place of x.
pub data BetaStep : Term → Term → Type 0 where
  contract : {T : Typ} {b a u : Term} → u ≡ subst_bound b a → BetaStep (App (Abs T b) a) u
  body : {T : Typ} {b c : Term} → BetaStep b c → BetaStep (Abs T b) (Abs T c)
  function : {f g a : Term} → BetaStep f g → BetaStep (App f a) (App g a)
  argument : {f a b : Term} → BetaStep a b → BetaStep (App f a) (App f b)

-- Any number of steps lead from the first term to the second.
pub data BetaReduces : Term → Term → Type 0 where
  done : {t : Term} → BetaReduces t t
  next : {t u v : Term} → BetaStep t u → BetaReduces u v → BetaReduces t v
