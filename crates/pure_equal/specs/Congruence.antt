-- Equality as a congruence: what its inferences give, and when they are refused. In the figures H and K are hypotheses.
use Rattle.std.specs.Prelude.{◌≡◌, ◌⊎◌}
use Rattle.pure_definitions.specs.Types.Typ.{Typ, arrow}
use Rattle.pure_definitions.specs.Terms.Term.{Term, App}
use Rattle.pure_definitions.specs.Terms.Bounds.{abstract_over, Occurs}
use Rattle.pure_definitions.specs.Terms.Conditions.{variable_typ}
use Rattle.pure_definitions.specs.Terms.Typing.{Takes}
use Rattle.pure_logic.specs.Connectives.{eq}
use Rattle.pure_logic.specs.Concludes.{IsFresh}
use Rattle.pure_logic.specs.Derivable.{Theorem}
use Rattle.pure_logic.specs.Laws.Inferences.{IsFreshInPairs}
use Rattle.pure_theorem.specs.Answer.{IsJoined}
use Rattle.pure_theorem.specs.First.{IsFirstWith, OccursInPair}
use Rattle.pure_theorem.specs.Shapes.{IsNoEquation}
use Rattle.pure_theorem.specs.declared.fault.RuleFault.{RuleFault}
use Rattle.pure_theorem.specs.declared.fault.RuleFault.TheVariants.{NotEquality, TypeDiffers, FreeInHyps, FreeInPairs}

--  H |- f == g    K |- x == y
-- ---------------------------- f and g functions on the type of x and y
--       H, K |- f x == g y
pub record GivesCombination (functions arguments th : Theorem) : Type 0 where
  pub domain : Typ
  pub range : Typ
  pub f : Term
  pub g : Term
  pub x : Term
  pub y : Term
  pub functions_are : functions.prop ≡ eq (arrow domain range) f g
  pub arguments_are : arguments.prop ≡ eq domain x y
  pub joined : IsJoined functions arguments (eq range (App f x) (App g y)) th

-- One of the theorems has no equation; or the type of the first equation doesn't take that of the second.
abbrev pub RefusesCombination : (functions arguments : Theorem) → RuleFault → Type 0
RefusesCombination functions arguments NotEquality = IsNoEquation functions.prop ⊎ IsNoEquation arguments.prop
RefusesCombination functions arguments TypeDiffers = (F T : Typ) × (f g x y : Term) × (functions.prop ≡ eq F f g) × (arguments.prop ≡ eq T x y) × (¬ Takes F T)
RefusesCombination functions arguments _ = ⊥

--       H |- t == u
-- ----------------------- x a variable that is free neither in H nor in a pair
--  H |- %x. t == %x. u
pub record GivesAbstraction (variable : Term) (th new : Theorem) : Type 0 where
  pub typ : Typ
  pub left : Term
  pub right : Term
  pub equation : th.prop ≡ eq typ left right
  pub fresh : IsFresh variable th.hyps
  pub fresh_in_pairs : IsFreshInPairs variable th.pairs
  pub is : new ≡ record th { prop = eq (arrow (variable_typ variable) typ) (abstract_over left variable) (abstract_over right variable) }

-- The theorem has an equation.
abbrev pub HasEquation : Theorem → Type 0
HasEquation th = (T : Typ) × (t u : Term) × (th.prop ≡ eq T t u)

-- The theorem has no equation; or it has one, and the variable occurs in a hypothesis, of which this is the first; or in none of them, and in a pair, of which this is the first.
abbrev pub RefusesAbstraction : (variable : Term) → Theorem → RuleFault → Type 0
RefusesAbstraction v th NotEquality = IsNoEquation th.prop
RefusesAbstraction v th (FreeInHyps which) = HasEquation th × IsFirstWith (Occurs v) th.hyps which
RefusesAbstraction v th (FreeInPairs which) = HasEquation th × IsFresh v th.hyps × IsFirstWith (OccursInPair v) th.pairs which
RefusesAbstraction v th _ = ⊥
