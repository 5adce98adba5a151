-- Equality as an equivalence: what its inferences give, and when they are refused. In the figures H and K are hypotheses.
use Rattle.std.specs.Prelude.{◌≡◌, ◌≢◌, ◌⊎◌, []}
use Rattle.pure_definitions.specs.Types.Typ.{Typ}
use Rattle.pure_definitions.specs.Terms.Term.{Term}
use Rattle.pure_definitions.specs.Terms.Typing.{HasType}
use Rattle.pure_logic.specs.Connectives.{eq}
use Rattle.pure_logic.specs.Derivable.{Theorem}
use Rattle.pure_theorem.specs.Answer.{IsJoined}
use Rattle.pure_theorem.specs.Shapes.{IsNoEquation}
use Rattle.pure_theorem.specs.declared.fault.RuleFault.{RuleFault}
use Rattle.pure_theorem.specs.declared.fault.RuleFault.TheVariants.{NotEquality, MiddleDiffers}

-- -----------
--  |- t == t
abbrev pub GivesReflexive : Term → Theorem → Type 0
GivesReflexive t th = (T : Typ) × HasType [] t T × (th ≡ record { hyps = []; pairs = []; prop = eq T t t; rests = [] })

--  H |- t == u
-- -------------
--  H |- u == t
abbrev pub GivesSymmetric : Theorem → Theorem → Type 0
GivesSymmetric th new = (T : Typ) × (t u : Term) × (th.prop ≡ eq T t u) × (new ≡ record th { prop = eq T u t })

-- The theorem has no equation.
abbrev pub RefusesNoEquation : Theorem → RuleFault → Type 0
RefusesNoEquation th NotEquality = IsNoEquation th.prop
RefusesNoEquation th _ = ⊥

--  H |- t == u    K |- u == v
-- ----------------------------
--        H, K |- t == v
pub record GivesTransitive (left right th : Theorem) : Type 0 where
  pub typ : Typ
  pub other : Typ
  pub first : Term
  pub middle : Term
  pub last : Term
  pub left_is : left.prop ≡ eq typ first middle
  pub right_is : right.prop ≡ eq other middle last
  pub joined : IsJoined left right (eq typ first last) th

-- One of the theorems has no equation; or the right side of the first isn't the left side of the second.
abbrev pub RefusesTransitive : (left right : Theorem) → RuleFault → Type 0
RefusesTransitive left right NotEquality = IsNoEquation left.prop ⊎ IsNoEquation right.prop
RefusesTransitive left right MiddleDiffers = (T U : Typ) × (t u v w : Term) × (left.prop ≡ eq T t u) × (right.prop ≡ eq U v w) × (u ≢ v)
RefusesTransitive left right _ = ⊥
