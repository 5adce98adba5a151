-- Equality of propositions: what its inferences give, and when they are refused. In the figures H and K are hypotheses.
use Rattle.std.specs.Prelude.{◌≡◌, ◌≢◌, ◌⊎◌}
use Rattle.pure_definitions.specs.Types.Typ.{Typ, prop}
use Rattle.pure_definitions.specs.Terms.Term.{Term}
use Rattle.pure_logic.specs.Connectives.{imp, eq}
use Rattle.pure_logic.specs.Derivable.{Theorem}
use Rattle.pure_theorem.specs.Answer.{IsJoined}
use Rattle.pure_theorem.specs.Shapes.{IsNoImplication, IsNoEquation}
use Rattle.pure_theorem.specs.declared.fault.RuleFault.{RuleFault}
use Rattle.pure_theorem.specs.declared.fault.RuleFault.TheVariants.{NotImplies, Mismatched, NotEquality, PremiseDiffers}

--  H |- A ==> B    K |- B ==> A
-- ------------------------------
--        H, K |- A == B
pub record GivesEqualIntr (forth back th : Theorem) : Type 0 where
  pub left : Term
  pub right : Term
  pub forth_is : forth.prop ≡ imp left right
  pub back_is : back.prop ≡ imp right left
  pub joined : IsJoined forth back (eq prop left right) th

-- One of the theorems has no implication; or the second's isn't the first's the other way round.
abbrev pub RefusesEqualIntr : (forth back : Theorem) → RuleFault → Type 0
RefusesEqualIntr forth back NotImplies = IsNoImplication forth.prop ⊎ IsNoImplication back.prop
RefusesEqualIntr forth back Mismatched = (A B C D : Term) × (forth.prop ≡ imp A B) × (back.prop ≡ imp C D) × (¬ ((B ≡ C) × (A ≡ D)))
RefusesEqualIntr forth back _ = ⊥

--  H |- A == B    K |- A
-- -----------------------
--        H, K |- B
abbrev pub GivesEqualElim : (equation premise th : Theorem) → Type 0
GivesEqualElim equation premise th = (T : Typ) × (B : Term) × (equation.prop ≡ eq T premise.prop B) × IsJoined equation premise B th

-- The first theorem has no equation; or it has one of another left side than the second's proposition.
abbrev pub RefusesEqualElim : (equation premise : Theorem) → RuleFault → Type 0
RefusesEqualElim equation premise NotEquality = IsNoEquation equation.prop
RefusesEqualElim equation premise PremiseDiffers = (T : Typ) × (A B : Term) × (equation.prop ≡ eq T A B) × (A ≢ premise.prop)
RefusesEqualElim equation premise _ = ⊥
