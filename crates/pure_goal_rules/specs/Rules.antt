-- Facts as rules, in the course of being made.
use Rattle.std.specs.Prelude.{◌≡◌, ℕ, List, [], ◌++◌}
use Rattle.pure_definitions.specs.Types.Typ.{Typ}
use Rattle.pure_definitions.specs.Terms.Term.{Term}
use Rattle.pure_definitions.specs.Terms.Typing.{HasType}
use Rattle.pure_definitions.specs.Terms.Subst.{term_instance}
use Rattle.pure_definitions.specs.Reduction.Beta.{IsBetaNormal}
use Rattle.pure_definitions.specs.Reduction.Eta.{IsLongForm}
use Rattle.pure_logic.specs.Laws.Maps.{raised_typs, raised_terms}
use Rattle.pure_goal_steps.specs.Reading.{Strips}

-- Behind the premises that were there the rule is stripped to further ones, so that these are all, and to this conclusion.
pub record IsStrippedOn (index name : ℕ) (rule : Term) (old all : List Term) (C : Term) : Type 0 where
  pub further : List Term
  pub are : all ≡ old ++ further
  pub strips : Strips index name rule further C

-- The proposition of a fact that is used as a rule: it has a type under no binders, and is beta-normal.
pub record IsFactProposition (A : Term) : Type 0 where
  pub typ : Typ
  pub typed : HasType [] A typ
  pub normal : IsBetaNormal A

-- The other term is the long form of the proposition, with its indexes raised.
pub record IsRaisedForm (by : ℕ) (A u : Term) : Type 0 where
  pub form : Term
  pub long : IsLongForm A form
  pub is : u ≡ term_instance (raised_typs by) (raised_terms by) form
