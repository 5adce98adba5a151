-- Terms under binders that reduce to one. (Long forms are of terms without loose bound variables.)
use Rattle.pure_definitions.specs.Terms.Term.{Term, Abs, App}
use Rattle.pure_definitions.specs.Reduction.Beta.{IsBetaNormal}
use Rattle.pure_definitions.specs.Reduction.Eta.{EtaReduces}
use Rattle.pure_reduction.specs.Steps.{BetaReduces}

-- Beta steps lead from both terms to normal ones, and from these eta steps to one term.
pub record HaveOneEnd (t u : Term) : Type 0 where
  pub left : Term
  pub right : Term
  pub end : Term
  pub from_left : BetaReduces t left
  pub from_right : BetaReduces u right
  pub left_normal : IsBetaNormal left
  pub right_normal : IsBetaNormal right
  pub to_left : EtaReduces left end
  pub to_right : EtaReduces right end

-- No abstraction is at the front of the term, so that it is no redex, nor becomes one.
abbrev pub IsStuck : Term → Type 0
IsStuck (Abs T b) = ⊥
IsStuck (App f a) = IsStuck f
IsStuck _ = Unit {0}
