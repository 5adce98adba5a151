-- Quantification: what its inferences give, and when they are refused. In the figures H are hypotheses.
use Rattle.std.specs.Prelude.{◌≡◌, []}
use Rattle.pure_definitions.specs.Types.Typ.{Typ}
use Rattle.pure_definitions.specs.Terms.Term.{Term}
use Rattle.pure_definitions.specs.Terms.Bounds.{abstract_over, Occurs}
use Rattle.pure_definitions.specs.Terms.Conditions.{variable_typ}
use Rattle.pure_definitions.specs.Terms.Typing.{HasType}
use Rattle.pure_logic.specs.Connectives.{all_of}
use Rattle.pure_logic.specs.Concludes.{IsFresh}
use Rattle.pure_logic.specs.Derivable.{Theorem}
use Rattle.pure_logic.specs.Laws.Inferences.{IsFreshInPairs}
use Rattle.pure_logic.specs.Laws.Quantification.{beta_applied}
use Rattle.pure_theorem.specs.First.{IsFirstWith, OccursInPair}
use Rattle.pure_theorem.specs.Shapes.{IsNoQuantification}
use Rattle.pure_theorem.specs.declared.fault.RuleFault.{RuleFault}
use Rattle.pure_theorem.specs.declared.fault.RuleFault.TheVariants.{FreeInHyps, FreeInPairs, NotAll, TypeDiffers}

--     H |- B
-- ------------- x a variable that is free neither in H nor in a pair
--  H |- !!x. B
pub record GivesAllIntro (x : Term) (th new : Theorem) : Type 0 where
  pub fresh : IsFresh x th.hyps
  pub fresh_in_pairs : IsFreshInPairs x th.pairs
  pub is : new ≡ record th { prop = all_of (variable_typ x) (abstract_over th.prop x) }

-- The variable occurs in a hypothesis, of which this is the first; or in none of them, and in a pair, of which this is the first.
abbrev pub RefusesAllIntro : (x : Term) → Theorem → RuleFault → Type 0
RefusesAllIntro x th (FreeInHyps which) = IsFirstWith (Occurs x) th.hyps which
RefusesAllIntro x th (FreeInPairs which) = IsFresh x th.hyps × IsFirstWith (OccursInPair x) th.pairs which
RefusesAllIntro x th _ = ⊥

--  H |- !!x. B[x]
-- ---------------- t of the type of x; of `Pure.all f` for another function f it is `f t`
--     H |- B[t]
pub record GivesAllElim (t : Term) (th new : Theorem) : Type 0 where
  pub typ : Typ
  pub function : Term
  pub quantification : th.prop ≡ all_of typ function
  pub typed : HasType [] t typ
  pub is : new ≡ record th { prop = beta_applied function t }

-- The theorem has no quantification; or it has one over a type that the term hasn't.
abbrev pub RefusesAllElim : (t : Term) → Theorem → RuleFault → Type 0
RefusesAllElim t th NotAll = IsNoQuantification th.prop
RefusesAllElim t th TypeDiffers = (T : Typ) × (f : Term) × (th.prop ≡ all_of T f) × (¬ HasType [] t T)
RefusesAllElim t th _ = ⊥
