-- Facts for steps of tests.
use Rattle.std.specs.Prelude.{◌≡◌, []}
use Rattle.pure_definitions.specs.Reduction.Beta.{IsBetaNormal}
use Rattle.pure_logic.specs.Content.{Content}
use Rattle.pure_logic.specs.Derivable.{Theorem, IsDerivable}

-- The fact may be used on any goal: it is derivable in the theory, has no hypotheses and no pairs, and is beta-normal.
pub record IsReadyFact (Q : Content) (fact : Theorem) : Type 0 where
  pub no_hyps : fact.hyps ≡ []
  pub no_pairs : fact.pairs ≡ []
  pub normal : IsBetaNormal fact.prop
  pub derivable : IsDerivable Q fact
