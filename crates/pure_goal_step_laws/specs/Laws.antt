-- Laws of steps by unification: each leads from a derivable goal to a derivable one.
use Rattle.std.specs.Prelude.{◌≡◌, List, [], Ok}
use Rattle.pure_text.specs.Lists.{IsIn}
use Rattle.pure_definitions.specs.Names.{Label}
use Rattle.pure_definitions.specs.Types.Order.{Algebra}
use Rattle.pure_definitions.specs.Declarations.Decl.{algebra_of}
use Rattle.pure_logic.specs.Content.{Content}
use Rattle.pure_logic.specs.Derivable.{Theorem, IsDerivable}
use Rattle.pure_unify_laws.specs.Condition.{IsUnifyContent}
use Rattle.pure_goal_steps.specs.State.{State}
use Rattle.pure_goal_steps.specs.Follows.{Outcome}
use Rattle.pure_goal_steps.specs.Steps.{RuleStep, EliminationStep, DestructionStep, AssumptionStep}
use Rattle.pure_goal_steps.specs.Derivability.{IsSound}

-- The fact may be used in a step: it is derivable, has no hypotheses and no pairs, and what the new goal rests on has what the goal and the fact rest on.
pub record IsUsed (Q : Content) (fact : Theorem) (rests all : List Label) : Type 0 where
  pub no_hyps : fact.hyps ≡ []
  pub no_pairs : fact.pairs ≡ []
  pub derivable : IsDerivable Q fact
  pub goal_rests : (l : Label) → IsIn l rests → IsIn l all
  pub fact_rests : (l : Label) → IsIn l fact.rests → IsIn l all

-- A step by a fact from a sound goal leads to a sound goal.
abbrev pub IsSoundByFact : ((A : Algebra) → State → Theorem → Outcome → Type 0) → Type 0
IsSoundByFact Step = (Q : Content) → IsUnifyContent Q → (s new : State) (fact : Theorem) (rests all : List Label) → IsSound Q rests s → IsUsed Q fact rests all → Step (algebra_of Q.declarations) s fact (Ok new) → IsSound Q all new

-- Resolution, elimination and destruction are sound.
abbrev pub RuleIsSound : Type 0
RuleIsSound = IsSoundByFact RuleStep

abbrev pub EliminationIsSound : Type 0
EliminationIsSound = IsSoundByFact EliminationStep

abbrev pub DestructionIsSound : Type 0
DestructionIsSound = IsSoundByFact DestructionStep

-- So is assumption, and the goal rests on what it rested on.
abbrev pub AssumptionIsSound : Type 0
AssumptionIsSound = (Q : Content) → IsUnifyContent Q → (s new : State) (rests : List Label) → IsSound Q rests s → AssumptionStep (algebra_of Q.declarations) s (Ok new) → IsSound Q rests new
