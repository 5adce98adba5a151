-- Laws of steps: each has an outcome, on each sound goal.
use Rattle.std.specs.Prelude.{◌≡◌, ◌≢◌, ◌⊎◌, ℕ, List, [], ◌∷◌, Option, Result}
use Rattle.pure_definitions.specs.Names.{Label}
use Rattle.pure_definitions.specs.Types.Typ.{prop}
use Rattle.pure_definitions.specs.Types.Order.{Algebra}
use Rattle.pure_definitions.specs.Terms.Term.{Term}
use Rattle.pure_definitions.specs.Reduction.Beta.{IsBetaNormal}
use Rattle.pure_definitions.specs.Declarations.Decl.{algebra_of}
use Rattle.pure_term_laws.specs.LawsOccurs.{HasNoSchematic}
use Rattle.pure_grammar.specs.Theories.TheoryText.{Step, Done}
use Rattle.pure_logic.specs.Connectives.{eq}
use Rattle.pure_logic.specs.Content.{Content, IsContent, IsProposition}
use Rattle.pure_logic.specs.Derivable.{Theorem}
use Rattle.pure_lookup.specs.LookUps.{Fact, IsFoundFact}
use Rattle.pure_lookup.specs.Laws.{IsInSession}
use Rattle.pure_unfold.specs.Unfold.{IsNoDefinition, Unfolds, UnfoldsNothing}
use Rattle.pure_unify_laws.specs.Condition.{IsUnifyContent}
use Rattle.pure_resolve.specs.GoalSteps.State.{State}
use Rattle.pure_resolve.specs.GoalSteps.Reading.{IsRuleOf}
use Rattle.pure_resolve.specs.GoalSteps.Follows.{Outcome}
use Rattle.pure_resolve.specs.GoalSteps.Steps.{BeginsAs, RuleStep, EliminationStep, DestructionStep, AssumptionStep, PreferStep, DeferStep, ConversionStep, EndsAs}
use Rattle.pure_resolve.specs.GoalSteps.Derivability.{IsSound}
use Rattle.pure_resolve.specs.GoalSteps.declared.fault.StepFault.{StepFault}
use Rattle.pure_resolve.specs.GoalStepLaws.Laws.{IsUsed}
use Rattle.pure_method.specs.Facts.{LookUp, IsFoundBy}
use Rattle.pure_method.specs.Proof.{Closes, ProofOutcome, IsProof}

-- Some outcome comes of it.
abbrev pub HasOutcome : (Outcome → Type 0) → Type 0
HasOutcome Gives = (outcome : Outcome) × Gives outcome

-- On each goal that is derivable, whatever it rests on, something holds, over a content over which terms are unified.
abbrev pub OnSoundGoals : (Algebra → State → Type 0) → Type 0
OnSoundGoals Holds = (Q : Content) → IsUnifyContent Q → (s : State) (rests : List Label) → IsSound Q rests s → Holds (algebra_of Q.declarations) s

-- A goal begins as a state, or is refused.
abbrev pub BeginsSomehow : Type 0
BeginsSomehow = (Q : Content) → IsUnifyContent Q → (C : Term) → IsProposition Q C → HasOutcome (BeginsAs C)

-- A fact whose proposition is beta-normal is a rule on each state. A term with redexes has no long form, so that it is none.
abbrev pub IsSomeRule : Type 0
IsSomeRule = (Q : Content) (goal fact : Theorem) → IsProposition Q fact.prop → IsBetaNormal fact.prop → (As : List Term) × (B : Term) × IsRuleOf goal fact As B

-- A step by such a fact has an outcome.
abbrev pub HasOutcomeByFact : (Algebra → State → Theorem → Outcome → Type 0) → Type 0
HasOutcomeByFact Step = (Q : Content) → IsUnifyContent Q → (s : State) (fact : Theorem) (rests all : List Label) → IsSound Q rests s → IsUsed Q fact rests all → IsBetaNormal fact.prop
    → HasOutcome (Step (algebra_of Q.declarations) s fact)

abbrev pub RuleSomehow : Type 0
RuleSomehow = HasOutcomeByFact RuleStep

abbrev pub EliminationSomehow : Type 0
EliminationSomehow = HasOutcomeByFact EliminationStep

abbrev pub DestructionSomehow : Type 0
DestructionSomehow = HasOutcomeByFact DestructionStep

-- So have the steps without facts.
abbrev pub AssumptionSomehow : Type 0
AssumptionSomehow = OnSoundGoals (λ A s. HasOutcome (AssumptionStep A s))

abbrev pub PreferSomehow : Type 0
PreferSomehow = OnSoundGoals (λ A s. (n : ℕ) → HasOutcome (PreferStep s n))

abbrev pub DeferSomehow : Type 0
DeferSomehow = OnSoundGoals (λ A s. HasOutcome (DeferStep s))

-- And a conversion by an equation of the first subgoal with a proposition.
abbrev pub ConversionSomehow : Type 0
ConversionSomehow = (Q : Content) → IsUnifyContent Q → (s : State) (rests : List Label) → IsSound Q rests s → (equation : Theorem) (left right : Term) (others : List Term) → s.subgoals ≡ left ∷ others
    → equation.prop ≡ eq prop left right → IsProposition Q right → HasOutcome (ConversionStep s equation)

-- Subgoals are closed by assumption up to some state: each success takes one away.
abbrev pub ClosesSomehow : Type 0
ClosesSomehow = OnSoundGoals (λ A s. (last : State) × Closes A s last)

-- A goal for a statement without schematic variables ends somehow: proved, or with a fault.
abbrev pub EndsSomehow : Type 0
EndsSomehow = OnSoundGoals (λ A s. HasNoSchematic s.statement → (end : Result Theorem StepFault) × EndsAs s end)

-- A proposition is no definition, or by it nothing is unfolded in a term, or something is.
abbrev pub UnfoldsSomehow : Type 0
UnfoldsSomehow = (Q : Content) → IsContent Q → (A t : Term) → IsNoDefinition A ⊎ (UnfoldsNothing (algebra_of Q.declarations) A t ⊎ ((u : Term) × Unfolds (algebra_of Q.declarations) A t u))

-- The last step of the script is the end, and no other is.
pub data IsScript : List Step → Type 0 where
  ends_here : IsScript (Done ∷ [])
  goes_further : {step : Step} {steps : List Step} → step ≢ Done → IsScript steps → IsScript (step ∷ steps)

-- What the steps of a proof ask of a look-up: each written name means a fact or none; and each fact that one means is beta-normal.
pub record HasAnswersBy (L : LookUp) : Type 0 where
  pub found : (written : List ℕ) → (fact : Option Fact) × L written fact
  pub normal : (written : List ℕ) (th : Theorem) → IsFoundBy L written th → IsBetaNormal th.prop

-- The same of the look-up over the content alone.
abbrev pub HasAnswers : (texts : List (List ℕ)) → Content → Type 0
HasAnswers texts Q = HasAnswersBy (IsFoundFact texts Q)

-- Over a content that has these answers something comes of each proof of a statement without schematic variables.
abbrev pub ProofHasAValue : Type 0
ProofHasAValue = (texts : List (List ℕ)) (Q : Content) → IsInSession texts Q → IsUnifyContent Q → HasAnswers texts Q → (statement : Term) → IsProposition Q statement → HasNoSchematic statement
    → (script : List Step) → IsScript script → (outcome : ProofOutcome) × IsProof texts Q statement script outcome
