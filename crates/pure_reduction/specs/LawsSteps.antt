-- Laws of beta steps at any place.
use Rattle.std.specs.Prelude.{◌≡◌, List, Some}
use Rattle.pure_definitions.specs.Types.Typ.{Typ}
use Rattle.pure_definitions.specs.Terms.Term.{Term, Bound, Abs, App}
use Rattle.pure_definitions.specs.Terms.Typing.{HasType}
use Rattle.pure_definitions.specs.Reduction.Beta.{IsBetaNormal, beta_step}
use Rattle.pure_definitions.specs.Reduction.Eta.{EtaReduces}
use Rattle.pure_term_laws.specs.LawsExamples.{i, j}
use Rattle.pure_reduction.specs.Steps.{BetaStep, BetaReduces}

-- Where steps lead from a term to two terms, steps lead from both to one term.
abbrev pub BetaStepsAreConfluent : Type 0
BetaStepsAreConfluent = (t u v : Term) → BetaReduces t u → BetaReduces t v → (w : Term) × BetaReduces u w × BetaReduces v w

-- Steps lead from a term to one normal term at most.
abbrev pub OneBetaNormalForm : Type 0
OneBetaNormalForm = (t u v : Term) → BetaReduces t u → BetaReduces t v → IsBetaNormal u → IsBetaNormal v → u ≡ v

-- Steps keep a term's type.
abbrev pub BetaStepsKeepType : Type 0
BetaStepsKeepType = (bs : List Typ) (t u : Term) (T : Typ) → BetaReduces t u → HasType bs t T → HasType bs u T

-- The step of the leftmost-outermost redex is a step.
abbrev pub NormalOrderStepIsStep : Type 0
NormalOrderStepIsStep = (t u : Term) → beta_step t ≡ Some u → BetaStep t u

-- Steps lead from each typed term to a normal one.
abbrev pub TypedTermHasBetaNormalForm : Type 0
TypedTermHasBetaNormalForm = (bs : List Typ) (t : Term) (T : Typ) → HasType bs t T → (u : Term) × BetaReduces t u × IsBetaNormal u

-- Beta and eta steps of a typed term commute.
abbrev pub StepsCommute : Type 0
StepsCommute = (bs : List Typ) (t u v : Term) (T : Typ) → HasType bs t T → BetaReduces t u → EtaReduces t v → (w : Term) × EtaReduces u w × BetaReduces v w

-- Without a type they may not: `%x::i. (%y::j. y) x` goes to `%x::i. x` by a beta step and to `%y::j. y` by an eta step.
abbrev pub untyped : Term
untyped = Abs i (App (Abs j (Bound 0)) (Bound 0))

abbrev pub UntypedStepsExample : Type 0
UntypedStepsExample = BetaReduces untyped (Abs i (Bound 0)) × EtaReduces untyped (Abs j (Bound 0)) × ((w : Term) → EtaReduces (Abs i (Bound 0)) w → ¬ BetaReduces (Abs j (Bound 0)) w)
