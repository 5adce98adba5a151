-- Laws and examples of beta and eta reduction and of long forms.
use Rattle.std.specs.Prelude.{◌≡◌, ◌↔◌, List, [], ◌∷◌, length, None}
use Rattle.pure_definitions.specs.Terms.Term.{Term, Bound, Abs, App}
use Rattle.pure_definitions.specs.Reduction.Beta.{IsBetaNormal, beta_step, IsBetaSequence, IsBetaAnswer, BetaAnswer, TooLarge, NormalForm, TooManySteps}
use Rattle.pure_definitions.specs.Reduction.Eta.{IsEtaNormal, IsEtaNormalForm, IsLongForm}
use Rattle.pure_term_laws.specs.LawsExamples.{i, a, f, p, pair, identity_at_a, doubled_at_a, endless, doubled}

-- No step leads on exactly from the normal terms.
abbrev pub NoStepExactlyWhereNormal : Type 0
NoStepExactlyWhereNormal = (t : Term) → (beta_step t ≡ None) ↔ IsBetaNormal t

-- Two beta sequences of one term that are as long are the same, and so are two that end in normal terms.
abbrev pub OneBetaSequence : Type 0
OneBetaSequence = (t u v : Term) (us vs : List Term) → IsBetaSequence t us u → IsBetaSequence t vs v → length us ≡ length vs → (us ≡ vs) × (u ≡ v)

abbrev pub OneBetaSequenceToNormal : Type 0
OneBetaSequenceToNormal = (t u v : Term) (us vs : List Term) → IsBetaSequence t us u → IsBetaSequence t vs v → IsBetaNormal u → IsBetaNormal v → (us ≡ vs) × (u ≡ v)

-- The normaliser has an answer for each term, and one at most.
abbrev pub EachTermHasBetaAnswer : Type 0
EachTermHasBetaAnswer = (t : Term) → (answer : BetaAnswer) × IsBetaAnswer t answer

abbrev pub OneBetaAnswer : Type 0
OneBetaAnswer = (t : Term) (one other : BetaAnswer) → IsBetaAnswer t one → IsBetaAnswer t other → one ≡ other

-- `(%x. p x x) ((%x. x) a)` reduces in three steps, the outer redex first and then the left one: so its answer is `p a a`.
abbrev pub BetaStepsExample : Type 0
BetaStepsExample = IsBetaSequence doubled_at_a (doubled_at_a ∷ pair identity_at_a identity_at_a ∷ pair a identity_at_a ∷ []) (pair a a)

abbrev pub BetaAnswerExample : Type 0
BetaAnswerExample = IsBetaAnswer doubled_at_a (NormalForm (pair a a))

-- `p a a` is normal and `p a ((%x. x) a)` isn't, nor is `%x. (%x. x) a`.
abbrev pub BetaNormalExample : Type 0
BetaNormalExample = IsBetaNormal (pair a a) × (¬ IsBetaNormal (pair a identity_at_a)) × (¬ IsBetaNormal (Abs i identity_at_a))

-- A term that isn't within the limits has the answer of too large a term, normal or not.
abbrev pub LargeExample : Type 0
LargeExample = IsBetaAnswer (doubled 17) TooLarge

-- A term whose steps never end has the answer of too many steps.
abbrev pub EndlessExample : Type 0
EndlessExample = IsBetaAnswer endless TooManySteps

-- `%x. f x` has the eta-normal form f. `%x. x x` is eta-normal, since x occurs in the function.
abbrev pub EtaExample : Type 0
EtaExample = IsEtaNormalForm (Abs i (App f (Bound 0))) f × IsEtaNormal (Abs i (App (Bound 0) (Bound 0)))

-- A term has at most one eta-normal form.
abbrev pub OneEtaNormalForm : Type 0
OneEtaNormalForm = (t u v : Term) → IsEtaNormalForm t u → IsEtaNormalForm t v → u ≡ v

-- The long form of f is `%x. f x`, and so is its own; f isn't.
abbrev pub LongFormExample : Type 0
LongFormExample = IsLongForm f (Abs i (App f (Bound 0))) × IsLongForm (Abs i (App f (Bound 0))) (Abs i (App f (Bound 0))) × (¬ IsLongForm f f)

-- The long form of `p :: i => i => i` is `%x y. p x y`, and `%x. p x` isn't one.
abbrev pub TwoArrowsExample : Type 0
TwoArrowsExample = IsLongForm p (Abs i (Abs i (App (App p (Bound 1)) (Bound 0)))) × (¬ IsLongForm p (Abs i (App p (Bound 0))))

-- A term has at most one long form.
abbrev pub OneLongForm : Type 0
OneLongForm = (t u v : Term) → IsLongForm t u → IsLongForm t v → u ≡ v
