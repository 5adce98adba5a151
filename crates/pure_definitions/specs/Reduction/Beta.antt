-- Beta reduction in normal order (Isabelle/Isar Implementation manual, section 2.2).
use Rattle.std.specs.Prelude.{◌≡◌, ℕ, ◌≤◌, List, [], ◌∷◌, length, Option, Some, None, option_map}
use Rattle.pure_text.specs.Lists.{Each}
use Rattle.pure_definitions.specs.Terms.Term.{Term, Abs, App, IsWithin}
use Rattle.pure_definitions.specs.Terms.Bounds.{subst_bound}

-- The term is an abstraction.
abbrev pub IsAbs : Term → Type 0
IsAbs (Abs T b) = Unit {0}
IsAbs _ = ⊥

-- No subterm is a redex, an abstraction applied to an argument.
abbrev pub IsBetaNormal : Term → Type 0
IsBetaNormal (Abs T b) = IsBetaNormal b
IsBetaNormal (App f a) = (¬ IsAbs f) × IsBetaNormal f × IsBetaNormal a
IsBetaNormal _ = Unit {0}

-- The first of two steps: of an application, the function comes before the argument.
abbrev pub app_step : (f a : Term) → (function argument : Option Term) → Option Term
app_step f a (Some g) r = Some (App g a)
app_step f a None r = option_map (App f) r

-- the term after one step, which contracts the leftmost-outermost redex; none of a normal term
abbrev pub beta_step : Term → Option Term
beta_step (App (Abs T b) a) = Some (subst_bound b a)
beta_step (App f a) = app_step f a (beta_step f) (beta_step a)
beta_step (Abs T b) = option_map (Abs T) (beta_step b)
beta_step _ = None

-- The terms us and then u stand in a row, beginning with t, each the term after one step from the one before.
abbrev pub IsBetaSequence : (t : Term) → (us : List Term) → (u : Term) → Type 0
IsBetaSequence t [] u = t ≡ u
IsBetaSequence t (v ∷ vs) u = (t ≡ v) × ((w : Term) × (beta_step t ≡ Some w) × IsBetaSequence w vs u)

-- an answer of the normaliser: too large a term, the normal form, or too many steps
pub data BetaAnswer : Type 0 where
  TooLarge : BetaAnswer
  NormalForm : Term → BetaAnswer
  TooManySteps : BetaAnswer

-- how many steps there may be
abbrev pub max_steps : ℕ
max_steps = 10000

-- The term after n steps decides the answer: it isn't within the limits; or it is within them and normal; or it is within them and not normal, and the steps have run out.
abbrev pub Decides : (n : ℕ) → (u : Term) → BetaAnswer → Type 0
Decides n u TooLarge = ¬ IsWithin u
Decides n u (NormalForm v) = IsWithin u × IsBetaNormal u × (u ≡ v)
Decides n u TooManySteps = IsWithin u × (¬ IsBetaNormal u) × (n ≡ max_steps)

-- The normaliser's answer for t is decided at the first term of its sequence that decides one.
pub record IsBetaAnswer (t : Term) (answer : BetaAnswer) : Type 0 where
  pub before : List Term
  pub last : Term
  pub sequence : IsBetaSequence t before last
  pub undecided : Each (λ u. IsWithin u × (¬ IsBetaNormal u)) before
  pub in_time : length before ≤ max_steps
  pub decided : Decides (length before) last answer
