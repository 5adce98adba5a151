-- Large terms by numbers.
use Rattle.std.specs.Prelude.{◌≡◌, ℕ, List, [], ◌∷◌, ◌++◌, Option, Some, None, slice_get}
use Rattle.pure_text.specs.Lists.{EachTwo}
use Rattle.pure_definitions.specs.Terms.Term.{Term}
use Rattle.pure_logic.specs.Connectives.{imp}
use Rattle.pure_replay.specs.Conclusion.{Conclusion}
use Rattle.pure_replay.specs.declared.known.Numbers.{Numbers}

-- The number, if there is one, is the term's among these.
abbrev pub IsNumber : (terms : List Term) → Term → Option ℕ → Type 0
IsNumber terms t (Some n) = slice_get terms n ≡ Some t
IsNumber terms t None = Unit {0}

-- The numbers are those of a proposition, and, where it is an implication, of its premise.
pub record AreNumbers (terms : List Term) (A : Term) (n : Numbers) : Type 0 where
  pub prop : IsNumber terms A n.prop
  pub premise : (B C : Term) → A ≡ imp B C → IsNumber terms B n.premise

-- Each conclusion has its numbers.
abbrev pub AreNumbered : (terms : List Term) → List Conclusion → List Numbers → Type 0
AreNumbered terms cs ns = EachTwo (λ c n. AreNumbers terms c.prop n) cs ns

-- What had a number still has it.
abbrev pub HaveGrown : (old new : List Term) → Type 0
HaveGrown old new = (n : ℕ) (t : Term) → slice_get old n ≡ Some t → slice_get new n ≡ Some t

-- A line more, of which this is the proposition.
pub record HaveMore (old : List Term) (lines : List Numbers) (new : List Term) (more : List Numbers) (A : Term) : Type 0 where
  pub numbers : Numbers
  pub are : AreNumbers new A numbers
  pub grown : HaveGrown old new
  pub is : more ≡ lines ++ numbers ∷ []

-- The premise of the one line and the proposition of the other have one number.
pub record HaveOneNumber (lines : List Numbers) (implication premise : ℕ) : Type 0 where
  pub first : Numbers
  pub second : Numbers
  pub first_there : slice_get lines implication ≡ Some first
  pub second_there : slice_get lines premise ≡ Some second
  pub number : ℕ
  pub first_has : first.premise ≡ Some number
  pub second_has : second.prop ≡ Some number
