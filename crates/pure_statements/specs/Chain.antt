-- Tests in a row, as plain relations between what is tested and an answer: the first test that refuses decides.
use Rattle.std.specs.Prelude.{◌≡◌, List, Option, Some, None, Result, Ok, Err}
use Rattle.pure_statements.specs.declared.reason.Reason.{Reason}
use Rattle.pure_statements.specs.declared.reason.Failed.{Failed}
use Rattle.pure_statements.specs.declared.reason.Failed.TheVariants.{Refused, Memory}

-- The first step refuses, and so does the whole; or it gives something, with which the next goes on.
pub data Then {A B : Type 0} (first : Result A Reason → Type 0) (next : A → Result B Reason → Type 0) (answer : Result B Reason) : Type 0 where
  refuses : (reason : Reason) → first (Err reason) → answer ≡ Err reason → Then first next answer
  goes_on : (a : A) → first (Ok a) → next a answer → Then first next answer

-- Where P holds the answer is a refusal for this reason; where it doesn't the next step goes on.
pub data Unless {B : Type 0} (P : Type 0) (reason : Reason) (next : Result B Reason → Type 0) (answer : Result B Reason) : Type 0 where
  holds : P → answer ≡ Err reason → Unless P reason next answer
  passes : (P → ⊥) → next answer → Unless P reason next answer

-- The answer is this.
abbrev pub Gives : {A : Type 0} → A → Result A Reason → Type 0
Gives a answer = answer ≡ Ok a

-- The answer is what was found; where nothing was, a refusal for this reason.
abbrev pub Found : {A : Type 0} → Option A → Reason → Result A Reason → Type 0
Found None reason answer = answer ≡ Err reason
Found (Some a) reason answer = answer ≡ Ok a

-- What a call answers is an answer so. Want of memory may come at any time.
abbrev pub Answers : {A : Type 0} → (Result A Reason → Type 0) → Result A Failed → Type 0
Answers Is (Ok a) = Is (Ok a)
Answers Is (Err (Refused reason)) = Is (Err reason)
Answers Is (Err Memory) = Unit {0}

-- The same of why there is no answer.
abbrev pub FailsAs : {A : Type 0} → (Result A Reason → Type 0) → Failed → Type 0
FailsAs Is (Refused reason) = Is (Err reason)
FailsAs Is Memory = Unit {0}
