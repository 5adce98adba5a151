-- What calls answer in a row of tests.
use Rattle.std.proofs.Common.{◌≡◌, refl, subst, sym}
use Rattle.std.specs.Prelude.{Result, Ok, Err, IsErrAnd}
use Rattle.pure_statements.specs.declared.reason.Reason.{Reason}
use Rattle.pure_statements.specs.declared.reason.Failed.{Failed}
use Rattle.pure_statements.specs.declared.reason.Failed.TheVariants.{Refused, Memory}
use Rattle.pure_statements.specs.Chain.{Then, refuses, goes_on, Unless, holds, passes, Answers, FailsAs}

-- Where the first step gives something, the answer of the next is that of both.
pub answers-next : {A B : Type 0} (F : Result A Reason → Type 0) (N : A → Result B Reason → Type 0) (a : A) (r : Result B Failed) → F (Ok a) → Answers (N a) r → Answers (Then F N) r
answers-next F N a (Ok b) first next = goes_on a first next
answers-next F N a (Err (Refused reason)) first next = goes_on a first next
answers-next F N a (Err Memory) first next = tt

-- Where the first step fails, so do both.
pub answers-failed : {A B : Type 0} (F : Result A Reason → Type 0) (N : A → Result B Reason → Type 0) (f : Failed) (r : Result B Failed) → FailsAs F f → IsErrAnd r (λ e. e ≡ f) → Answers (Then F N) r
answers-failed F N f (Ok b) first is = absurd is
answers-failed F N (Refused reason) (Err e) first is = subst (λ (g : Failed). Answers (Then F N) (Err g)) (sym is) (refuses reason first refl)
answers-failed F N Memory (Err e) first is = subst (λ (g : Failed). Answers (Then F N) (Err g)) (sym is) tt

-- Want of memory is an answer of each step.
pub answers-memory : {B : Type 0} (N : Result B Reason → Type 0) (r : Result B Failed) → IsErrAnd r (λ e. e ≡ Memory) → Answers N r
answers-memory N (Ok b) is = absurd is
answers-memory N (Err e) is = subst (λ (g : Failed). Answers N (Err g)) (sym is) tt

-- A failure of a step as the answer of the step.
pub fails-answers : {A : Type 0} (F : Result A Reason → Type 0) (f : Failed) → Answers F (Err f) → FailsAs F f
fails-answers F (Refused reason) h = h
fails-answers F Memory h = tt

pub answers-fails : {A : Type 0} (F : Result A Reason → Type 0) (f : Failed) → FailsAs F f → Answers F (Err f)
answers-fails F (Refused reason) h = h
answers-fails F Memory h = tt

-- Where a test refuses, and where it lets pass.
pub answers-holds : {B : Type 0} (P : Type 0) (reason : Reason) (N : Result B Reason → Type 0) → P → Answers (Unless P reason N) (Err (Refused reason))
answers-holds P reason N p = holds p refl

pub answers-passes : {B : Type 0} (P : Type 0) (reason : Reason) (N : Result B Reason → Type 0) (r : Result B Failed) → (P → ⊥) → Answers N r → Answers (Unless P reason N) r
answers-passes P reason N (Ok b) not next = passes not next
answers-passes P reason N (Err (Refused other)) not next = passes not next
answers-passes P reason N (Err Memory) not next = tt
