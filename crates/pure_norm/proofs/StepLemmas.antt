-- One beta step: where it is taken, and how a step of a part is a step of the whole.
use Rattle.std.proofs.Common.{◌≡◌, ℕ, ◌+◌, refl, arith}
use Rattle.std.specs.Prelude.{Option, Some, None}
use Rattle.pure_definitions.specs.Types.Typ.{Typ}
use Rattle.pure_definitions.specs.Terms.Term.{Term, Abs, App}
use Rattle.pure_definitions.specs.Terms.Bounds.{IsClosedUnder}
use Rattle.pure_definitions.specs.Reduction.Beta.{IsAbs, IsBetaNormal, app_step, beta_step}
use Rattle.pure_term_laws.proofs.BetaLaws.{normal-no_step}
use Rattle.pure_reduction.specs.Steps.{BetaStep}
use Rattle.pure_reduction.proofs.StepLaws.{normal_order_step_is_step}
use Rattle.pure_norm.proofs.ClosedLemmas.{closed-subst}

-- the step of an application whose function is no abstraction
app-step : (f a : Term) → ¬ IsAbs f → beta_step (App f a) ≡ app_step f a (beta_step f) (beta_step a)
app-step (Abs T b) a other = absurd (other tt)
app-step f a other = refl

app_step-function : (f a g : Term) (r s : Option Term) → r ≡ Some g → app_step f a r s ≡ Some (App g a)
app_step-function f a g r s e = rw e refl

app_step-argument : (f a b : Term) (r s : Option Term) → r ≡ None → s ≡ Some b → app_step f a r s ≡ Some (App f b)
app_step-argument f a b r s e h = rw (e, h) refl

pub step-function : (f a g : Term) → ¬ IsAbs f → beta_step f ≡ Some g → beta_step (App f a) ≡ Some (App g a)
step-function f a g other h = rw (app-step f a other) (app_step-function f a g (beta_step f) (beta_step a) h)

pub step-argument : (f a b : Term) → ¬ IsAbs f → IsBetaNormal f → beta_step a ≡ Some b → beta_step (App f a) ≡ Some (App f b)
step-argument f a b other n h = rw (app-step f a other) (app_step-argument f a b (beta_step f) (beta_step a) (normal-no_step f n) h)

pub step-body : (T : Typ) (b c : Term) → beta_step b ≡ Some c → beta_step (Abs T b) ≡ Some (Abs T c)
step-body T b c h = rw h refl

-- A step brings no loose bound variable.
beta_step-closed : (n : ℕ) {t u : Term} → BetaStep t u → IsClosedUnder n t → IsClosedUnder n u
beta_step-closed n (BetaStep.contract {T = T} {b = b} {a = a} e) h = rw e (closed-subst 0 n n a b (omega arith) h.1 h.0)
beta_step-closed n (BetaStep.body s) h = beta_step-closed (n + 1) s h
beta_step-closed n (BetaStep.function s) h = (beta_step-closed n s h.0, h.1)
beta_step-closed n (BetaStep.argument s) h = (h.0, beta_step-closed n s h.1)

pub step-closed : (n : ℕ) (t u : Term) → beta_step t ≡ Some u → IsClosedUnder n t → IsClosedUnder n u
step-closed n t u e h = beta_step-closed n (normal_order_step_is_step t u e) h
