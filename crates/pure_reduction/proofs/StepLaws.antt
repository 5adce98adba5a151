-- Beta steps inside a term; they keep types, and none leads from a normal term.
use Rattle.std.proofs.Common.{◌≡◌, inl, inr, List, [], ◌∷◌, refl, subst}
use Rattle.pure_definitions.specs.Types.Typ.{Typ, arrow}
use Rattle.pure_definitions.specs.Terms.Term.{Term, Abs, App}
use Rattle.pure_definitions.specs.Terms.Bounds.{subst_bound}
use Rattle.pure_definitions.specs.Terms.Typing.{HasType}
use Rattle.pure_definitions.specs.Reduction.Beta.{IsBetaNormal, beta_step}
use Rattle.pure_term_laws.proofs.BetaLaws.{app_step-some, map-some}
use Rattle.pure_term_laws.proofs.TypingBoundLaws.{typing-subst}
use Rattle.pure_reduction.specs.Steps.{BetaStep, BetaReduces}
use Rattle.pure_reduction.specs.LawsSteps.{BetaStepsKeepType, NormalOrderStepIsStep}

pub reduces-then : {t u v : Term} → BetaReduces t u → BetaReduces u v → BetaReduces t v
reduces-then BetaReduces.done k = k
reduces-then (BetaReduces.next s h) k = BetaReduces.next s (reduces-then h k)

pub reduces-body : (T : Typ) {b c : Term} → BetaReduces b c → BetaReduces (Abs T b) (Abs T c)
reduces-body T BetaReduces.done = BetaReduces.done
reduces-body T (BetaReduces.next s h) = BetaReduces.next (BetaStep.body s) (reduces-body T h)

reduces-function : (a : Term) {f g : Term} → BetaReduces f g → BetaReduces (App f a) (App g a)
reduces-function a BetaReduces.done = BetaReduces.done
reduces-function a (BetaReduces.next s h) = BetaReduces.next (BetaStep.function s) (reduces-function a h)

reduces-argument : (f : Term) {a b : Term} → BetaReduces a b → BetaReduces (App f a) (App f b)
reduces-argument f BetaReduces.done = BetaReduces.done
reduces-argument f (BetaReduces.next s h) = BetaReduces.next (BetaStep.argument s) (reduces-argument f h)

pub reduces-application : {f g a b : Term} → BetaReduces f g → BetaReduces a b → BetaReduces (App f a) (App g b)
reduces-application {g = g} {a = a} h k = reduces-then (reduces-function a h) (reduces-argument g k)

-- What a redex is contracted to has its type.
typing-redex : (bs : List Typ) (T : Typ) (b a : Term) (U : Typ) → HasType bs (App (Abs T b) a) U → HasType bs (subst_bound b a) U
typing-redex bs T b a U h =
    let V : Typ = h.0 in
    let W : Typ = h.1.0 in
    let arrows : arrow T W ≡ arrow V U = h.1.2 in
    let argument : V ≡ T = cc in
    let range : W ≡ U = cc in
    typing-subst [] bs 0 a b T U refl (subst (HasType bs a) argument h.2) (subst (HasType (T ∷ bs) b) range h.1.1)

step-type : (bs : List Typ) {t u : Term} (U : Typ) → BetaStep t u → HasType bs t U → HasType bs u U
step-type bs U (BetaStep.contract {T = T} {b = b} {a = a} e) h = rw e (typing-redex bs T b a U h)
step-type bs U (BetaStep.body {T = T} s) h = (h.0, step-type (T ∷ bs) h.0 s h.1, h.2)
step-type bs U (BetaStep.function s) h = (h.0, step-type bs (arrow h.0 U) s h.1, h.2)
step-type bs U (BetaStep.argument s) h = (h.0, h.1, step-type bs h.0 s h.2)

pub steps_keep_type : BetaStepsKeepType
steps_keep_type bs t u T BetaReduces.done h = h
steps_keep_type bs t u T (BetaReduces.next s r) h = steps_keep_type bs _ u T r (step-type bs T s h)

step-not_normal : {t u : Term} → BetaStep t u → IsBetaNormal t → ⊥
step-not_normal (BetaStep.contract e) n = n.0 tt
step-not_normal (BetaStep.body s) n = step-not_normal s n
step-not_normal (BetaStep.function s) n = step-not_normal s n.1
step-not_normal (BetaStep.argument s) n = step-not_normal s n.2

-- From a normal term steps lead to itself alone.
pub normal-stays : {t u : Term} → BetaReduces t u → IsBetaNormal t → t ≡ u
normal-stays BetaReduces.done n = refl
normal-stays (BetaReduces.next s r) n = absurd (step-not_normal s n)

pub normal_order_step_is_step : NormalOrderStepIsStep
normal_order_step_is_step (App (Abs T b) a) u h = BetaStep.contract (cc)
normal_order_step_is_step (App f a) u h = elim (app_step-some f a u (beta_step f) (beta_step a) h) [
  | inl k ↦ subst (BetaStep (App f a)) k.2 (BetaStep.function (normal_order_step_is_step f k.0 k.1))
  | inr k ↦ subst (BetaStep (App f a)) k.2 (BetaStep.argument (normal_order_step_is_step a k.0 k.1))
]
normal_order_step_is_step (Abs T b) u h = let k = map-some T u (beta_step b) h in subst (BetaStep (Abs T b)) k.2 (BetaStep.body (normal_order_step_is_step b k.0 k.1))
normal_order_step_is_step _ u h = absurd (cc)
