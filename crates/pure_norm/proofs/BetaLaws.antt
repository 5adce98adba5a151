-- Beta steps keep types, certification and closedness; and normal forms.
use Rattle.std.proofs.Common.{◌≡◌, List, [], ◌∷◌, refl, subst, arith}
use Rattle.std.specs.Prelude.{Some}
use Rattle.pure_definitions.specs.Types.Typ.{Typ}
use Rattle.pure_definitions.specs.Terms.Term.{Term, IsWithin}
use Rattle.pure_definitions.specs.Terms.Typing.{HasType}
use Rattle.pure_definitions.specs.Terms.Bounds.{IsClosedUnder}
use Rattle.pure_definitions.specs.Declarations.Decl.{Decl}
use Rattle.pure_definitions.specs.Declarations.Certified.{HasCertifiedParts, IsCertified}
use Rattle.pure_definitions.specs.Reduction.Beta.{IsBetaNormal, beta_step, IsBetaSequence, IsBetaAnswer, NormalForm}
use Rattle.pure_definitions.proofs.NormalLemmas.{normal-lift, normal-unlift}
use Rattle.pure_term_laws.proofs.BetaLaws.{one_beta_sequence_to_normal}
use Rattle.pure_term_laws.proofs.CertifiedLaws.{parts-subst}
use Rattle.pure_norm.specs.LawsBeta.{NormalFormIsNormal, NormalFormIsWithin, OneNormalForm, NormalFormOfNormal, StepKeepsType, StepKeepsCertified, StepKeepsClosed, NormalFormKeepsType, NormalFormKeepsCertified, NormalFormKeepsClosed, NormalUnderLift}
use Rattle.pure_reduction.specs.Steps.{BetaStep, BetaReduces}
use Rattle.pure_reduction.proofs.StepLaws.{steps_keep_type, normal_order_step_is_step}
use Rattle.pure_norm.proofs.StepLemmas.{step-closed}

pub step-keeps_type : StepKeepsType
step-keeps_type bs t u T e h = steps_keep_type bs t u T (BetaReduces.next (normal_order_step_is_step t u e) BetaReduces.done) h

-- Certified parts are kept by a step.
module _ (ds : List Decl) where
  step-parts : {t u : Term} → BetaStep t u → HasCertifiedParts ds t → HasCertifiedParts ds u
  step-parts (BetaStep.contract {T = T} {b = b} {a = a} e) h = rw e (parts-subst ds 0 a b h.1 h.0.1)
  step-parts (BetaStep.body s) h = (h.0, step-parts s h.1)
  step-parts (BetaStep.function s) h = (step-parts s h.0, h.1)
  step-parts (BetaStep.argument s) h = (h.0, step-parts s h.1)

pub step-keeps_certified : StepKeepsCertified
step-keeps_certified ds t u e h = record { parts = step-parts ds (normal_order_step_is_step t u e) h.parts; typ = h.typ; typed = step-keeps_type [] t u h.typ e h.typed }

pub step-keeps_closed : StepKeepsClosed
step-keeps_closed = step-closed

-- What each step keeps, a sequence keeps.
sequence-keeps : (P : Term → Type 0) → ((t u : Term) → beta_step t ≡ Some u → P t → P u) → (us : List Term) (t u : Term) → IsBetaSequence t us u → P t → P u
sequence-keeps P keeps [] t u s h = subst P s h
sequence-keeps P keeps (v ∷ vs) t u s h = sequence-keeps P keeps vs s.1.0 u s.1.2 (keeps t s.1.0 s.1.1 h)

answer-keeps : (P : Term → Type 0) → ((t u : Term) → beta_step t ≡ Some u → P t → P u) → (t u : Term) → IsBetaAnswer t (NormalForm u) → P t → P u
answer-keeps P keeps t u a h = subst P a.decided.2 (sequence-keeps P keeps a.before t a.last a.sequence h)

pub normal_form-keeps_type : NormalFormKeepsType
normal_form-keeps_type bs t u T a h = answer-keeps (λ v. HasType bs v T) (λ v w e k. step-keeps_type bs v w T e k) t u a h

pub normal_form-keeps_certified : NormalFormKeepsCertified
normal_form-keeps_certified ds t u a h = answer-keeps (IsCertified ds) (step-keeps_certified ds) t u a h

pub normal_form-keeps_closed : NormalFormKeepsClosed
normal_form-keeps_closed n t u a h = answer-keeps (IsClosedUnder n) (step-closed n) t u a h

pub normal_form-is_normal : NormalFormIsNormal
normal_form-is_normal t u a = subst IsBetaNormal a.decided.2 a.decided.1

pub normal_form-is_within : NormalFormIsWithin
normal_form-is_within t u a = subst IsWithin a.decided.2 a.decided.0

pub one_normal_form : OneNormalForm
one_normal_form t u v vs a s normal =
    subst (λ w. v ≡ w) a.decided.2 ((one_beta_sequence_to_normal t v a.last vs a.before s a.sequence normal a.decided.1).1)

pub normal_form-of_normal : NormalFormOfNormal
normal_form-of_normal t within normal = record { before = []; last = t; sequence = refl; undecided = tt; in_time = omega arith; decided = (within, normal, refl) }

pub normal_under_lift : NormalUnderLift
normal_under_lift by from t = (normal-lift by from t, normal-unlift by from t)
