-- What eta steps keep: types, certified parts, beta-normal terms; and eta-normal terms under lifting.
use Rattle.std.proofs.Common.{◌≡◌, ℕ, ◌+◌, List, [], ◌∷◌, true, refl, ap, sym, ◌∙◌, arith}
use Rattle.std.proofs.lemmas.Bool.Decides.{nat_tests}
use Rattle.pure_definitions.specs.Types.Typ.{Typ, arrow}
use Rattle.pure_definitions.specs.Terms.Term.{Term, Const, Free, Var, Bound, Abs, App}
use Rattle.pure_definitions.specs.Terms.Bounds.{lift_term}
use Rattle.pure_definitions.specs.Terms.Typing.{HasType}
use Rattle.pure_definitions.specs.Declarations.Decl.{Decl}
use Rattle.pure_definitions.specs.Declarations.Certified.{HasCertifiedParts}
use Rattle.pure_definitions.specs.Reduction.Beta.{IsAbs, IsBetaNormal}
use Rattle.pure_definitions.specs.Reduction.Eta.{EtaStep, EtaReduces}
use Rattle.pure_definitions.proofs.NormalLemmas.{normal-unlift}
use Rattle.pure_definitions.proofs.LiftLaws.{lifted, lift_term-bound, subst-lift}
use Rattle.pure_term_laws.proofs.TypingBoundLaws.{typing-subst}
use Rattle.pure_eta.specs.EtaForm.{is_loose}
use Rattle.pure_eta.specs.LawsEta.{StepsKeepType, StepsKeepParts, StepsKeepCertified, StepsKeepBetaNormal, EtaNormalOfLift}
use Rattle.pure_eta.proofs.LooseLaws.{loose-lift}
use Rattle.pure_eta.proofs.EtaStepLaws.{bound-normal, application-normal, function-normal, argument-normal, body-normal, IsUncontracted, abstraction-normal, uncontracted}

-- A term has its type without a binder over which it is lifted.
typing-unlift : (bs : List Typ) (U : Typ) (t : Term) (T : Typ) → HasType (U ∷ bs) (lift_term 1 0 t) T → HasType bs t T
typing-unlift bs U t T h = rw (subst-lift 0 (Free 0 U) t) at (typing-subst [] bs 0 (Free 0 U) (lift_term 1 0 t) U T refl refl h)

typing-contraction : (bs : List Typ) (T : Typ) (f g : Term) (U : Typ) → g ≡ lift_term 1 0 f → HasType bs (Abs T (App g (Bound 0))) U → HasType bs f U
typing-contraction bs T f g U e (V, (W, typed, variable), is) =
    let domain : T ≡ W = cc in
    let whole : arrow W V ≡ U = ap (λ X. arrow X V) (sym domain) ∙ is in
    rw whole at (typing-unlift bs T f (arrow W V) (rw e at typed))

step-type : (bs : List Typ) {t u : Term} (T : Typ) → EtaStep t u → HasType bs t T → HasType bs u T
step-type bs T (EtaStep.contract {T = V} {f = f} {g = g} e) h = typing-contraction bs V f g T e h
step-type bs T (EtaStep.body {T = V} s) h = (h.0, step-type (V ∷ bs) h.0 s h.1, h.2)
step-type bs T (EtaStep.function s) h = (h.0, step-type bs (arrow h.0 T) s h.1, h.2)
step-type bs T (EtaStep.argument s) h = (h.0, h.1, step-type bs h.0 s h.2)

pub steps_keep_type : StepsKeepType
steps_keep_type bs t u T EtaReduces.done h = h
steps_keep_type bs t u T (EtaReduces.next s r) h = steps_keep_type bs _ u T r (step-type bs T s h)

parts-unlift : (ds : List Decl) (by from : ℕ) (t : Term) → HasCertifiedParts ds (lift_term by from t) → HasCertifiedParts ds t
parts-unlift ds by from (Const c T) h = h
parts-unlift ds by from (Free x T) h = h
parts-unlift ds by from (Var x i T) h = h
parts-unlift ds by from (Bound p) h = tt
parts-unlift ds by from (Abs T b) h = (h.0, parts-unlift ds by (from + 1) b h.1)
parts-unlift ds by from (App f a) h = (parts-unlift ds by from f h.0, parts-unlift ds by from a h.1)

step-parts : (ds : List Decl) {t u : Term} → EtaStep t u → HasCertifiedParts ds t → HasCertifiedParts ds u
step-parts ds (EtaStep.contract {f = f} e) h = parts-unlift ds 1 0 f (rw e at h.1.0)
step-parts ds (EtaStep.body s) h = (h.0, step-parts ds s h.1)
step-parts ds (EtaStep.function s) h = (step-parts ds s h.0, h.1)
step-parts ds (EtaStep.argument s) h = (h.0, step-parts ds s h.1)

pub steps_keep_parts : StepsKeepParts
steps_keep_parts ds t u EtaReduces.done h = h
steps_keep_parts ds t u (EtaReduces.next s r) h = steps_keep_parts ds _ u r (step-parts ds s h)

pub steps_keep_certified : StepsKeepCertified
steps_keep_certified ds t u r h = record { parts = steps_keep_parts ds t u r h.parts; typ = h.typ; typed = steps_keep_type [] t u h.typ r h.typed }

-- What has a step to an abstraction is one.
step-abstraction : {t u : Term} → EtaStep t u → IsAbs u → IsAbs t
step-abstraction (EtaStep.contract e) h = tt
step-abstraction (EtaStep.body s) h = tt
step-abstraction (EtaStep.function s) h = h
step-abstraction (EtaStep.argument s) h = h

step-normal : {t u : Term} → EtaStep t u → IsBetaNormal t → IsBetaNormal u
step-normal (EtaStep.contract {f = f} e) n = normal-unlift 1 0 f (rw e at n.1)
step-normal (EtaStep.body s) n = step-normal s n
step-normal (EtaStep.function s) n = ((λ abs. n.0 (step-abstraction s abs)), step-normal s n.1, n.2)
step-normal (EtaStep.argument s) n = (n.0, n.1, step-normal s n.2)

pub steps_keep_beta_normal : StepsKeepBetaNormal
steps_keep_beta_normal t u EtaReduces.done n = n
steps_keep_beta_normal t u (EtaReduces.next s r) n = steps_keep_beta_normal _ u r (step-normal s n)

-- Where a lifted body is applied to the abstraction's own variable, so is the body.
unlifted-application : (by from : ℕ) (b g : Term) → IsUncontracted b → lift_term by (from + 1) b ≡ App g (Bound 0) → is_loose 0 g ≡ true
unlifted-application by from (App f (Bound p)) g o e =
    let parts : lift_term by (from + 1) f ≡ g = cc in
    let arguments : Bound (lifted by (from + 1) p) ≡ Bound 0 = sym (lift_term-bound by (from + 1) p) ∙ cc in
    let places : lifted by (from + 1) p ≡ 0 = cc in
    let same : p ≡ 0 = at_0 by from p places in
    rw (← parts) (loose-lift by (from + 1) 0 f (omega arith) ∙ o f (ap (λ q. App f (Bound q)) same))
  where
    at_0 : (by from p : ℕ) → lifted by (from + 1) p ≡ 0 → p ≡ 0
    at_0 by from p e = grind (arith, nat_tests)
unlifted-application by from (App f (Const c T)) g o e = absurd (cc)
unlifted-application by from (App f (Free x T)) g o e = absurd (cc)
unlifted-application by from (App f (Var x i T)) g o e = absurd (cc)
unlifted-application by from (App f (Abs T b)) g o e = absurd (cc)
unlifted-application by from (App f (App h a)) g o e = absurd (cc)
unlifted-application by from (Const c T) g o e = absurd (cc)
unlifted-application by from (Free x T) g o e = absurd (cc)
unlifted-application by from (Var x i T) g o e = absurd (cc)
unlifted-application by from (Bound p) g o e = let never : Bound (lifted by (from + 1) p) ≡ App g (Bound 0) = sym (lift_term-bound by (from + 1) p) ∙ e in absurd (cc)
unlifted-application by from (Abs T b) g o e = absurd (cc)

pub eta_normal_of_lift : EtaNormalOfLift
eta_normal_of_lift by from (Const c T) n = n
eta_normal_of_lift by from (Free x T) n = n
eta_normal_of_lift by from (Var x i T) n = n
eta_normal_of_lift by from (Bound p) n = rw (lift_term-bound by from p) (bound-normal (lifted by from p))
eta_normal_of_lift by from (Abs T b) n =
    abstraction-normal T (lift_term by (from + 1) b) (eta_normal_of_lift by (from + 1) b (body-normal T b n)) (λ g e. unlifted-application by from b g (uncontracted T b n) e)
eta_normal_of_lift by from (App f a) n =
    application-normal (lift_term by from f) (lift_term by from a) (eta_normal_of_lift by from f (function-normal f a n)) (eta_normal_of_lift by from a (argument-normal f a n))
