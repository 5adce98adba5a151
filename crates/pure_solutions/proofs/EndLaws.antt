-- Terms that reduce to one, and their parts.
use Rattle.std.proofs.Common.{◌≡◌, ◌⊎◌, inl, inr, [], refl, sym, subst, ◌∙◌}
use Rattle.pure_definitions.specs.Types.Typ.{Typ}
use Rattle.pure_definitions.specs.Terms.Term.{Term, Bound, Abs, App}
use Rattle.pure_definitions.specs.Terms.Bounds.{lift_term}
use Rattle.pure_definitions.specs.Reduction.Beta.{IsBetaNormal}
use Rattle.pure_definitions.specs.Reduction.Eta.{EtaStep, EtaReduces, IsEtaNormalForm}
use Rattle.pure_definitions.proofs.NormalLemmas.{abstraction-lift}
use Rattle.pure_term_laws.proofs.EtaNormalLaws.{one_eta_normal_form}
use Rattle.pure_eta.proofs.EtaStepLaws.{reduces-then as eta-then, reduces-body as eta-body, reduces-application as eta-application}
use Rattle.pure_eta.proofs.SaturatedLaws.{reduces-lift}
use Rattle.pure_eta.proofs.KeptLaws.{steps_keep_beta_normal}
use Rattle.pure_eta.proofs.FormLaws.{each_term_has_eta_normal_form}
use Rattle.pure_reduction.specs.Steps.{BetaStep, BetaReduces}
use Rattle.pure_reduction.proofs.StepLaws.{reduces-body, steps_keep_type}
use Rattle.pure_reduction.proofs.LongLaws.{has_long-normal, typed_term_has_long_form, long-from_reduct, long_form_of_beta_reduct, long_form_of_eta_reduct}
use Rattle.pure_solutions.specs.Ends.{HaveOneEnd, IsStuck}
use Rattle.pure_solutions.specs.Laws.{LongFormsAreEnds, EndsAreLongForms, EndsOfBodies, EndsOfAbstractions, EndsOfApplications}

pub long_forms_are_ends : LongFormsAreEnds
long_forms_are_ends t u (w, h, k) =
    let first = each_term_has_eta_normal_form h.normal in
    let second = each_term_has_eta_normal_form k.normal in
    let one : IsEtaNormalForm w first.0 = record { reduces = eta-then h.long.reduces first.1.reduces; normal = first.1.normal } in
    let other : IsEtaNormalForm w second.0 = record { reduces = eta-then k.long.reduces second.1.reduces; normal = second.1.normal } in
    record {
      left = h.normal;
      right = k.normal;
      end = first.0;
      from_left = h.reduces;
      from_right = k.reduces;
      left_normal = has_long-normal t w h;
      right_normal = has_long-normal u w k;
      to_left = first.1.reduces;
      to_right = subst (EtaReduces k.normal) (one_eta_normal_form w second.0 first.0 other one) second.1.reduces;
    }

pub ends_are_long_forms : EndsAreLongForms
ends_are_long_forms t u T U typed other h =
    let long = typed_term_has_long_form t T typed in
    let left = (long_form_of_beta_reduct t h.left long.0 h.from_left).0 long.1 in
    let end = (long_form_of_eta_reduct h.left h.end long.0 T (steps_keep_type [] t h.left T h.from_left typed) h.to_left).0 left in
    let right = (long_form_of_eta_reduct h.right h.end long.0 U (steps_keep_type [] u h.right U h.from_right other) h.to_right).1 end in
    (long.0, long.1, long-from_reduct u h.right long.0 h.from_right right)

-- Steps of an abstraction are steps of its body; eta steps may also contract it.
beta-inside : {T : Typ} {b v : Term} → BetaReduces (Abs T b) v → (c : Term) × (v ≡ Abs T c) × BetaReduces b c
beta-inside {b = b} BetaReduces.done = (b, refl, BetaReduces.done)
beta-inside (BetaReduces.next (BetaStep.body s) r) = let k = beta-inside r in (k.0, k.1, BetaReduces.next s k.2)

eta-inside : {T : Typ} {b w : Term} → EtaReduces (Abs T b) w → ((c : Term) × (w ≡ Abs T c) × EtaReduces b c) ⊎ EtaReduces b (App (lift_term 1 0 w) (Bound 0))
eta-inside {b = b} EtaReduces.done = inl (b, refl, EtaReduces.done)
eta-inside {w = w} (EtaReduces.next (EtaStep.contract {f = f} {g = g} e) r) = inr (rw e (eta-application (lift_term 1 0 f) (lift_term 1 0 w) (Bound 0) (Bound 0) (reduces-lift 1 0 r) EtaReduces.done))
eta-inside (EtaReduces.next (EtaStep.body s) r) = elim (eta-inside r) [ inl k ↦ inl (k.0, k.1, EtaReduces.next s k.2) | inr k ↦ inr (EtaReduces.next s k) ]

-- A normal body doesn't become a redex.
no_redex : (T : Typ) (b c w : Term) → IsBetaNormal b → w ≡ Abs T c → ¬ EtaReduces b (App (lift_term 1 0 w) (Bound 0))
no_redex T b c w n e r =
    let kept = steps_keep_beta_normal b (App (lift_term 1 0 w) (Bound 0)) r n in
    kept.0 (abstraction-lift 1 0 w (rw e tt))

one-end : (b c n m e : Term) → BetaReduces b n → BetaReduces c m → IsBetaNormal n → IsBetaNormal m → EtaReduces n e → EtaReduces m e → HaveOneEnd b c
one-end b c n m e r s k l to from = record { left = n; right = m; end = e; from_left = r; from_right = s; left_normal = k; right_normal = l; to_left = to; to_right = from }

pub ends_of_bodies : EndsOfBodies
ends_of_bodies T U b c h =
    let l = beta-inside h.from_left in
    let r = beta-inside h.from_right in
    let n : IsBetaNormal l.0 = subst IsBetaNormal l.1 h.left_normal in
    let m : IsBetaNormal r.0 = subst IsBetaNormal r.1 h.right_normal in
    by_cases l.0 r.0 h.end l.2 r.2 n m (eta-inside (subst (λ x. EtaReduces x h.end) l.1 h.to_left)) (eta-inside (subst (λ x. EtaReduces x h.end) r.1 h.to_right))
  where
    by_cases : (n m w : Term) → BetaReduces b n → BetaReduces c m → IsBetaNormal n → IsBetaNormal m
        → ((x : Term) × (w ≡ Abs T x) × EtaReduces n x) ⊎ EtaReduces n (App (lift_term 1 0 w) (Bound 0)) → ((x : Term) × (w ≡ Abs U x) × EtaReduces m x) ⊎ EtaReduces m (App (lift_term 1 0 w) (Bound 0)) → HaveOneEnd b c
    by_cases n m w r s k l (inl x) (inl y) =
        let whole : Abs U y.0 ≡ Abs T x.0 = sym y.1 ∙ x.1 in
        let same : y.0 ≡ x.0 = cc in
        one-end b c n m x.0 r s k l x.2 (subst (EtaReduces m) same y.2)
    by_cases n m w r s k l (inr x) (inr y) = one-end b c n m (App (lift_term 1 0 w) (Bound 0)) r s k l x y
    by_cases n m w r s k l (inl x) (inr y) = absurd (no_redex T m x.0 w l x.1 y)
    by_cases n m w r s k l (inr x) (inl y) = absurd (no_redex U n y.0 w k y.1 x)

pub ends_of_abstractions : EndsOfAbstractions
ends_of_abstractions T b c h = one-end (Abs T b) (Abs T c) (Abs T h.left) (Abs T h.right) (Abs T h.end) (reduces-body T h.from_left) (reduces-body T h.from_right) h.left_normal h.right_normal (eta-body T h.to_left) (eta-body T h.to_right)

stuck-step : {t u : Term} → BetaStep t u → IsStuck t → IsStuck u
stuck-step (BetaStep.contract e) n = absurd n
stuck-step (BetaStep.body s) n = absurd n
stuck-step (BetaStep.function s) n = stuck-step s n
stuck-step (BetaStep.argument s) n = n

-- Steps of such an application are steps of its parts.
pub beta-parts : {f a v : Term} → IsStuck f → BetaReduces (App f a) v → (g b : Term) × (v ≡ App g b) × BetaReduces f g × BetaReduces a b
beta-parts {f = f} {a = a} n BetaReduces.done = (f, a, refl, BetaReduces.done, BetaReduces.done)
beta-parts n (BetaReduces.next (BetaStep.contract e) r) = absurd n
beta-parts n (BetaReduces.next (BetaStep.function s) r) = let k = beta-parts (stuck-step s n) r in (k.0, k.1, k.2, BetaReduces.next s k.3, k.4)
beta-parts n (BetaReduces.next (BetaStep.argument s) r) = let k = beta-parts n r in (k.0, k.1, k.2, k.3, BetaReduces.next s k.4)

pub eta-parts : {f a v : Term} → EtaReduces (App f a) v → (g b : Term) × (v ≡ App g b) × EtaReduces f g × EtaReduces a b
eta-parts {f = f} {a = a} EtaReduces.done = (f, a, refl, EtaReduces.done, EtaReduces.done)
eta-parts (EtaReduces.next (EtaStep.function s) r) = let k = eta-parts r in (k.0, k.1, k.2, EtaReduces.next s k.3, k.4)
eta-parts (EtaReduces.next (EtaStep.argument s) r) = let k = eta-parts r in (k.0, k.1, k.2, k.3, EtaReduces.next s k.4)

pub ends_of_applications : EndsOfApplications
ends_of_applications f g a b n m h =
    let l = beta-parts n h.from_left in
    let r = beta-parts m h.from_right in
    let first = eta-parts (subst (λ x. EtaReduces x h.end) l.2 h.to_left) in
    let second = eta-parts (subst (λ x. EtaReduces x h.end) r.2 h.to_right) in
    let left = subst IsBetaNormal l.2 h.left_normal in
    let right = subst IsBetaNormal r.2 h.right_normal in
    let whole : App second.0 second.1 ≡ App first.0 first.1 = sym second.2 ∙ first.2 in
    let functions : second.0 ≡ first.0 = cc in
    let arguments : second.1 ≡ first.1 = cc in
    (one-end f g l.0 r.0 first.0 l.3 r.3 left.1 right.1 first.3 (subst (EtaReduces r.0) functions second.3), one-end a b l.1 r.1 first.1 l.4 r.4 left.2 right.2 first.4 (subst (EtaReduces r.1) arguments second.4))
