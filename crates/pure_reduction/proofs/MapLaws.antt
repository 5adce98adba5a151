-- Steps and long forms under maps.
use Rattle.std.proofs.Common.{inl, inr, List, [], ◌∷◌, map, ap, refl, subst, ◌∙◌}
use Rattle.pure_definitions.specs.Types.Typ.{Typ, arrow}
use Rattle.pure_definitions.specs.Terms.Term.{Term, Const, Free, Var, Bound, Abs, App}
use Rattle.pure_definitions.specs.Terms.Bounds.{Occurs}
use Rattle.pure_definitions.specs.Terms.Conditions.{IsVariable}
use Rattle.pure_definitions.specs.Terms.Typing.{HasType}
use Rattle.pure_definitions.specs.Terms.Subst.{typ_instance, term_instance, IsTypeRespecting}
use Rattle.pure_definitions.specs.Reduction.Eta.{EtaStep, EtaReduces}
use Rattle.pure_term_laws.specs.LawsMaps.{AreImagesClosed}
use Rattle.pure_term_laws.proofs.TypingLaws.{typed-closed}
use Rattle.pure_term_laws.proofs.TypingBoundLaws.{typing-weaken, typing-instance}
use Rattle.pure_term_laws.proofs.MapLaws.{instance-lift, instance-subst}
use Rattle.pure_eta.proofs.EtaStepLaws.{reduces-body as eta-body, reduces-application as eta-application}
use Rattle.pure_reduction.specs.Steps.{BetaStep, BetaReduces}
use Rattle.pure_reduction.specs.LongForms.{HaveOneLongForm}
use Rattle.pure_reduction.specs.LawsLong.{BetaStepsUnderMaps, EtaStepsUnderMaps, LongFormUnderMap, SameUnderMaps}
use Rattle.pure_reduction.proofs.StepLaws.{reduces-body, reduces-application}
use Rattle.pure_reduction.proofs.LongLaws.{typed_term_has_long_form, long_form_keeps_type, long-from_reduct, long_form_of_beta_reduct, long-of_eta_reduct, long_form_of_eta_reduct}

module _ (typs : Typ → Typ) (terms : Term → Term) (closed : AreImagesClosed terms) where
  beta_step-instance : {t u : Term} → BetaStep t u → BetaStep (term_instance typs terms t) (term_instance typs terms u)
  beta_step-instance (BetaStep.contract {b = b} {a = a} e) = BetaStep.contract (ap (term_instance typs terms) e ∙ instance-subst typs terms closed 0 a b)
  beta_step-instance (BetaStep.body s) = BetaStep.body (beta_step-instance s)
  beta_step-instance (BetaStep.function s) = BetaStep.function (beta_step-instance s)
  beta_step-instance (BetaStep.argument s) = BetaStep.argument (beta_step-instance s)

  eta_step-instance : {t u : Term} → EtaStep t u → EtaStep (term_instance typs terms t) (term_instance typs terms u)
  eta_step-instance (EtaStep.contract {f = f} e) = EtaStep.contract (ap (term_instance typs terms) e ∙ instance-lift typs terms closed 1 0 f)
  eta_step-instance (EtaStep.body s) = EtaStep.body (eta_step-instance s)
  eta_step-instance (EtaStep.function s) = EtaStep.function (eta_step-instance s)
  eta_step-instance (EtaStep.argument s) = EtaStep.argument (eta_step-instance s)

pub beta_steps_under_maps : BetaStepsUnderMaps
beta_steps_under_maps typs terms closed t u BetaReduces.done = BetaReduces.done
beta_steps_under_maps typs terms closed t u (BetaReduces.next {u = x} s r) = BetaReduces.next (beta_step-instance typs terms closed s) (beta_steps_under_maps typs terms closed x u r)

pub eta_steps_under_maps : EtaStepsUnderMaps
eta_steps_under_maps typs terms closed t u EtaReduces.done = EtaReduces.done
eta_steps_under_maps typs terms closed t u (EtaReduces.next {u = x} s r) = EtaReduces.next (eta_step-instance typs terms closed s) (eta_steps_under_maps typs terms closed x u r)

pub respecting-closed : (typs : Typ → Typ) (terms : Term → Term) → IsTypeRespecting typs terms → AreImagesClosed terms
respecting-closed typs terms r = record {
  fixed = λ x T. typed-closed (terms (Free x T)) (typ_instance typs T) (r.fixed x T);
  schematic = λ x i T. typed-closed (terms (Var x i T)) (typ_instance typs T) (r.schematic x i T);
}

pub long_form_under_map : LongFormUnderMap
long_form_under_map typs terms r t u w h =
    let closed = respecting-closed typs terms r in
    let typed = typing-instance typs terms r [] u h.long.typ h.long.long_typed in
    let below = long_form_of_beta_reduct (term_instance typs terms t) (term_instance typs terms h.normal) w (beta_steps_under_maps typs terms closed t h.normal h.reduces) in
    let above = long_form_of_eta_reduct (term_instance typs terms u) (term_instance typs terms h.normal) w (typ_instance typs h.long.typ) typed (eta_steps_under_maps typs terms closed u h.normal h.long.reduces) in
    (λ k. above.1 (below.0 k), λ k. below.1 (above.0 k))

-- A typed term has eta steps to two terms, to each of which beta steps lead from one of two.
record AreJoined (bs : List Typ) (T : Typ) (t u : Term) : Type 0 where
  top : Term
  left : Term
  right : Term
  typed : HasType bs top T
  to_left : EtaReduces top left
  to_right : EtaReduces top right
  from_first : BetaReduces t left
  from_second : BetaReduces u right

joined-itself : (bs : List Typ) (T : Typ) (t : Term) → HasType bs t T → AreJoined bs T t t
joined-itself bs T t h = record { top = t; left = t; right = t; typed = h; to_left = EtaReduces.done; to_right = EtaReduces.done; from_first = BetaReduces.done; from_second = BetaReduces.done }

joined-body : (bs : List Typ) (V T : Typ) (b c : Term) → AreJoined (V ∷ bs) T b c → AreJoined bs (arrow V T) (Abs V b) (Abs V c)
joined-body bs V T b c h = record {
  top = Abs V h.top;
  left = Abs V h.left;
  right = Abs V h.right;
  typed = (T, h.typed, refl);
  to_left = eta-body V h.to_left;
  to_right = eta-body V h.to_right;
  from_first = reduces-body V h.from_first;
  from_second = reduces-body V h.from_second;
}

joined-application : (bs : List Typ) (V T : Typ) (f g a b : Term) → AreJoined bs (arrow V T) f g → AreJoined bs V a b → AreJoined bs T (App f a) (App g b)
joined-application bs V T f g a b h k = record {
  top = App h.top k.top;
  left = App h.left k.left;
  right = App h.right k.right;
  typed = (V, h.typed, k.typed);
  to_left = eta-application h.top h.left k.top k.left h.to_left k.to_left;
  to_right = eta-application h.top h.right k.top k.right h.to_right k.to_right;
  from_first = reduces-application h.from_first k.from_first;
  from_second = reduces-application h.from_second k.from_second;
}

-- Terms of one long form are joined by it, and joined terms have one.
joined-long : (bs : List Typ) (T : Typ) (t u : Term) → HasType [] t T → HaveOneLongForm t u → AreJoined bs T t u
joined-long bs T t u typed (w, h, k) = record {
  top = w;
  left = h.normal;
  right = k.normal;
  typed = typing-weaken [] bs w T (long_form_keeps_type t w T typed h);
  to_left = h.long.reduces;
  to_right = k.long.reduces;
  from_first = h.reduces;
  from_second = k.reduces;
}

one-long_joined : (T : Typ) (t u : Term) → AreJoined [] T t u → HaveOneLongForm t u
one-long_joined T t u h =
    let long = typed_term_has_long_form h.top T h.typed in (
      long.0,
      long-from_reduct t h.left long.0 h.from_first (long-of_eta_reduct h.top h.left long.0 T h.typed h.to_left long.1),
      long-from_reduct u h.right long.0 h.from_second (long-of_eta_reduct h.top h.right long.0 T h.typed h.to_right long.1),
    )

joined-instances : (typs : Typ → Typ) (terms others : Term → Term) → IsTypeRespecting typs terms → (bs : List Typ) (t : Term) (T : Typ) → HasType bs t T
    → ((v : Term) → IsVariable v → Occurs v t → HaveOneLongForm (terms v) (others v))
    → AreJoined (map (typ_instance typs) bs) (typ_instance typs T) (term_instance typs terms t) (term_instance typs others t)
joined-instances typs terms others r bs (Const c V) T h same = joined-itself (map (typ_instance typs) bs) (typ_instance typs T) (Const c (typ_instance typs V)) (ap (typ_instance typs) h)
joined-instances typs terms others r bs (Free x V) T h same =
    rw (← h) (joined-long (map (typ_instance typs) bs) (typ_instance typs V) (terms (Free x V)) (others (Free x V)) (r.fixed x V) (same (Free x V) tt refl))
joined-instances typs terms others r bs (Var x i V) T h same =
    rw (← h) (joined-long (map (typ_instance typs) bs) (typ_instance typs V) (terms (Var x i V)) (others (Var x i V)) (r.schematic x i V) (same (Var x i V) tt refl))
joined-instances typs terms others r bs (Bound p) T h same =
    joined-itself (map (typ_instance typs) bs) (typ_instance typs T) (Bound p) (typing-instance typs terms r bs (Bound p) T h)
joined-instances typs terms others r bs (Abs V b) T h same =
    subst (λ U. AreJoined (map (typ_instance typs) bs) U (term_instance typs terms (Abs V b)) (term_instance typs others (Abs V b))) (ap (typ_instance typs) h.2)
    (joined-body (map (typ_instance typs) bs) (typ_instance typs V) (typ_instance typs h.0) (term_instance typs terms b) (term_instance typs others b)
    (joined-instances typs terms others r (V ∷ bs) b h.0 h.1 (λ v is o. same v is (inr o))))
joined-instances typs terms others r bs (App f a) T h same =
    joined-application (map (typ_instance typs) bs) (typ_instance typs h.0) (typ_instance typs T) (term_instance typs terms f) (term_instance typs others f) (term_instance typs terms a) (term_instance typs others a)
    (joined-instances typs terms others r bs f (arrow h.0 T) h.1 (λ v is o. same v is (inr (inl o)))) (joined-instances typs terms others r bs a h.0 h.2 (λ v is o. same v is (inr (inr o))))

pub same_under_maps : SameUnderMaps
same_under_maps typs terms others r t T h same = one-long_joined (typ_instance typs T) (term_instance typs terms t) (term_instance typs others t) (joined-instances typs terms others r [] t T h same)
