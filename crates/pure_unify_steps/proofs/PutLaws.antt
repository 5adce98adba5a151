-- Settings put into sides.
use Rattle.std.proofs.Common.{◌≡◌, ◌⊎◌, false, ℕ, ◌+◌, ◌<◌, ◌≤◌, List, [], ◌∷◌, ◌++◌, map, length, get_or, drop, arith, inl, inr, refl, ap, sym, subst, ◌∙◌}
use Rattle.std.specs.Prelude.{Result, Ok, Err, IfOk}
use Rattle.pure_text.specs.Lists.{IsIn, Each}
use Rattle.pure_definitions.specs.Types.Typ.{Typ, TFree, TVar, Con}
use Rattle.pure_definitions.specs.Terms.Term.{Term, Const, Free, Var, Bound, Abs, App, IsWithin}
use Rattle.pure_definitions.specs.Terms.Typing.{HasType}
use Rattle.pure_definitions.specs.Terms.Subst.{TypBind, TermBind, typ_image, typ_instance, retyped_variable, inst_typ, term_image, inst_term, term_instance, IsTypeRespecting, AreTypeRespecting}
use Rattle.pure_definitions.specs.Terms.Bounds.{IsClosed}
use Rattle.pure_definitions.specs.Reduction.Beta.{IsBetaAnswer, TooLarge}
use Rattle.pure_definitions.specs.Reduction.Eta.{IsLongForm}
use Rattle.pure_definitions.proofs.InstanceLemmas.{typ_image-fixed}
use Rattle.pure_term.specs.Grown.{IsGrown}
use Rattle.pure_typ.specs.declared.grow.Grow.TheVariants.{Big, Memory}
use Rattle.pure_term_laws.specs.LawsOccurs.{IsTypVariable}
use Rattle.pure_term_laws.proofs.OccursLaws.{typ_instances-agree}
use Rattle.pure_term_laws.proofs.SubstLaws.{inst_term-alone, entries-respect_types, entries-keep_fixed, typ_instance-identity}
use Rattle.pure_term_laws.proofs.TypingBoundLaws.{typing-instance}
use Rattle.pure_term_laws.proofs.TypingLaws.{typed-closed}
use Rattle.pure_term_laws.proofs.EtaLaws.{one_long_form}
use Rattle.pure_eta.specs.LongTerm.{long_term}
use Rattle.pure_eta.proofs.LongLaws.{long_form-is}
use Rattle.pure_norm.specs.Instances.{IsOwn, IsInstanceLong}
use Rattle.pure_norm.proofs.BetaLaws.{normal_form-is_normal}
use Rattle.pure_tunify.specs.Settings.{composed}
use Rattle.pure_tunify.specs.Working.{IsWritten}
use Rattle.pure_tunify.proofs.SettingLaws.{composed-fixed}
use Rattle.pure_logic.specs.Derivable.{Pair}
use Rattle.pure_norm.specs.declared.fault.NormFault.{NormFault}
use Rattle.pure_unify_definitions.specs.LongSides as sides
use Rattle.pure_unify_definitions.specs.LongSides.{Long, Ends, ComesTo, is_long, is_large}
use Rattle.pure_unify_definitions.specs.Node as node
use Rattle.pure_unify_definitions.specs.Node.{Typs, Single, with_setting}
use Rattle.pure_unify_nodes.specs.SideAnswer.{IsTyped, IsSideAnswer}
use Rattle.pure_unify_steps.specs.declared.node.Setting.{Setting}
use Rattle.pure_unify_steps.specs.declared.node.Setting.TheVariants.{OfTyps, OfTerm}
use Rattle.pure_unify_steps.specs.Held.{IsSetting}
use Rattle.pure_unify_nodes.specs.Long.{IsLongSide}
use Rattle.pure_unify_nodes.proofs.LongLemmas.{normal_typed, own_answer}
use Rattle.pure_unify_steps.proofs.LongLaws.{comes_long}

-- A term beyond the limits is too large.
pub beyond_large : (t : Term) → ¬ IsWithin t → ComesTo t (Ends sides.Big)
beyond_large t h = is_large (record { before = []; last = t; sequence = refl; undecided = tt; in_time = omega arith; decided = h })

-- A map that is written out is the settings.
pub written_agrees : (sets written : List TypBind) → IsWritten sets written → (v : Typ) → IsTypVariable v → typ_image written v ≡ composed sets v
written_agrees sets written h (TFree x s) is = typ_image-fixed written x s ∙ sym (composed-fixed sets x s)
written_agrees sets written h (TVar x i s) is = h x i s
written_agrees sets written h (Con k ts) is = absurd is

retyped_agrees : (f g : Typ → Typ) → ((v : Typ) → IsTypVariable v → f v ≡ g v) → (t : Term) → inst_typ f t ≡ inst_typ g t
retyped_agrees f g same (Const c T) = ap (Const c) (typ_instances-agree f g T (λ v is o. same v is))
retyped_agrees f g same (Free x T) = ap (Free x) (typ_instances-agree f g T (λ v is o. same v is))
retyped_agrees f g same (Var x i T) = ap (Var x i) (typ_instances-agree f g T (λ v is o. same v is))
retyped_agrees f g same (Bound n) = refl
retyped_agrees f g same (Abs T b) =
    let binder = typ_instances-agree f g T (λ v is o. same v is) in
    let body = retyped_agrees f g same b in
    λ l. Abs (binder l) (body l)
retyped_agrees f g same (App h a) =
    let function = retyped_agrees f g same h in
    let argument = retyped_agrees f g same a in
    λ l. App (function l) (argument l)

pub written_same : (sets written : List TypBind) → IsWritten sets written → (t : Term) → inst_typ (typ_image written) t ≡ inst_typ (composed sets) t
written_same sets written h t = retyped_agrees (typ_image written) (composed sets) (written_agrees sets written h) t

pub variable_same : (sets written : List TypBind) → IsWritten sets written → (t : Term) → retyped_variable (typ_image written) t ≡ retyped_variable (composed sets) t
variable_same sets written h (Const c T) = refl
variable_same sets written h (Free x T) = ap (Free x) (typ_instances-agree (typ_image written) (composed sets) T (λ v is o. written_agrees sets written h v is))
variable_same sets written h (Var x i T) = ap (Var x i) (typ_instances-agree (typ_image written) (composed sets) T (λ v is o. written_agrees sets written h v is))
variable_same sets written h (Bound n) = refl
variable_same sets written h (Abs T b) = refl
variable_same sets written h (App f a) = refl

-- Terms with settings put in are typed.
pub retyping-respects : (typs : Typ → Typ) → IsTypeRespecting typs (retyped_variable typs)
retyping-respects typs = record { fixed = λ x T. refl; schematic = λ x i T. refl }

pub retyped_typed : (map : List TypBind) (t : Term) → IsTyped t → IsTyped (inst_typ (typ_image map) t)
retyped_typed map t h = (typ_instance (typ_image map) h.0, typing-instance (typ_image map) (retyped_variable (typ_image map)) (retyping-respects (typ_image map)) [] t h.0 h.1)

pub replaced_typed : (map : List TermBind) (t : Term) → AreTypeRespecting map → IsTyped t → IsTyped (inst_term (term_image map) t)
replaced_typed map t r h =
    (typ_instance (λ v. v) h.0, subst (λ (u : Term). HasType [] u (typ_instance (λ v. v) h.0)) (sym (inst_term-alone (term_image map) t)) (typing-instance (λ v. v) (term_image map) (entries-respect_types map r) [] t h.0 h.1))

pub made_typed : (t u : Term) → IsTyped t → u ≡ t → IsTyped u
made_typed t u h e = subst IsTyped (sym e) h

pub made_within : (t u : Term) → u ≡ t → IsWithin t → IsWithin u
made_within t u e h = subst IsWithin (sym e) h

pub untouched_fixed : (map : List TermBind) (t : Term) (x : ℕ) (T : Typ) → t ≡ Free x T → inst_term (term_image map) t ≡ t
untouched_fixed map t x T e = subst (λ (u : Term). inst_term (term_image map) u ≡ u) (sym e) (entries-keep_fixed map x T ∙ ap (Free x) (typ_instance-identity T))

-- The answer for a side with a setting put in.
pub typs_answer : (map sets : List TypBind) (t : Term) (r : Result Term NormFault) → IsWritten sets map → IsSideAnswer (inst_typ (typ_image map) t) r → IsSideAnswer (inst_typ (composed sets) t) r
typs_answer map sets t r w h = subst (λ (u : Term). IsSideAnswer u r) (written_same sets map w t) h

pub answer_for_typs : (map : List TypBind) (t : Term) (r : Result Term NormFault) → IsSideAnswer (inst_typ (typ_image map) t) r → (setting : Setting) → setting ≡ OfTyps map → (s : node.Setting) → IsSetting setting s → IsSideAnswer (with_setting s t) r
answer_for_typs map t r h setting e s k = by s (subst (λ (x : Setting). IsSetting x s) e k)
  where
    by : (s : node.Setting) → IsSetting (OfTyps map) s → IsSideAnswer (with_setting s t) r
    by (Typs sets) w = typs_answer map sets t r w.0 h
    by (Single b) w = absurd w

-- A side that stays as it is under a map does so under the setting.
pub term_stays : (map : List TermBind) (t : Term) → inst_term (term_image map) t ≡ t → (setting : Setting) → setting ≡ OfTerm map → (s : node.Setting) → IsSetting setting s → with_setting s t ≡ t
term_stays map t h setting e s k = by s (subst (λ (x : Setting). IsSetting x s) e k)
  where
    by : (s : node.Setting) → IsSetting (OfTerm map) s → with_setting s t ≡ t
    by (Typs sets) w = absurd w
    by (Single b) w = subst (λ (bs : List TermBind). inst_term (term_image bs) t ≡ t) w h

pub stays_answer : (setting : Setting) (t copy : Term) → ((s : node.Setting) → IsSetting setting s → with_setting s t ≡ t) → copy ≡ t → IsLongSide t → (s : node.Setting) → IsSetting setting s → IsSideAnswer (with_setting s t) (Ok copy)
stays_answer setting t copy same e h s k = subst (λ (v : Term). IsSideAnswer v (Ok copy)) (sym (same s k)) (own_answer t copy e h)

pub answer_long : (t : Term) (r : Result Term NormFault) → IsSideAnswer t r → IfOk r IsLongSide
answer_long t (Ok u) h = comes_long t u h
answer_long t (Err fault) h = tt

-- A side in long form is its own as the walk through its instance asks for it; and what that finds, the instance comes to.
pub own_side : (t : Term) → IsLongSide t → IsOwn false [] t
own_side t h = record { normal = h.form.normal; long = one_long_form t (long_term false [] t) t (long_form-is t h.form.typ h.form.typed h.form.normal) h.form }

pub instance_closed : (map : List TermBind) (t : Term) → AreTypeRespecting map → IsLongSide t → IsClosed (inst_term (term_image map) t)
instance_closed map t r h =
    let typed = replaced_typed map t r (h.form.typ, h.form.typed) in
    typed-closed (inst_term (term_image map) t) typed.0 typed.1

pub found_comes : (map : List TermBind) (t l : Term) → AreTypeRespecting map → IsLongSide t → IsInstanceLong map t l → IsWithin l → ComesTo (inst_term (term_image map) t) (Long l)
found_comes map t l r h found within =
    let made = inst_term (term_image map) t in
    let typed = normal_typed made found.normal (replaced_typed map t r (h.form.typ, h.form.typed)) found.answer in
    let form = long_form-is found.normal typed.0 typed.1 (normal_form-is_normal made found.normal found.answer) in
    is_long found.answer (subst (IsLongForm found.normal) (sym found.long) form) within
