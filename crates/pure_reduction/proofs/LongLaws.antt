-- Long forms of terms that may have redexes.
use Rattle.std.proofs.Common.{◌≡◌, [], refl, sym, subst}
use Rattle.pure_definitions.specs.Types.Typ.{Typ}
use Rattle.pure_definitions.specs.Terms.Term.{Term}
use Rattle.pure_definitions.specs.Terms.Typing.{HasType}
use Rattle.pure_definitions.specs.Reduction.Beta.{IsBetaNormal}
use Rattle.pure_definitions.specs.Reduction.Eta.{EtaReduces, IsLongForm}
use Rattle.pure_term_laws.specs.LawsExamples.{f as const_f}
use Rattle.pure_term_laws.proofs.EtaLaws.{one_long_form, long_form_example}
use Rattle.pure_term_laws.proofs.TypingLaws.{typed-once}
use Rattle.pure_eta.proofs.KeptLaws.{steps_keep_beta_normal}
use Rattle.pure_eta.proofs.FormLaws.{each_typed_normal_term_has_long_form, long_form_of_reduct}
use Rattle.pure_reduction.specs.Steps.{BetaStep, BetaReduces}
use Rattle.pure_reduction.specs.LongForms.{HasLongForm}
use Rattle.pure_reduction.specs.LawsLong.{OneLongFormOfTerm, TypedTermHasLongForm, LongFormKeepsType, LongFormOfNormal, LongFormOfBetaReduct, LongFormOfEtaReduct, LongFormOfRedexExample}
use Rattle.pure_reduction.proofs.StepLaws.{reduces-then, steps_keep_type, normal-stays}
use Rattle.pure_reduction.proofs.ParallelLaws.{beta_steps_are_confluent, one_beta_normal_form}
use Rattle.pure_reduction.proofs.CommuteLaws.{steps_commute}
use Rattle.pure_reduction.proofs.NormalLaws.{typed_term_has_beta_normal_form}

pub has_long-normal : (t u : Term) (h : HasLongForm t u) → IsBetaNormal h.normal
has_long-normal t u h = steps_keep_beta_normal u h.normal h.long.reduces h.long.normal

pub one_long_form_of_term : OneLongFormOfTerm
one_long_form_of_term t u v h k =
    let same : h.normal ≡ k.normal = one_beta_normal_form t h.normal k.normal h.reduces k.reduces (has_long-normal t u h) (has_long-normal t v k) in
    one_long_form k.normal u v (subst (λ n. IsLongForm n u) same h.long) k.long

pub typed_term_has_long_form : TypedTermHasLongForm
typed_term_has_long_form t T h =
    let r = typed_term_has_beta_normal_form [] t T h in
    let long = each_typed_normal_term_has_long_form r.0 T (steps_keep_type [] t r.0 T r.1 h) r.2 in
    (long.0, record { normal = r.0; reduces = r.1; long = long.1 })

pub long_form_keeps_type : LongFormKeepsType
long_form_keeps_type t u T typed h =
    let same : h.long.typ ≡ T = typed-once [] h.normal h.long.typ T h.long.typed (steps_keep_type [] t h.normal T h.reduces typed) in
    subst (HasType [] u) same h.long.long_typed

pub long_form_of_normal : LongFormOfNormal
long_form_of_normal t u h = record { normal = t; reduces = BetaReduces.done; long = h }

pub long-from_reduct : (t v u : Term) → BetaReduces t v → HasLongForm v u → HasLongForm t u
long-from_reduct t v u r h = record { normal = h.normal; reduces = reduces-then r h.reduces; long = h.long }

pub long_form_of_beta_reduct : LongFormOfBetaReduct
long_form_of_beta_reduct t v u r = (down, long-from_reduct t v u r)
  where
    down : HasLongForm t u → HasLongForm v u
    down h =
        let joined = beta_steps_are_confluent t v h.normal r h.reduces in
        let same : h.normal ≡ joined.0 = normal-stays joined.2 (has_long-normal t u h) in
        record { normal = h.normal; reduces = subst (BetaReduces v) (sym same) joined.1; long = h.long }

-- A typed term's long form is that of its eta reducts.
pub long-of_eta_reduct : (t v u : Term) (T : Typ) → HasType [] t T → EtaReduces t v → HasLongForm t u → HasLongForm v u
long-of_eta_reduct t v u T typed k h =
    let joined = steps_commute [] t h.normal v T typed h.reduces k in
    record { normal = joined.0; reduces = joined.2; long = long_form_of_reduct h.normal joined.0 u h.long joined.1 }

pub long_form_of_eta_reduct : LongFormOfEtaReduct
long_form_of_eta_reduct t v u T typed k = (long-of_eta_reduct t v u T typed k, up)
  where
    up : HasLongForm v u → HasLongForm t u
    up h =
        let long = typed_term_has_long_form t T typed in
        let same : long.0 ≡ u = one_long_form_of_term v long.0 u (long-of_eta_reduct t v long.0 T typed k long.1) h in
        subst (HasLongForm t) same long.1

pub long_form_of_redex_example : LongFormOfRedexExample
long_form_of_redex_example = record { normal = const_f; reduces = BetaReduces.next (BetaStep.contract refl) BetaReduces.done; long = long_form_example.0 }
