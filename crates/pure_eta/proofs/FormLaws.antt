-- Eta-normal forms and long forms exist; which terms have the same.
use Rattle.std.proofs.Common.{false, [], refl}
use Rattle.pure_definitions.specs.Types.Typ.{arrow}
use Rattle.pure_definitions.specs.Terms.Term.{Term, Free}
use Rattle.pure_definitions.specs.Terms.Typing.{HasType}
use Rattle.pure_definitions.specs.Reduction.Eta.{EtaReduces, IsLongForm}
use Rattle.pure_term_laws.specs.LawsExamples.{i}
use Rattle.pure_term_laws.proofs.EtaLaws.{one_long_form}
use Rattle.pure_eta.specs.EtaForm.{eta_form}
use Rattle.pure_eta.specs.LongTerm.{long_term}
use Rattle.pure_eta.specs.LawsEta.{EachTermHasEtaNormalForm, EachTypedNormalTermHasLongForm, LongFormOfLongForm, LongFormOfReduct, LongFormsOfJoined, EtaNormalFormOfLongForm, LongFormIsCertified, StepsOfLift, ExpandedArgumentExample}
use Rattle.pure_eta.proofs.EtaStepLaws.{reduces-then}
use Rattle.pure_eta.proofs.EtaFormLaws.{eta_form-is}
use Rattle.pure_eta.proofs.SaturatedLaws.{reduces-lift}
use Rattle.pure_eta.proofs.LongLaws.{long_form-is}
use Rattle.pure_eta.proofs.KeptLaws.{steps_keep_type, steps_keep_beta_normal}
use Rattle.pure_eta.proofs.CertifiedLaws.{certified-long_term}

pub each_term_has_eta_normal_form : EachTermHasEtaNormalForm
each_term_has_eta_normal_form t = (eta_form t, eta_form-is t)

pub each_typed_normal_term_has_long_form : EachTypedNormalTermHasLongForm
each_typed_normal_term_has_long_form t T h n = (long_term false [] t, long_form-is t T h n)

-- A term of the type to which a long form reduces has it for its own.
same-long : (t v u : Term) (h : IsLongForm t u) → HasType [] v h.typ → EtaReduces u v → IsLongForm v u
same-long t v u h typed r = record { typ = h.typ; typed = typed; long_typed = h.long_typed; reduces = r; normal = h.normal; saturated = h.saturated; parts = h.parts }

pub long_form_of_long_form : LongFormOfLongForm
long_form_of_long_form t u h = same-long t u u h h.long_typed EtaReduces.done

pub long_form_of_reduct : LongFormOfReduct
long_form_of_reduct t v u h r = same-long t v u h (steps_keep_type [] t v h.typ r h.typed) (reduces-then h.reduces r)

pub long_forms_of_joined : LongFormsOfJoined
long_forms_of_joined t u v w n h k r s = one_long_form n u w (long_form_of_reduct t n u h r) (long_form_of_reduct v n w k s)

pub eta_normal_form_of_long_form : EtaNormalFormOfLongForm
eta_normal_form_of_long_form t u n h k = record { reduces = reduces-then h.reduces k.reduces; normal = k.normal }

pub long_form_is_certified : LongFormIsCertified
long_form_is_certified ds t u h c =
    let normal = steps_keep_beta_normal u t h.reduces h.normal in
    let same = one_long_form t u (long_term false [] t) h (long_form-is t h.typ h.typed normal) in
    record { parts = rw same (certified-long_term ds false [] t tt c.parts); typ = h.typ; typed = h.long_typed }

pub steps_of_lift : StepsOfLift
steps_of_lift by from t u r = reduces-lift by from r

pub expanded_argument_example : ExpandedArgumentExample
expanded_argument_example = long_form-is (Free 42 (arrow (arrow i i) i)) (arrow (arrow i i) i) refl tt
