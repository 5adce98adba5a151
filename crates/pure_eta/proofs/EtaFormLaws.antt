-- The function gives the eta-normal form.
use Rattle.std.proofs.Common.{◌≡◌, zero, Bool, true, false, refl, sym}
use Rattle.std.specs.Prelude.{if◌then◌else◌}
use Rattle.pure_definitions.specs.Types.Typ.{Typ}
use Rattle.pure_definitions.specs.Terms.Term.{Term, Const, Free, Var, Bound, Abs, App}
use Rattle.pure_definitions.specs.Terms.Bounds.{lift_term}
use Rattle.pure_definitions.specs.Reduction.Eta.{EtaStep, EtaReduces, IsEtaNormal, IsEtaNormalForm}
use Rattle.pure_eta.specs.EtaForm.{is_loose, lower_term, contracted, eta_form}
use Rattle.pure_eta.proofs.LooseLaws.{lift-lower}
use Rattle.pure_eta.proofs.EtaStepLaws.{reduces-then, reduces-body, reduces-application, step-lift, constant-normal, fixed-normal, schematic-normal, bound-normal, application-normal, function-normal, abstraction-normal}

chosen-reduces : (T : Typ) (g : Term) (l : Bool) → is_loose 0 g ≡ l → EtaReduces (Abs T (App g (Bound 0))) (if l then Abs T (App g (Bound 0)) else lower_term 0 g)
chosen-reduces T g true e = EtaReduces.done
chosen-reduces T g false e = EtaReduces.next (EtaStep.contract (sym (lift-lower 0 g e))) EtaReduces.done

contracted-reduces : (T : Typ) (b : Term) → EtaReduces (Abs T b) (contracted T b)
contracted-reduces T (App g (Bound zero)) = chosen-reduces T g (is_loose 0 g) refl
contracted-reduces T b = EtaReduces.done

-- What is lifted to an eta-normal term is one.
unlifted-normal : (f g : Term) → lift_term 1 0 f ≡ g → IsEtaNormal g → IsEtaNormal f
unlifted-normal f g e n u s = n (lift_term 1 0 u) (rw e at (step-lift 1 0 s))

chosen-normal : (T : Typ) (g : Term) (l : Bool) → is_loose 0 g ≡ l → IsEtaNormal (App g (Bound 0)) → IsEtaNormal (if l then Abs T (App g (Bound 0)) else lower_term 0 g)
chosen-normal T g true e n = abstraction-normal T (App g (Bound 0)) n (λ f same. let functions : g ≡ f = cc in rw (← functions) e)
chosen-normal T g false e n = unlifted-normal (lower_term 0 g) g (lift-lower 0 g e) (function-normal g (Bound 0) n)

contracted-normal : (T : Typ) (b : Term) → IsEtaNormal b → IsEtaNormal (contracted T b)
contracted-normal T (App g (Bound zero)) n = chosen-normal T g (is_loose 0 g) refl n
contracted-normal T b n = abstraction-normal T b n (λ g e. absurd (cc))

pub eta_form-reduces : (t : Term) → EtaReduces t (eta_form t)
eta_form-reduces (Const c T) = EtaReduces.done
eta_form-reduces (Free x T) = EtaReduces.done
eta_form-reduces (Var x i T) = EtaReduces.done
eta_form-reduces (Bound p) = EtaReduces.done
eta_form-reduces (Abs T b) = reduces-then (reduces-body T (eta_form-reduces b)) (contracted-reduces T (eta_form b))
eta_form-reduces (App f a) = reduces-application f (eta_form f) a (eta_form a) (eta_form-reduces f) (eta_form-reduces a)

pub eta_form-normal : (t : Term) → IsEtaNormal (eta_form t)
eta_form-normal (Const c T) = constant-normal c T
eta_form-normal (Free x T) = fixed-normal x T
eta_form-normal (Var x i T) = schematic-normal x i T
eta_form-normal (Bound p) = bound-normal p
eta_form-normal (Abs T b) = contracted-normal T (eta_form b) (eta_form-normal b)
eta_form-normal (App f a) = application-normal (eta_form f) (eta_form a) (eta_form-normal f) (eta_form-normal a)

pub eta_form-is : (t : Term) → IsEtaNormalForm t (eta_form t)
eta_form-is t = record { reduces = eta_form-reduces t; normal = eta_form-normal t }
