-- The parts of terms, their faults, and the one answer of a term.
use Rattle.std.proofs.Common.{◌≡◌, ◌≢◌, ◌↔◌, ℕ, List, [], ◌∷◌, refl, ap, sym, ◌∙◌}
use Rattle.std.specs.Prelude.{Option, Some, None, Result, Ok, Err, IfOk, OnOk, MatchOption}
use Rattle.pure_text.specs.Lists.{Each}
use Rattle.pure_text.proofs.ListLaws.{each-append, each-left, each-right}
use Rattle.pure_definitions.specs.Types.Typ.{Typ}
use Rattle.pure_definitions.specs.Terms.Term.{Term, Const, Free, Var, Bound, Abs, App}
use Rattle.pure_definitions.specs.Terms.Typing.{HasType, IsUntypedAt}
use Rattle.pure_definitions.specs.Terms.Limits.{cut_off}
use Rattle.pure_definitions.specs.Declarations.Decl.{Decl}
use Rattle.pure_definitions.specs.Declarations.Certified.{IsCertifiedTyp, HasCertifiedParts, IsCertified}
use Rattle.pure_term_laws.proofs.FaultLaws.{typed-not_at_fault, one_place_of_fault}
use Rattle.pure_term.specs.declared.typing.TypeFault.{TypeFault}
use Rattle.pure_term.specs.declared.typing.TypeFault.TheVariants as typing
use Rattle.pure_term.specs.TypeAnswer.{IsTypeAnswer}
use Rattle.pure_certify.specs.declared.fault.CertFault.{CertFault}
use Rattle.pure_certify.specs.declared.fault.CertFault.TheVariants.{NotTyped, Memory}
use Rattle.pure_certify.specs.Parts.{Part, ClassPart, ConPart, ConstPart, typ_parts, term_parts, IsSound, HasFault, IsFirstFault}
use Rattle.pure_certify.specs.Answer.{IsTermFault, IsCertAnswer, fault_of_type}
use Rattle.pure_certify.specs.Laws.{DoTermSortsAscend}
use Rattle.pure_certify.proofs.PartLemmas.{certified_typ_exactly, one_fault, faulty_is_not_sound, fault_right}

-- A term's parts are certified exactly where its sorts ascend and they are sound.
parts-exactly : (ds : List Decl) (t : Term) → HasCertifiedParts ds t ↔ (DoTermSortsAscend t × Each (IsSound ds) (term_parts t))
parts-exactly ds (Const c T) =
    let typ = certified_typ_exactly ds T in
    let ends = ConstPart c T ∷ [] in (
      λ h. (let all = typ.0 h.0 in (all.0, each-append (IsSound ds) (typ_parts T) ends all.1 (h.1, tt))),
      λ h. (typ.1 (h.0, each-left (IsSound ds) (typ_parts T) ends h.1), (each-right (IsSound ds) (typ_parts T) ends h.1).0),
    )
parts-exactly ds (Free x T) = certified_typ_exactly ds T
parts-exactly ds (Var x i T) = certified_typ_exactly ds T
parts-exactly ds (Bound n) = (λ h. (tt, tt), λ h. tt)
parts-exactly ds (Abs T b) =
    let typ = certified_typ_exactly ds T in
    let body = parts-exactly ds b in (
      λ h. (let first = typ.0 h.0 in let rest = body.0 h.1 in ((first.0, rest.0), each-append (IsSound ds) (typ_parts T) (term_parts b) first.1 rest.1)),
      λ h. (typ.1 (h.0.0, each-left (IsSound ds) (typ_parts T) (term_parts b) h.1), body.1 (h.0.1, each-right (IsSound ds) (typ_parts T) (term_parts b) h.1)),
    )
parts-exactly ds (App f a) =
    let function = parts-exactly ds f in
    let argument = parts-exactly ds a in (
      λ h. (let first = function.0 h.0 in let rest = argument.0 h.1 in ((first.0, rest.0), each-append (IsSound ds) (term_parts f) (term_parts a) first.1 rest.1)),
      λ h. (function.1 (h.0.0, each-left (IsSound ds) (term_parts f) (term_parts a) h.1), argument.1 (h.0.1, each-right (IsSound ds) (term_parts f) (term_parts a) h.1)),
    )

pub certified-exactly : (ds : List Decl) (t : Term) → IsCertified ds t ↔ (DoTermSortsAscend t × Each (IsSound ds) (term_parts t) × ((T : Typ) × HasType [] t T))
certified-exactly ds t =
    let parts = parts-exactly ds t in (
      λ h. (let all = parts.0 h.parts in (all.0, all.1, (h.typ, h.typed))),
      λ h. record { parts = parts.1 (h.0, h.1); typ = h.2.0; typed = h.2.1 },
    )

-- Where there is a first fault the parts aren't certified.
faulty-uncertified : (ds : List Decl) (t : Term) (f : CertFault) → IsFirstFault ds (term_parts t) f → ¬ HasCertifiedParts ds t
faulty-uncertified ds t f h parts = faulty_is_not_sound ds (term_parts t) f h ((parts-exactly ds t).0 parts).1

-- What a term's fault is.
pub data TermFault (ds : List Decl) (t : Term) (f : CertFault) : Type 0 where
  of_part : IsFirstFault ds (term_parts t) f → TermFault ds t f
  of_typ : (place : ℕ) → f ≡ NotTyped (cut_off place) → HasCertifiedParts ds t → IsUntypedAt [] t place → TermFault ds t f
  of_memory : f ≡ Memory → TermFault ds t f

term_fault-is : (ds : List Decl) (t : Term) (f : CertFault) → IsTermFault ds t f → TermFault ds t f
term_fault-is ds t (NotTyped cut) h = of_typ h.1.0 (ap NotTyped h.1.2) h.0 h.1.1
term_fault-is ds t Memory h = of_memory refl
term_fault-is ds t _ h = of_part h

uncertified : (ds : List Decl) (t : Term) (f : CertFault) → TermFault ds t f → f ≢ Memory → ¬ IsCertified ds t
uncertified ds t f (of_part h) other c = faulty-uncertified ds t f h c.parts
uncertified ds t f (of_typ place e parts h) other c = typed-not_at_fault [] t c.typ place c.typed h
uncertified ds t f (of_memory e) other c = other e

pub faulty-not_certified : (ds : List Decl) (t : Term) (f : CertFault) → IsTermFault ds t f → f ≢ Memory → ¬ IsCertified ds t
faulty-not_certified ds t f h other = uncertified ds t f (term_fault-is ds t f h) other

once : (ds : List Decl) (t : Term) (f g : CertFault) → TermFault ds t f → TermFault ds t g → f ≢ Memory → g ≢ Memory → f ≡ g
once ds t f g (of_memory e) k other others = absurd (other e)
once ds t f g (of_part h) (of_memory e) other others = absurd (others e)
once ds t f g (of_part h) (of_part k) other others = one_fault ds (term_parts t) f g h k
once ds t f g (of_part h) (of_typ place e parts k) other others = absurd (faulty-uncertified ds t f h parts)
once ds t f g (of_typ place d parts h) (of_memory e) other others = absurd (others e)
once ds t f g (of_typ place d parts h) (of_part k) other others = absurd (faulty-uncertified ds t g k parts)
once ds t f g (of_typ place d parts h) (of_typ spot e others_too k) other others = d ∙ ap (λ p. NotTyped (cut_off p)) (one_place_of_fault [] t place spot h k) ∙ sym e

pub term_fault-once : (ds : List Decl) (t : Term) (f g : CertFault) → IsTermFault ds t f → IsTermFault ds t g → f ≢ Memory → g ≢ Memory → f ≡ g
term_fault-once ds t f g h k = once ds t f g (term_fault-is ds t f h) (term_fault-is ds t g k)

-- A part has neither of the faults of a term alone.
part-typed : (ds : List Decl) (part : Part) (cut : ℕ) → ¬ HasFault ds part (NotTyped cut)
part-typed ds (ClassPart c) cut h = h
part-typed ds (ConPart k count) cut h = h
part-typed ds (ConstPart c T) cut h = h

pub first_fault-is_fault : (ds : List Decl) (t : Term) (f : CertFault) → IsFirstFault ds (term_parts t) f → IsTermFault ds t f
first_fault-is_fault ds t (NotTyped cut) h = absurd (part-typed ds h.part cut h.faulty)
first_fault-is_fault ds t Memory h = tt
first_fault-is_fault ds t _ h = h

-- What has been said of a term without a type.
pub untyped-fault : (ds : List Decl) (t : Term) (f : TypeFault) → HasCertifiedParts ds t → IsTypeAnswer [] t (Err f) → IsTermFault ds t (fault_of_type f)
untyped-fault ds t (typing.NotTyped cut) parts h = (parts, h)
untyped-fault ds t typing.Memory parts h = tt

-- A term that is answered by its type is certified.
pub certified-ok : (ds : List Decl) (t : Term) (r : Result Typ CertFault) → IsCertAnswer ds t r → OnOk r (IsCertified ds t)
certified-ok ds t (Ok T) h = record { parts = h.0; typ = T; typed = h.1 }
certified-ok ds t (Err f) h = tt

-- The answers for a constant, an abstraction and an application, from those for what is in them.
pub leaf-answer : {E : Type 0} (ds : List Decl) (c : ℕ) (T : Typ) (r : Result (Option CertFault) E) → IsCertifiedTyp ds T → IfOk r (λ f. MatchOption f (IsSound ds (ConstPart c T)) (HasFault ds (ConstPart c T)))
    → IfOk r (λ f. MatchOption f (HasCertifiedParts ds (Const c T)) (IsFirstFault ds (term_parts (Const c T))))
leaf-answer ds c T (Err e) typ h = tt
leaf-answer ds c T (Ok None) typ h = (typ, h)
leaf-answer ds c T (Ok (Some f)) typ h = fault_right ds (typ_parts T) (ConstPart c T ∷ []) f ((certified_typ_exactly ds T).0 typ).1
    (record { front = []; part = ConstPart c T; rest = []; is = refl; sound = tt; faulty = h })

pub body-answer : {E : Type 0} (ds : List Decl) (t : Term) (T : Typ) (b : Term) (r : Result (Option CertFault) E) → t ≡ Abs T b → IsCertifiedTyp ds T → IfOk r (λ f. MatchOption f (HasCertifiedParts ds b) (IsFirstFault ds (term_parts b)))
    → IfOk r (λ f. MatchOption f (HasCertifiedParts ds t) (IsFirstFault ds (term_parts t)))
body-answer ds t T b (Err e) is typ h = tt
body-answer ds t T b (Ok None) is typ h = rw is (typ, h)
body-answer ds t T b (Ok (Some f)) is typ h = rw is (fault_right ds (typ_parts T) (term_parts b) f ((certified_typ_exactly ds T).0 typ).1 h)

pub argument-answer : {E : Type 0} (ds : List Decl) (t u a : Term) (r : Result (Option CertFault) E) → t ≡ App u a → HasCertifiedParts ds u → IfOk r (λ f. MatchOption f (HasCertifiedParts ds a) (IsFirstFault ds (term_parts a)))
    → IfOk r (λ f. MatchOption f (HasCertifiedParts ds t) (IsFirstFault ds (term_parts t)))
argument-answer ds t u a (Err e) is function h = tt
argument-answer ds t u a (Ok None) is function h = rw is (function, h)
argument-answer ds t u a (Ok (Some f)) is function h = rw is (fault_right ds (term_parts u) (term_parts a) f ((parts-exactly ds u).0 function).1 h)
