-- Heads that are constants stay under type maps and in long forms; and what a unifier of two types equates.
use Rattle.std.proofs.Common.{◌≡◌, ℕ, List, [], ◌∷◌, refl, ap, sym, subst, ◌∙◌}
use Rattle.pure_definitions.specs.Types.Typ.{Typ}
use Rattle.pure_definitions.specs.Types.Order.{Algebra}
use Rattle.pure_definitions.specs.Terms.Term.{Term, Const, Free, Var, Bound, Abs, App}
use Rattle.pure_definitions.specs.Terms.Bounds.{lift_term}
use Rattle.pure_definitions.specs.Terms.Subst.{TypBind, typ_instance, inst_typ}
use Rattle.pure_definitions.specs.Reduction.Beta.{IsAbs, IsBetaNormal, IsBetaAnswer, NormalForm}
use Rattle.pure_definitions.specs.Reduction.Eta.{EtaStep, contract, body, function, argument, EtaReduces, done, next}
use Rattle.pure_term_laws.proofs.BetaLaws.{one_beta_sequence_to_normal}
use Rattle.pure_term_laws.proofs.SubstLaws.{typ_instance-identity}
use Rattle.pure_tunify.specs.declared.pair.TypPair.{TypPair}
use Rattle.pure_tunify.specs.Steps as typs
use Rattle.pure_tunify.specs.Settings.{composed}
use Rattle.pure_tunify.specs.Procedure.{Equalises, Unifies, Unified}
use Rattle.pure_tunify.proofs.PlaceLaws.{no_difference}
use Rattle.pure_tunify.proofs.SettingLaws.{instance-append}
use Rattle.pure_eta.proofs.KeptLaws.{steps_keep_beta_normal}
use Rattle.pure_unify_definitions.specs.Fronts.{term_body, front, head}
use Rattle.pure_unify_definitions.specs.LongSides.{Long, ComesTo, is_long}

body-retyped : (map : Typ → Typ) (t : Term) → term_body (inst_typ map t) ≡ inst_typ map (term_body t)
body-retyped map (Const c T) = refl
body-retyped map (Free x T) = refl
body-retyped map (Var x i T) = refl
body-retyped map (Bound p) = refl
body-retyped map (Abs T b) = body-retyped map b
body-retyped map (App f a) = refl

front-retyped : (map : Typ → Typ) (t : Term) → front (inst_typ map t) ≡ inst_typ map (front t)
front-retyped map (Const c T) = refl
front-retyped map (Free x T) = refl
front-retyped map (Var x i T) = refl
front-retyped map (Bound p) = refl
front-retyped map (Abs T b) = refl
front-retyped map (App f a) = front-retyped map f

constant-retyped : (map : Typ → Typ) (t : Term) (c : ℕ) (T : Typ) → head t ≡ Const c T → head (inst_typ map t) ≡ Const c (typ_instance map T)
constant-retyped map t c T e = ap front (body-retyped map t) ∙ (front-retyped map (term_body t) ∙ ap (inst_typ map) e)

no_abs-retyped : (map : Typ → Typ) (t : Term) → ¬ IsAbs t → ¬ IsAbs (inst_typ map t)
no_abs-retyped map (Const c T) n is = is
no_abs-retyped map (Free x T) n is = is
no_abs-retyped map (Var x i T) n is = is
no_abs-retyped map (Bound p) n is = is
no_abs-retyped map (Abs T b) n is = n tt
no_abs-retyped map (App f a) n is = is

normal-retyped : (map : Typ → Typ) (t : Term) → IsBetaNormal t → IsBetaNormal (inst_typ map t)
normal-retyped map (Const c T) n = tt
normal-retyped map (Free x T) n = tt
normal-retyped map (Var x i T) n = tt
normal-retyped map (Bound p) n = tt
normal-retyped map (Abs T b) n = normal-retyped map b n
normal-retyped map (App f a) n = (no_abs-retyped map f n.0, normal-retyped map f n.1, normal-retyped map a n.2)

-- A normal term is its own normal form.
normal-own : (t n : Term) → IsBetaAnswer t (NormalForm n) → IsBetaNormal t → n ≡ t
normal-own t n a normal =
    let same = one_beta_sequence_to_normal t a.last t a.before [] a.sequence refl a.decided.1 normal in
    sym a.decided.2 ∙ same.1

-- A constant in front stays there under liftings, and where eta steps are taken back.
front-lift : (by from : ℕ) (t : Term) (c : ℕ) (T : Typ) → front t ≡ Const c T → front (lift_term by from t) ≡ Const c T
front-lift by from (Const d U) c T e = e
front-lift by from (Free x U) c T e = e
front-lift by from (Var x i U) c T e = e
front-lift by from (Bound p) c T e = absurd (cc)
front-lift by from (Abs U b) c T e = absurd (cc)
front-lift by from (App f a) c T e = front-lift by from f c T e

no_abs-lift : (by from : ℕ) (t : Term) → ¬ IsAbs (lift_term by from t) → ¬ IsAbs t
no_abs-lift by from (Const d U) n is = is
no_abs-lift by from (Free x U) n is = is
no_abs-lift by from (Var x i U) n is = is
no_abs-lift by from (Bound p) n is = is
no_abs-lift by from (Abs U b) n is = n tt
no_abs-lift by from (App f a) n is = is

body-itself : (t : Term) → ¬ IsAbs t → term_body t ≡ t
body-itself (Const d U) n = refl
body-itself (Free x U) n = refl
body-itself (Var x i U) n = refl
body-itself (Bound p) n = refl
body-itself (Abs U b) n = absurd (n tt)
body-itself (App f a) n = refl

front-step : {t u : Term} (c : ℕ) (T : Typ) → EtaStep t u → ¬ IsAbs t → IsBetaNormal t → front u ≡ Const c T → front t ≡ Const c T
front-step c T (contract e) n m f = absurd (n tt)
front-step c T (body s) n m f = absurd (n tt)
front-step c T (function s) n m f = front-step c T s m.0 m.1 f
front-step c T (argument s) n m f = f

head-step : {t u : Term} (c : ℕ) (T : Typ) → EtaStep t u → IsBetaNormal t → head u ≡ Const c T → head t ≡ Const c T
head-step c T (contract {f = f} {g = g} e) n h =
    let free : ¬ IsAbs f = no_abs-lift 1 0 f (subst (λ (t : Term). ¬ IsAbs t) e n.0) in
    let own : front f ≡ Const c T = ap front (sym (body-itself f free)) ∙ h in
    ap front e ∙ front-lift 1 0 f c T own
head-step c T (body s) n h = head-step c T s n h
head-step c T (function s) n h = front-step c T s n.0 n.1 h
head-step c T (argument s) n h = h

head-steps : {t u : Term} (c : ℕ) (T : Typ) → EtaReduces t u → IsBetaNormal t → head u ≡ Const c T → head t ≡ Const c T
head-steps c T done n h = h
head-steps c T (next {t = t} {u = u} s r) n h = head-step c T s n (head-steps c T r (steps_keep_beta_normal t u (next s done) n) h)

-- The long form of a normal term under a type map has the term's head, where this is a constant.
pub head-long : (map : Typ → Typ) (t u : Term) (c : ℕ) (T : Typ) → ComesTo (inst_typ map t) (Long u) → IsBetaNormal t → head t ≡ Const c T → head u ≡ Const c (typ_instance map T)
head-long map t u c T (is_long {n = n} b l w) normal e =
    let same : n ≡ inst_typ map t = normal-own (inst_typ map t) n b (normal-retyped map t normal) in
    let own : head n ≡ Const c (typ_instance map T) = ap head same ∙ constant-retyped map t c T e in
    head-steps c (typ_instance map T) l.reduces l.normal own

-- What makes two types equal does so.
equalised-equal : {A : Algebra} {index n m : ℕ} {p : TypPair} {more : List TypBind} → Equalises A index n p more m → typ_instance (composed more) p.left ≡ typ_instance (composed more) p.right
equalised-equal (Equalises.equal {p = p} e) = ap (typ_instance (composed [])) (no_difference p.left p.right e)
equalised-equal (Equalises.treat {p = p} {first = first} {more = more} place e t s) =
    instance-append first more p.left ∙ (equalised-equal s ∙ sym (instance-append first more p.right))

pub unified-equal : {A : Algebra} {index at n k : ℕ} {s : List TypBind} (T U : Typ) → Unifies A index at n [] (typs.pair T U ∷ []) (Unified s k) → typ_instance (composed s) T ≡ typ_instance (composed s) U
unified-equal T U (Unifies.next {more = more} e w Unifies.over) =
    ap (typ_instance (composed more)) (sym (typ_instance-identity T)) ∙ (equalised-equal e ∙ ap (typ_instance (composed more)) (typ_instance-identity U))
