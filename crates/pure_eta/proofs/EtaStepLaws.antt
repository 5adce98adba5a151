-- Eta steps inside a term and under lifting, and the terms that have none.
use Rattle.std.proofs.Common.{◌≡◌, ℕ, ◌+◌, true, false, Bool, ap, refl, sym, ◌∙◌, arith, nat_lt}
use Rattle.std.proofs.lemmas.Bool.{lt-ltb}
use Rattle.pure_definitions.specs.Types.Typ.{Typ}
use Rattle.pure_definitions.specs.Terms.Term.{Term, Const, Free, Var, Bound, Abs, App}
use Rattle.pure_definitions.specs.Terms.Bounds.{lift_term}
use Rattle.pure_definitions.specs.Reduction.Eta.{EtaStep, EtaReduces, IsEtaNormal}
use Rattle.pure_definitions.proofs.LiftLaws.{lift-lift}
use Rattle.pure_eta.specs.EtaForm.{is_loose, lower_term}
use Rattle.pure_eta.proofs.LooseLaws.{lift-lower, loose-lifted}

pub reduces-then : {t u v : Term} → EtaReduces t u → EtaReduces u v → EtaReduces t v
reduces-then EtaReduces.done k = k
reduces-then (EtaReduces.next s h) k = EtaReduces.next s (reduces-then h k)

pub reduces-body : (T : Typ) {b c : Term} → EtaReduces b c → EtaReduces (Abs T b) (Abs T c)
reduces-body T EtaReduces.done = EtaReduces.done
reduces-body T (EtaReduces.next s h) = EtaReduces.next (EtaStep.body s) (reduces-body T h)

reduces-function : (a : Term) {f g : Term} → EtaReduces f g → EtaReduces (App f a) (App g a)
reduces-function a EtaReduces.done = EtaReduces.done
reduces-function a (EtaReduces.next s h) = EtaReduces.next (EtaStep.function s) (reduces-function a h)

reduces-argument : (f : Term) {a b : Term} → EtaReduces a b → EtaReduces (App f a) (App f b)
reduces-argument f EtaReduces.done = EtaReduces.done
reduces-argument f (EtaReduces.next s h) = EtaReduces.next (EtaStep.argument s) (reduces-argument f h)

pub reduces-application : (f g a b : Term) → EtaReduces f g → EtaReduces a b → EtaReduces (App f a) (App g b)
reduces-application f g a b h k = reduces-then (reduces-function a h) (reduces-argument g k)

-- A lifted term has the term's steps.
pub step-lift : (by from : ℕ) {t u : Term} → EtaStep t u → EtaStep (lift_term by from t) (lift_term by from u)
step-lift by from (EtaStep.contract {T = T} {f = f} {g = g} e) =
    let own : nat_lt 0 (from + 1) ≡ true = lt-ltb 0 (from + 1) (omega arith) in
    rw own (EtaStep.contract (ap (lift_term by (from + 1)) e ∙ sym (lift-lift by 1 0 from f (omega arith))))
step-lift by from (EtaStep.body s) = EtaStep.body (step-lift by (from + 1) s)
step-lift by from (EtaStep.function s) = EtaStep.function (step-lift by from s)
step-lift by from (EtaStep.argument s) = EtaStep.argument (step-lift by from s)

pub constant-normal : (c : ℕ) (T : Typ) → IsEtaNormal (Const c T)
constant-normal c T u h = elim h [ ]

pub fixed-normal : (x : ℕ) (T : Typ) → IsEtaNormal (Free x T)
fixed-normal x T u h = elim h [ ]

pub schematic-normal : (x i : ℕ) (T : Typ) → IsEtaNormal (Var x i T)
schematic-normal x i T u h = elim h [ ]

pub bound-normal : (p : ℕ) → IsEtaNormal (Bound p)
bound-normal p u h = elim h [ ]

pub application-normal : (f a : Term) → IsEtaNormal f → IsEtaNormal a → IsEtaNormal (App f a)
application-normal f a n m u (EtaStep.function s) = n _ s
application-normal f a n m u (EtaStep.argument s) = m _ s

pub function-normal : (f a : Term) → IsEtaNormal (App f a) → IsEtaNormal f
function-normal f a n u s = n (App u a) (EtaStep.function s)

pub argument-normal : (f a : Term) → IsEtaNormal (App f a) → IsEtaNormal a
argument-normal f a n u s = n (App f u) (EtaStep.argument s)

pub body-normal : (T : Typ) (b : Term) → IsEtaNormal (Abs T b) → IsEtaNormal b
body-normal T b n u s = n (Abs T u) (EtaStep.body s)

-- Where the body is applied to the abstraction's own variable, that variable is loose in the function too.
abbrev pub IsUncontracted : Term → Type 0
IsUncontracted b = (g : Term) → b ≡ App g (Bound 0) → is_loose 0 g ≡ true

pub abstraction-normal : (T : Typ) (b : Term) → IsEtaNormal b → IsUncontracted b → IsEtaNormal (Abs T b)
abstraction-normal T b n o u (EtaStep.contract {f = f} {g = g} e) =
    let loose = o g refl in
    let not_loose : is_loose 0 g ≡ false = ap (is_loose 0) e ∙ loose-lifted 0 f in
    absurd (cc)
abstraction-normal T b n o u (EtaStep.body s) = n _ s

contraction : (T : Typ) (g : Term) → is_loose 0 g ≡ false → EtaStep (Abs T (App g (Bound 0))) (lower_term 0 g)
contraction T g e = EtaStep.contract (sym (lift-lower 0 g e))

pub uncontracted : (T : Typ) (b : Term) → IsEtaNormal (Abs T b) → IsUncontracted b
uncontracted T b n g e = by (is_loose 0 g) refl
  where
    by : (l : Bool) → is_loose 0 g ≡ l → l ≡ true
    by true h = refl
    by false h = absurd (n (lower_term 0 g) (rw e (contraction T g h)))
