-- How a closed long term is built: below the abstractions of its type, a head with as many arguments as the head's type takes.
use Rattle.std.proofs.Common.{◌≡◌, zero, suc, List, [], ◌∷◌, ◌++◌, ap, refl, subst, ◌∙◌, arith}
use Rattle.pure_text.specs.Lists.{EachTwo}
use Rattle.pure_text.proofs.ListLaws.{two-append}
use Rattle.pure_definitions.specs.Types.Typ.{Typ, Con, none, also, arrow}
use Rattle.pure_definitions.specs.Terms.Term.{Term, Const, Free, Var, Bound, Abs, App}
use Rattle.pure_definitions.specs.Terms.Typing.{HasType}
use Rattle.pure_definitions.specs.Reduction.Beta.{IsAbs, IsBetaNormal}
use Rattle.pure_definitions.specs.Reduction.Eta.{abstraction_count, arrow_count}
use Rattle.pure_term_laws.proofs.TypingLaws.{typed-once}
use Rattle.pure_eta.proofs.LongLaws.{IsLong}
use Rattle.pure_unify_definitions.specs.Fronts.{front, head, arguments, below, domains, range, function_typ, applied}
use Rattle.pure_unify_laws.proofs.SplitLaws.{under}
use Rattle.pure_unify_final.proofs.SideLaws.{opened, own-long}

-- The term is what stands below the abstractions of its type; that is no abstraction.
pub record IsBuilt (bs : List Typ) (t : Term) (T : Typ) : Type 0 where
  pub body : Term
  pub is : t ≡ below (domains T) body
  pub typed : HasType (under (domains T) bs) body (range T)
  pub normal : IsBetaNormal body
  pub bare : ¬ IsAbs body

uncounted : (t : Term) → abstraction_count t ≡ 0 → ¬ IsAbs t
uncounted (Abs T b) e is = absurd (omega arith)
uncounted (Const c T) e is = is
uncounted (Free x T) e is = is
uncounted (Var x i T) e is = is
uncounted (Bound p) e is = is
uncounted (App f a) e is = is

body-long : (bs : List Typ) (V A B : Typ) (b : Term) → IsLong bs (Abs V b) (Abs V b) (arrow A B) → (V ≡ A) × IsLong (A ∷ bs) b b B
body-long bs V A B b h =
    let arrows : arrow V h.typed.0 ≡ arrow A B = h.typed.2 in
    let domain : V ≡ A = cc in
    let range : h.typed.0 ≡ B = cc in
    let inner : h.parts.0.0 ≡ h.typed.0 = typed-once (V ∷ bs) b h.parts.0.0 h.typed.0 h.parts.0.1 h.typed.1 in
    let long = own-long (V ∷ bs) b h.parts.0.0 h.parts.0.1 h.normal h.parts.0.2 h.parts.1 in
    (domain, subst (λ X. IsLong (X ∷ bs) b b B) domain (subst (IsLong (V ∷ bs) b b) (inner ∙ range) long))

built-abstraction : (bs : List Typ) (t : Term) (V A B : Typ) (b : Term) → t ≡ Abs V b → V ≡ A → IsBuilt (A ∷ bs) b B → IsBuilt bs t (arrow A B)
built-abstraction bs t V A B b e f h =
    let binder : Abs V b ≡ Abs A (below (domains B) h.body) = λ l. Abs (f l) (h.is l) in
    record { body = h.body; is = e ∙ binder; typed = h.typed; normal = h.normal; bare = h.bare }

pub built : (T : Typ) (bs : List Typ) (t : Term) → IsLong bs t t T → IsBuilt bs t T
built (Con zero (also A (also B none))) bs t h =
    let counted : abstraction_count t ≡ suc (arrow_count B) = (let c = h.count in omega arith) in
    let whole = opened (arrow_count B) t counted in
    let inner = body-long bs whole.0 A B whole.1 (rw whole.2 at h) in
    built-abstraction bs t whole.0 A B whole.1 whole.2 inner.0 (built B (A ∷ bs) whole.1 inner.1)
built T bs t h = record { body = t; is = refl; typed = h.typed; normal = h.normal; bare = uncounted t h.count }

pub applied-append : (f : Term) (ts : List Term) (a : Term) → applied f (ts ++ a ∷ []) ≡ App (applied f ts) a
applied-append f [] a = refl
applied-append f (b ∷ ts) a = applied-append (App f b) ts a

-- A term is its head, applied to its arguments.
pub applied-spine : (t : Term) → applied (front t) (arguments t) ≡ t
applied-spine (App f a) = applied-append (front f) (arguments f) a ∙ ap (λ g. App g a) (applied-spine f)
applied-spine (Const c T) = refl
applied-spine (Free x T) = refl
applied-spine (Var x i T) = refl
applied-spine (Bound p) = refl
applied-spine (Abs T b) = refl

function-append : (Us : List Typ) (A R : Typ) → function_typ Us (arrow A R) ≡ function_typ (Us ++ A ∷ []) R
function-append [] A R = refl
function-append (U ∷ Us) A R = ap (arrow U) (function-append Us A R)

pub spine-typed : (bs : List Typ) (t : Term) (R : Typ) → HasType bs t R → (Us : List Typ) × HasType bs (front t) (function_typ Us R) × EachTwo (HasType bs) (arguments t) Us
spine-typed bs (App f a) R h =
    let rest = spine-typed bs f (arrow h.0 R) h.1 in
    (rest.0 ++ h.0 ∷ [], subst (HasType bs (front f)) (function-append rest.0 h.0 R) rest.1, two-append (HasType bs) (arguments f) (a ∷ []) rest.0 (h.0 ∷ []) rest.2 (h.2, tt))
spine-typed bs (Const c T) R h = ([], h, tt)
spine-typed bs (Free x T) R h = ([], h, tt)
spine-typed bs (Var x i T) R h = ([], h, tt)
spine-typed bs (Bound p) R h = ([], h, tt)
spine-typed bs (Abs T b) R h = ([], h, tt)

range-base : (T : Typ) → (domains (range T) ≡ []) × (range (range T) ≡ range T)
range-base (Con zero (also A (also B none))) = range-base B
range-base T = (refl, refl)

domains-function : (Us : List Typ) (R : Typ) → domains R ≡ [] → domains (function_typ Us R) ≡ Us
domains-function [] R e = e
domains-function (U ∷ Us) R e = ap (λ Vs. U ∷ Vs) (domains-function Us R e)

range-function : (Us : List Typ) (R : Typ) → range (function_typ Us R) ≡ range R
range-function [] R = refl
range-function (U ∷ Us) R = range-function Us R

-- the types that a head takes below a long term's abstractions, and the type in which its own ends
pub head-domains : (Us : List Typ) (T : Typ) → (domains (function_typ Us (range T)) ≡ Us) × (range (function_typ Us (range T)) ≡ range T)
head-domains Us T = (domains-function Us (range T) (range-base T).0, range-function Us (range T) ∙ (range-base T).1)

pub head-below : (Ts : List Typ) (t : Term) → ¬ IsAbs t → head (below Ts t) ≡ front t
head-below (T ∷ Ts) t n = head-below Ts t n
head-below [] (Const c T) n = refl
head-below [] (Free x T) n = refl
head-below [] (Var x i T) n = refl
head-below [] (Bound p) n = refl
head-below [] (Abs T b) n = absurd (n tt)
head-below [] (App f a) n = refl
