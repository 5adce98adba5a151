-- Instances of terms that are their own long forms: what stays, and what is found in the parts is found in the whole.
use Rattle.std.proofs.Common.{◌≡◌, ◌∙◌, ℕ, zero, suc, ◌+◌, ◌<◌, ◌≤◌, List, [], ◌∷◌, length, get_or, take, Bool, true, false, refl, ap, sym, subst, arith}
use Rattle.std.specs.Prelude.{if◌then◌else◌, Option, Some, None}
use Rattle.pure_text.specs.Lists.{Each}
use Rattle.pure_definitions.specs.Types.Typ.{Typ, Con, none, also}
use Rattle.pure_definitions.specs.Terms.Term.{Term, Const, Free, Var, Bound, Abs, App, term_eq, term_size, term_depth, max_size, max_depth}
use Rattle.pure_definitions.specs.Terms.Limits.{Leaves}
use Rattle.pure_definitions.specs.Terms.Subst.{TermBind, term_variable, term_image, inst_term}
use Rattle.pure_definitions.specs.Terms.Measures.{term_index_above}
use Rattle.pure_definitions.specs.Models.Equality.{term_eq-same}
use Rattle.pure_definitions.proofs.InstanceLemmas.{term_image-fixed}
use Rattle.pure_definitions.specs.Reduction.Beta.{IsAbs, max_steps}
use Rattle.pure_eta.specs.LongTerm.{range_typ, front_typ, expanded, expanded_at, long_term}
use Rattle.pure_norm.specs.declared.contract.Walk.{Walk}
use Rattle.pure_norm.specs.Walk.{Abstraction, Normal, CanWalk}
use Rattle.pure_norm.specs.Instances.{IsOwn, HasFixedFront, IsFound, IsFoundFront, IsInstanceLong}
use Rattle.pure_norm.proofs.WalkLemmas.{walked-nowhere}
use Rattle.pure_norm.proofs.DescendLemmas.{can_walk-body, walked-body}
use Rattle.pure_norm.proofs.TurnLemmas.{walked-on, can-function, can-argument, argument-walked}
use Rattle.pure_norm.proofs.AnswerLemmas.{beginning, walked-answer}

-- One entry more.
pub least_more : (bs : List TermBind) (i m n : ℕ) (b : TermBind) → i < length bs → b ≡ get_or bs i b → Each (λ d. m ≤ d.index) (take i bs) → n ≤ m → n ≤ b.index → Each (λ d. n ≤ d.index) (take (i + 1) bs)
least_more [] i m n b within e h low here = absurd (omega arith)
least_more (d ∷ bs) zero m n b within e h low here = (subst (λ (c : TermBind). n ≤ c.index) e here, tt)
least_more (d ∷ bs) (suc i) m n b within e h low here =
    let next : suc i + 1 ≡ suc (i + 1) = omega arith in
    let first : m ≤ d.index = h.0 in
    rw next (omega (arith, first), least_more bs i m n b (omega arith) e h.1 low here)

-- What the entries make of a variable whose index is below all of theirs.
abbrev index_of : Term → ℕ
index_of (Var x i T) = i
index_of _ = 0

passed : (b : TermBind) (bs : List TermBind) (v : Term) (test : Bool) → term_eq (term_variable b) v ≡ test → ¬ (term_variable b ≡ v) → (if test then b.image else term_image bs v) ≡ term_image bs v
passed b bs v true e n = absurd (n (term_eq-same (term_variable b) v e))
passed b bs v false e n = refl

above_other : (b : TermBind) (least x i : ℕ) (T : Typ) → least ≤ b.index → i < least → ¬ (term_variable b ≡ Var x i T)
above_other b least x i T h low e =
    let same : b.index ≡ i = ap index_of e in
    omega arith

variable_below : (bs : List TermBind) (least : ℕ) → Each (λ b. least ≤ b.index) bs → (x i : ℕ) (T : Typ) → i < least → term_image bs (Var x i T) ≡ Var x i T
variable_below [] least h x i T low = refl
variable_below (b ∷ bs) least h x i T low =
    passed b bs (Var x i T) (term_eq (term_variable b) (Var x i T)) refl (above_other b least x i T h.0 low) ∙ variable_below bs least h.1 x i T low

-- A term whose schematic variables all have lower indexes stays under the entries.
pub below_stays : (bs : List TermBind) (least : ℕ) → Each (λ b. least ≤ b.index) bs → (t : Term) → term_index_above t ≤ least → inst_term (term_image bs) t ≡ t
below_stays bs least h (Const c T) low = refl
below_stays bs least h (Free x T) low = term_image-fixed bs x T
below_stays bs least h (Var x i T) low = variable_below bs least h x i T (omega arith)
below_stays bs least h (Bound n) low = refl
below_stays bs least h (Abs T b) low = ap (Abs T) (below_stays bs least h b (omega arith))
below_stays bs least h (App f a) low = λ l. App (below_stays bs least h f (omega arith) l) (below_stays bs least h a (omega arith) l)

-- A fixed front is no abstraction.
pub fixed-other : (ds : List TermBind) (t : Term) → HasFixedFront ds t → ¬ IsAbs t
fixed-other ds (Const c T) h = λ x. x
fixed-other ds (Free x T) h = λ y. y
fixed-other ds (Var x i T) h = λ y. y
fixed-other ds (Bound p) h = λ x. x
fixed-other ds (Abs T b) h = λ x. h
fixed-other ds (App f a) h = λ x. x

pub fixed-fun : (ds : List TermBind) (t f a : Term) → t ≡ App f a → HasFixedFront ds t → HasFixedFront ds f
fixed-fun ds t f a e h = subst (HasFixedFront ds) e h

pub fixed-variable : (ds : List TermBind) (t : Term) (x i : ℕ) (T : Typ) → t ≡ Var x i T → HasFixedFront ds t → inst_term (term_image ds) t ≡ t
fixed-variable ds t x i T e h =
    let stays : term_image ds (Var x i T) ≡ Var x i T = subst (HasFixedFront ds) e h in
    subst (λ (u : Term). inst_term (term_image ds) u ≡ u) (sym e) stays

pub fixed-free : (ds : List TermBind) (t : Term) (x : ℕ) (T : Typ) → t ≡ Free x T → inst_term (term_image ds) t ≡ t
fixed-free ds t x T e = subst (λ (u : Term). inst_term (term_image ds) u ≡ u) (sym e) (term_image-fixed ds x T)

-- Where an application isn't applied and is long, nothing is expanded at its type.
unexpanded : (o : Option Typ) (v f a : Term) → expanded_at false o v ≡ App f a → (u : Term) → expanded_at false o u ≡ u
unexpanded None v f a e u = refl
unexpanded (Some T) v f a e u = by T e
  where
    by : (T : Typ) → expanded T v ≡ App f a → expanded T u ≡ u
    by (Con zero (also A (also B none))) e = absurd (cc)
    by T e = refl

application-unexpanded : (bs : List Typ) (f a : Term) → IsOwn false bs (App f a) → (u : Term) → expanded_at false (front_typ bs (App f a)) u ≡ u
application-unexpanded bs f a h u = unexpanded (front_typ bs (App f a)) (App (long_term true bs f) (long_term false bs a)) f a h.long u

pub own-applied : (bs : List Typ) (f a : Term) → IsOwn false bs (App f a) → IsOwn true bs (App f a)
own-applied bs f a h = record {
  normal = h.normal;
  long = sym (application-unexpanded bs f a h (App (long_term true bs f) (long_term false bs a))) ∙ h.long;
}

abbrev function_of : Term → Term
function_of (App f a) = f
function_of t = t

abbrev argument_of : Term → Term
argument_of (App f a) = a
argument_of t = t

abbrev body_of : Term → Term
body_of (Abs T b) = b
body_of t = t

pub own-function : (bs : List Typ) (t f a : Term) → t ≡ App f a → IsOwn true bs t → IsOwn true bs f
own-function bs t f a e h =
    let own : IsOwn true bs (App f a) = subst (IsOwn true bs) e h in
    record { normal = own.normal.1; long = ap function_of own.long }

pub own-argument : (bs : List Typ) (t f a : Term) → t ≡ App f a → IsOwn true bs t → IsOwn false bs a
own-argument bs t f a e h =
    let own : IsOwn true bs (App f a) = subst (IsOwn true bs) e h in
    record { normal = own.normal.2; long = ap argument_of own.long }

pub own-body : (bs : List Typ) (t b : Term) (T : Typ) → t ≡ Abs T b → IsOwn false bs t → IsOwn false (T ∷ bs) b
own-body bs t b T e h =
    let own : IsOwn false bs (Abs T b) = subst (IsOwn false bs) e h in
    record { normal = own.normal; long = ap body_of own.long }

-- What is found where nothing changes.
pub found-itself : (ds : List TermBind) (bs : List Typ) (deep : ℕ) (walk : Walk) (t l : Term) → l ≡ t → inst_term (term_image ds) t ≡ t → IsOwn false bs t → CanWalk deep walk (inst_term (term_image ds) t) → IsFound ds bs deep walk walk t l
found-itself ds bs deep walk t l e stays own can = record {
  normal = t;
  walked = rw stays (walked-nowhere Normal deep walk t (rw stays at can));
  over = own.normal;
  long = e ∙ sym own.long;
}

pub front-itself : (ds : List TermBind) (bs : List Typ) (deep : ℕ) (walk : Walk) (t l : Term) → l ≡ t → inst_term (term_image ds) t ≡ t → ¬ IsAbs t → IsOwn true bs t → CanWalk deep walk (inst_term (term_image ds) t) → IsFoundFront ds bs deep walk walk t l
front-itself ds bs deep walk t l e stays other own can = record {
  normal = t;
  walked = rw stays (walked-nowhere Abstraction deep walk t (rw stays at can));
  other = other;
  over = own.normal;
  typ = refl;
  long = e ∙ sym own.long;
}

-- What is found in the body of an abstraction.
pub can-body-instance : (ds : List TermBind) (deep : ℕ) (walk : Walk) (t b : Term) (T : Typ) → t ≡ Abs T b → CanWalk deep walk (inst_term (term_image ds) t) → CanWalk (deep + 1) walk (inst_term (term_image ds) b)
can-body-instance ds deep walk t b T e can = can_walk-body deep walk (inst_term (term_image ds) t) (inst_term (term_image ds) b) T (ap (inst_term (term_image ds)) e) can

pub found-abstraction : (ds : List TermBind) (bs : List Typ) (deep : ℕ) (before now : Walk) (t b l c : Term) (T : Typ) → t ≡ Abs T b → CanWalk deep before (inst_term (term_image ds) t)
    → IsFound ds (T ∷ bs) (deep + 1) before now b c → l ≡ Abs T c → IsFound ds bs deep before now t l
found-abstraction ds bs deep before now t b l c T e can h same = record {
  normal = Abs T h.normal;
  walked = walked-body Normal deep before now (inst_term (term_image ds) t) (inst_term (term_image ds) b) h.normal T refl (ap (inst_term (term_image ds)) e) can h.walked;
  over = h.over;
  long = same ∙ ap (Abs T) h.long;
}

-- What is found in the function of an application, and in its argument.
module _ (ds : List TermBind) (bs : List Typ) (deep : ℕ) (before : Walk) (t f a : Term) (is : t ≡ App f a) (can : CanWalk deep before (inst_term (term_image ds) t)) where
  can-whole : CanWalk deep before (App (inst_term (term_image ds) f) (inst_term (term_image ds) a))
  can-whole = subst (λ (u : Term). CanWalk deep before (inst_term (term_image ds) u)) is can

  pub can-function-instance : CanWalk (deep + 1) before (inst_term (term_image ds) f)
  can-function-instance = can-function deep before (inst_term (term_image ds) f) (inst_term (term_image ds) a) can-whole

  module _ (middle : Walk) (g : Term) (front : IsFoundFront ds bs (deep + 1) before middle f g) where
    pub can-argument-instance : CanWalk (deep + 1) middle (inst_term (term_image ds) a)
    can-argument-instance = can-argument deep before (inst_term (term_image ds) f) (inst_term (term_image ds) a) can-whole middle front.normal front.walked front.other front.over

    found-application : (now : Walk) (b : Term) → IsFound ds bs (deep + 1) middle now a b → IsFoundFront ds bs deep before now (App f a) (App g b)
    found-application now b h = record {
      normal = App front.normal h.normal;
      walked = argument-walked deep before (inst_term (term_image ds) f) (inst_term (term_image ds) a) can-whole middle front.normal front.walked front.other front.over now h.normal h.walked;
      other = λ x. x;
      over = (front.other, front.over, h.over);
      typ = ap range_typ front.typ;
      long = λ i. App (front.long i) (h.long i);
    }

    pub found-front : (now : Walk) (b l : Term) → IsFound ds bs (deep + 1) middle now a b → l ≡ App g b → IsFoundFront ds bs deep before now t l
    found-front now b l h e =
        subst (λ (u : Term). IsFoundFront ds bs deep before now u l) (sym is) (subst (λ (u : Term). IsFoundFront ds bs deep before now (App f a) u) (sym e) (found-application now b h))

-- What isn't applied is expanded at the type of its front.
expanded-front : (bs : List Typ) (n : Term) → ¬ IsAbs n → long_term false bs n ≡ expanded_at false (front_typ bs n) (long_term true bs n)
expanded-front bs (Const c T) h = refl
expanded-front bs (Free x T) h = refl
expanded-front bs (Var x i T) h = refl
expanded-front bs (Bound p) h = refl
expanded-front bs (Abs T b) h = absurd (h tt)
expanded-front bs (App f a) h = refl

application-found : (ds : List TermBind) (bs : List Typ) (deep : ℕ) (before now : Walk) (f a l : Term) → IsOwn false bs (App f a) → IsFoundFront ds bs deep before now (App f a) l → IsFound ds bs deep before now (App f a) l
application-found ds bs deep before now f a l own h = record {
  normal = h.normal;
  walked = walked-on deep before now (inst_term (term_image ds) (App f a)) h.normal h.walked;
  over = h.over;
  long = h.long ∙ sym (expanded-front bs h.normal h.other ∙ (ap (λ (o : Option Typ). expanded_at false o (long_term true bs h.normal)) h.typ ∙ application-unexpanded bs f a own (long_term true bs h.normal)));
}

pub found-of_front : (ds : List TermBind) (bs : List Typ) (deep : ℕ) (before now : Walk) (t f a l : Term) → t ≡ App f a → IsOwn false bs t → IsFoundFront ds bs deep before now t l → IsFound ds bs deep before now t l
found-of_front ds bs deep before now t f a l e own h =
    subst (λ (u : Term). IsFound ds bs deep before now u l) (sym e)
    (application-found ds bs deep before now f a l (subst (IsOwn false bs) e own) (subst (λ (u : Term). IsFoundFront ds bs deep before now u l) e h))

pub own-front : (bs : List Typ) (t f a : Term) → t ≡ App f a → IsOwn false bs t → IsOwn true bs t
own-front bs t f a e own = subst (IsOwn true bs) (sym e) (own-applied bs f a (subst (IsOwn false bs) e own))

-- What is found in the whole is the answer for it.
pub whole-found : (ds : List TermBind) (room : ℕ) (now : Walk) (t u l w : Term) → Leaves max_size max_depth (term_size (inst_term (term_image ds) t)) (term_depth (inst_term (term_image ds) t)) (Some room) → u ≡ t
    → IsFound ds [] 0 (record { steps = max_steps; room = room }) now u l → w ≡ l → IsInstanceLong ds t w
whole-found ds room now t u l w within e h f =
    let found : IsFound ds [] 0 (record { steps = max_steps; room = room }) now t l = subst (λ (v : Term). IsFound ds [] 0 (record { steps = max_steps; room = room }) now v l) e h in
    record {
      normal = found.normal;
      answer = walked-answer (record { steps = max_steps; room = room }) now (inst_term (term_image ds) t) found.normal (beginning room (inst_term (term_image ds) t) within) found.walked found.over;
      long = f ∙ found.long;
    }
