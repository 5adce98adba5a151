-- The head of a variable's image, where it is no bound variable, is that of each instance of a side with the variable for its head.
use Rattle.std.proofs.Common.{◌≡◌, ℕ, ◌+◌, ap, refl, sym, subst, ◌∙◌}
use Rattle.pure_definitions.specs.Types.Typ.{Typ}
use Rattle.pure_definitions.specs.Terms.Term.{Term, Const, Free, Var, Bound, Abs, App}
use Rattle.pure_definitions.specs.Terms.Bounds.{lift_term, subst_under}
use Rattle.pure_definitions.specs.Terms.Subst.{inst_term}
use Rattle.pure_definitions.specs.Reduction.Eta.{EtaStep, EtaReduces}
use Rattle.pure_definitions.proofs.LiftLaws.{lift_term-bound}
use Rattle.pure_reduction.specs.Steps.{BetaStep, BetaReduces}
use Rattle.pure_reduction.specs.LongForms.{HaveOneLongForm}
use Rattle.pure_reduction.proofs.StepLaws.{reduces-then, reduces-body, reduces-application, normal-stays}
use Rattle.pure_reduction.proofs.ParallelLaws.{beta_steps_are_confluent}
use Rattle.pure_unify_definitions.specs.Fronts.{front, head}
use Rattle.pure_solutions.specs.Solutions.{IsTermSubstitution}
use Rattle.pure_solutions.proofs.EndLaws.{long_forms_are_ends}
use Rattle.pure_solutions.proofs.SolutionLaws.{fixed-stays}
use Rattle.pure_unify_final.proofs.SideLaws.{IsRigidHead}

-- A constant or a variable that isn't bound.
abbrev pub IsSolid : Term → Type 0
IsSolid (Const c T) = Unit {0}
IsSolid (Free x T) = Unit {0}
IsSolid (Var x i T) = Unit {0}
IsSolid _ = ⊥

-- what is kept of a head, if it is no abstraction: all but which bound variable it is
abbrev pub tag : Term → Term
tag (Bound p) = Bound 0
tag t = t

abbrev pub IsTag : Term → Type 0
IsTag (Abs T b) = ⊥
IsTag (App f a) = ⊥
IsTag _ = Unit {0}

no_abstraction : {A : Type 0} (k : Term) (T : Typ) (b : Term) → IsTag k → Abs T b ≡ k → A
no_abstraction (Const c U) T b n e = absurd (cc)
no_abstraction (Free x U) T b n e = absurd (cc)
no_abstraction (Var x i U) T b n e = absurd (cc)
no_abstraction (Bound p) T b n e = absurd (cc)
no_abstraction (Abs U c) T b n e = absurd n
no_abstraction (App f a) T b n e = absurd n

front-tag : {t u : Term} (k : Term) → IsTag k → BetaStep t u → tag (front t) ≡ k → tag (front u) ≡ k
front-tag k n (BetaStep.contract {T = T} {b = b} s) e = no_abstraction k T b n e
front-tag k n (BetaStep.body {T = T} {b = b} s) e = no_abstraction k T b n e
front-tag k n (BetaStep.function s) e = front-tag k n s e
front-tag k n (BetaStep.argument s) e = e

head-step : {t u : Term} (k : Term) → IsTag k → BetaStep t u → tag (head t) ≡ k → tag (head u) ≡ k
head-step k n (BetaStep.contract {T = T} {b = b} s) e = no_abstraction k T b n e
head-step k n (BetaStep.body s) e = head-step k n s e
head-step k n (BetaStep.function s) e = front-tag k n s e
head-step k n (BetaStep.argument s) e = e

head-steps : {t u : Term} (k : Term) → IsTag k → BetaReduces t u → tag (head t) ≡ k → tag (head u) ≡ k
head-steps k n BetaReduces.done e = e
head-steps k n (BetaReduces.next s r) e = head-steps k n r (head-step k n s e)

front-unlift : (k : Term) → IsTag k → (by from : ℕ) (t : Term) → tag (front (lift_term by from t)) ≡ k → tag (front t) ≡ k
front-unlift k n by from (Const c T) e = e
front-unlift k n by from (Free x T) e = e
front-unlift k n by from (Var x i T) e = e
front-unlift k n by from (Bound p) e = rw (lift_term-bound by from p) at e
front-unlift k n by from (Abs T b) e = no_abstraction k T (lift_term by (from + 1) b) n e
front-unlift k n by from (App f a) e = front-unlift k n by from f e

-- Where the front is no abstraction, it is the head.
front-head : (k : Term) → IsTag k → (t : Term) → tag (front t) ≡ k → tag (head t) ≡ k
front-head k n (Const c T) e = e
front-head k n (Free x T) e = e
front-head k n (Var x i T) e = e
front-head k n (Bound p) e = e
front-head k n (Abs T b) e = no_abstraction k T b n e
front-head k n (App f a) e = e

front-eta : {t u : Term} (k : Term) → IsTag k → EtaStep t u → tag (front t) ≡ k → tag (front u) ≡ k
front-eta k n (EtaStep.contract {T = T} {g = g} s) e = no_abstraction k T (App g (Bound 0)) n e
front-eta k n (EtaStep.body {T = T} {b = b} s) e = no_abstraction k T b n e
front-eta k n (EtaStep.function s) e = front-eta k n s e
front-eta k n (EtaStep.argument s) e = e

head-eta : {t u : Term} (k : Term) → IsTag k → EtaStep t u → tag (head t) ≡ k → tag (head u) ≡ k
head-eta k n (EtaStep.contract {f = f} {g = g} s) e = front-head k n f (front-unlift k n 1 0 f (subst (λ x. tag (front x) ≡ k) s e))
head-eta k n (EtaStep.body s) e = head-eta k n s e
head-eta k n (EtaStep.function s) e = front-eta k n s e
head-eta k n (EtaStep.argument s) e = e

head-etas : {t u : Term} (k : Term) → IsTag k → EtaReduces t u → tag (head t) ≡ k → tag (head u) ≡ k
head-etas k n EtaReduces.done e = e
head-etas k n (EtaReduces.next s r) e = head-etas k n r (head-eta k n s e)

-- Such a head stays where a term is put for a bound variable.
pub solid-tag : (k : Term) → IsSolid k → IsTag k
solid-tag (Const c T) n = tt
solid-tag (Free x T) n = tt
solid-tag (Var x i T) n = tt
solid-tag (Bound p) n = absurd n
solid-tag (Abs T b) n = absurd n
solid-tag (App f a) n = absurd n

solid-own : (k t : Term) → IsSolid k → t ≡ k → tag t ≡ k
solid-own (Const c T) t n e = ap tag e
solid-own (Free x T) t n e = ap tag e
solid-own (Var x i T) t n e = ap tag e
solid-own (Bound p) t n e = absurd n
solid-own (Abs T b) t n e = absurd n
solid-own (App f a) t n e = absurd n

front-put : (k : Term) → IsSolid k → (m : ℕ) (a t : Term) → front t ≡ k → front (subst_under m a t) ≡ k
front-put k n m a (Const c T) e = e
front-put k n m a (Free x T) e = e
front-put k n m a (Var x i T) e = e
front-put k n m a (Bound p) e = absurd (subst IsSolid (sym e) n)
front-put k n m a (Abs T b) e = absurd (subst IsSolid (sym e) n)
front-put k n m a (App f b) e = front-put k n m a f e

head-put : (k : Term) → IsSolid k → (m : ℕ) (a t : Term) → head t ≡ k → head (subst_under m a t) ≡ k
head-put k n m a (Const c T) e = e
head-put k n m a (Free x T) e = e
head-put k n m a (Var x i T) e = e
head-put k n m a (Bound p) e = absurd (subst IsSolid (sym e) n)
head-put k n m a (Abs T b) e = head-put k n (m + 1) a b e
head-put k n m a (App f b) e = front-put k n m a f e

applied-head : (k : Term) → IsSolid k → (t a : Term) → head t ≡ k → (u : Term) × BetaReduces (App t a) u × (head u ≡ k)
applied-head k n (Abs T b) a e = (subst_under 0 a b, BetaReduces.next {u = subst_under 0 a b} (BetaStep.contract refl) BetaReduces.done, head-put k n 0 a b e)
applied-head k n (Const c T) a e = (App (Const c T) a, BetaReduces.done, e)
applied-head k n (Free x T) a e = (App (Free x T) a, BetaReduces.done, e)
applied-head k n (Var x i T) a e = (App (Var x i T) a, BetaReduces.done, e)
applied-head k n (Bound p) a e = (App (Bound p) a, BetaReduces.done, e)
applied-head k n (App f b) a e = (App (App f b) a, BetaReduces.done, e)

module _ (terms : Term → Term) (s : IsTermSubstitution terms) where
  front-instance : (t : Term) → IsRigidHead (front t) → front (inst_term terms t) ≡ front t
  front-instance (Const c T) n = refl
  front-instance (Free x T) n = ap front (fixed-stays terms s x T)
  front-instance (Var x i T) n = absurd n
  front-instance (Bound p) n = refl
  front-instance (Abs T b) n = absurd n
  front-instance (App f a) n = front-instance f n

  rigid-instance : (t : Term) → IsRigidHead (head t) → head (inst_term terms t) ≡ head t
  rigid-instance (Const c T) n = refl
  rigid-instance (Free x T) n = ap head (fixed-stays terms s x T)
  rigid-instance (Var x i T) n = absurd n
  rigid-instance (Bound p) n = refl
  rigid-instance (Abs T b) n = rigid-instance b n
  rigid-instance (App f a) n = front-instance f n

  module _ (x i : ℕ) (T : Typ) (k : Term) (solid : IsSolid k) (image : head (terms (Var x i T)) ≡ k) where
    abbrev ComesToHead : Term → Type 0
    ComesToHead t = (u : Term) × BetaReduces (inst_term terms t) u × (head u ≡ k)

    front-comes : (t : Term) → front t ≡ Var x i T → ComesToHead t
    front-comes (App f a) e =
        let function = front-comes f e in
        let whole = applied-head k solid function.0 (inst_term terms a) function.2 in
        (whole.0, reduces-then (reduces-application function.1 BetaReduces.done) whole.1, whole.2)
    front-comes (Var y j U) e = (terms (Var y j U), BetaReduces.done, ap (λ v. head (terms v)) e ∙ image)
    front-comes (Const c U) e = absurd (cc)
    front-comes (Free y U) e = absurd (cc)
    front-comes (Bound p) e = absurd (cc)
    front-comes (Abs U b) e = absurd (cc)

    head-comes : (t : Term) → head t ≡ Var x i T → ComesToHead t
    head-comes (Abs U b) e = let body = head-comes b e in (Abs U body.0, reduces-body U body.1, body.2)
    head-comes (App f a) e = front-comes (App f a) e
    head-comes (Var y j U) e = front-comes (Var y j U) e
    head-comes (Const c U) e = absurd (cc)
    head-comes (Free y U) e = absurd (cc)
    head-comes (Bound p) e = absurd (cc)

    rigid-tag : (h : Term) → IsRigidHead h → IsTag (tag h)
    rigid-tag (Const c U) n = tt
    rigid-tag (Free y U) n = tt
    rigid-tag (Bound p) n = tt
    rigid-tag (Var y j U) n = absurd n
    rigid-tag (Abs U b) n = absurd n
    rigid-tag (App f a) n = absurd n

    -- The other side, if it is rigid, has that head.
    pub image-head : (l r : Term) → head l ≡ Var x i T → IsRigidHead (head r) → HaveOneLongForm (inst_term terms l) (inst_term terms r) → tag (head r) ≡ k
    image-head l r e n same =
        let h = long_forms_are_ends (inst_term terms l) (inst_term terms r) same in
        let comes = head-comes l e in
        let joined = beta_steps_are_confluent (inst_term terms l) comes.0 h.left comes.1 h.from_left in
        let normal : h.left ≡ joined.0 = normal-stays joined.2 h.left_normal in
        let tagged = solid-tag k solid in
        let left : tag (head h.left) ≡ k = subst (λ t. tag (head t) ≡ k) (sym normal) (head-steps k tagged joined.1 (solid-own k (head comes.0) solid comes.2)) in
        let right : tag (head h.right) ≡ tag (head r) = head-steps (tag (head r)) (rigid-tag (head r) n) h.from_right (ap tag (rigid-instance r n)) in
        sym (head-etas (tag (head r)) (rigid-tag (head r) n) h.to_right right) ∙ head-etas k tagged h.to_left left
