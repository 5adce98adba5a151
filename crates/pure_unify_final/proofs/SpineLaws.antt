-- Rigid sides whose instances have one long form have one head, and so for their arguments.
use Rattle.std.proofs.Common.{◌≡◌, ℕ, zero, suc, List, [], ◌∷◌, ap, refl, sym, subst, ◌∙◌, arith}
use Rattle.pure_text.specs.Lists.{Each, EachTwo}
use Rattle.pure_text.proofs.ListLaws.{two-append}
use Rattle.pure_definitions.specs.Types.Typ.{Typ}
use Rattle.pure_definitions.specs.Terms.Term.{Term, Const, Free, Var, Bound, Abs, App}
use Rattle.pure_definitions.specs.Terms.Subst.{inst_term}
use Rattle.pure_definitions.specs.Reduction.Eta.{EtaStep, EtaReduces, abstraction_count, arrow_count}
use Rattle.pure_eta.proofs.LongLaws.{IsLong}
use Rattle.pure_logic.specs.Derivable.{Pair}
use Rattle.pure_reduction.specs.Steps.{BetaStep, BetaReduces}
use Rattle.pure_unify_definitions.specs.Fronts.{term_body, front, arguments, head, below, domains, pair, pairs_below, argument_pairs}
use Rattle.pure_solutions.specs.Solutions.{IsTermSubstitution, SolvesPair, SolvesPairs}
use Rattle.pure_solutions.specs.Ends.{HaveOneEnd, IsStuck}
use Rattle.pure_solutions.proofs.EndLaws.{long_forms_are_ends, ends_are_long_forms, ends_of_bodies, ends_of_abstractions, ends_of_applications, beta-parts, eta-parts}
use Rattle.pure_solutions.proofs.SolutionLaws.{fixed-stays, instance-typed}
use Rattle.pure_unify_final.proofs.SideLaws.{opened, IsLongPair, argument_pairs-long, abstractions-domains, IsRigidHead}

-- A term without parts stays as it is.
abbrev IsLeaf : Term → Type 0
IsLeaf (Abs T b) = ⊥
IsLeaf (App f a) = ⊥
IsLeaf _ = Unit {0}

beta-leaf : {t u : Term} → IsLeaf t → BetaReduces t u → t ≡ u
beta-leaf n BetaReduces.done = refl
beta-leaf n (BetaReduces.next (BetaStep.contract e) r) = absurd n
beta-leaf n (BetaReduces.next (BetaStep.body s) r) = absurd n
beta-leaf n (BetaReduces.next (BetaStep.function s) r) = absurd n
beta-leaf n (BetaReduces.next (BetaStep.argument s) r) = absurd n

eta-leaf : {t u : Term} → IsLeaf t → EtaReduces t u → t ≡ u
eta-leaf n EtaReduces.done = refl
eta-leaf n (EtaReduces.next (EtaStep.contract e) r) = absurd n
eta-leaf n (EtaReduces.next (EtaStep.body s) r) = absurd n
eta-leaf n (EtaReduces.next (EtaStep.function s) r) = absurd n
eta-leaf n (EtaReduces.next (EtaStep.argument s) r) = absurd n

abbrev ends-swap : {t u : Term} → HaveOneEnd t u → HaveOneEnd u t
ends-swap h = record { left = h.right; right = h.left; end = h.end; from_left = h.from_right; from_right = h.from_left; left_normal = h.right_normal; right_normal = h.left_normal; to_left = h.to_right; to_right = h.to_left }

leaf-end : (t u : Term) → IsLeaf t → (h : HaveOneEnd t u) → t ≡ h.end
leaf-end t u n h = let same : t ≡ h.left = beta-leaf n h.from_left in same ∙ eta-leaf (subst IsLeaf same n) h.to_left

leaves-same : (t u : Term) → IsLeaf t → IsLeaf u → HaveOneEnd t u → t ≡ u
leaves-same t u n m h = leaf-end t u n h ∙ sym (leaf-end u t m (ends-swap h))

-- A term without parts and an application have no end in common.
leaf-apart : (t f a : Term) → IsLeaf t → IsStuck f → HaveOneEnd t (App f a) → ⊥
leaf-apart t f a n m h =
    let l = beta-parts m h.from_right in
    let r = eta-parts (subst (λ x. EtaReduces x h.end) l.2 h.to_right) in
    subst IsLeaf (leaf-end t (App f a) n h ∙ r.2) n

module _ (terms : Term → Term) (s : IsTermSubstitution terms) where
  abbrev HaveOneEndUnder : Term → Term → Type 0
  HaveOneEndUnder t u = HaveOneEnd (inst_term terms t) (inst_term terms u)

  rigid-stuck : (t : Term) → IsRigidHead (front t) → IsStuck (inst_term terms t)
  rigid-stuck (Const c T) n = tt
  rigid-stuck (Free x T) n = rw (fixed-stays terms s x T) tt
  rigid-stuck (Var x i T) n = absurd n
  rigid-stuck (Bound p) n = tt
  rigid-stuck (Abs T b) n = absurd n
  rigid-stuck (App f a) n = rigid-stuck f n

  abbrev AreSpinesAlike : Term → Term → Type 0
  AreSpinesAlike t u = (front t ≡ front u) × EachTwo HaveOneEndUnder (arguments t) (arguments u)

  -- a constant, a fixed or a bound variable, and another side
  leaf-spine : (t u : Term) → IsLeaf t → inst_term terms t ≡ t → front t ≡ t → arguments t ≡ [] → IsRigidHead (front u) → HaveOneEndUnder t u → AreSpinesAlike t u
  leaf-spine t (Const c T) n e f g m h = let same = leaves-same t (Const c T) n tt (subst (λ x. HaveOneEnd x (Const c T)) e h) in (f ∙ same, rw g tt)
  leaf-spine t (Free x T) n e f g m h =
      let both : HaveOneEnd t (Free x T) = rw (← fixed-stays terms s x T) (subst (λ y. HaveOneEnd y (terms (Free x T))) e h) in
      let same = leaves-same t (Free x T) n tt both in (f ∙ same, rw g tt)
  leaf-spine t (Bound p) n e f g m h = let same = leaves-same t (Bound p) n tt (subst (λ x. HaveOneEnd x (Bound p)) e h) in (f ∙ same, rw g tt)
  leaf-spine t (App k a) n e f g m h = absurd (leaf-apart t (inst_term terms k) (inst_term terms a) n (rigid-stuck k m) (subst (λ x. HaveOneEnd x (inst_term terms (App k a))) e h))
  leaf-spine t (Var x i T) n e f g m h = absurd m
  leaf-spine t (Abs T b) n e f g m h = absurd m

  application-apart : (f a u : Term) → IsRigidHead (front f) → IsLeaf u → inst_term terms u ≡ u → HaveOneEndUnder (App f a) u → ⊥
  application-apart f a u n m e h = leaf-apart u (inst_term terms f) (inst_term terms a) m (rigid-stuck f n) (ends-swap (subst (HaveOneEnd (inst_term terms (App f a))) e h))

  rigid-spines : (t u : Term) → IsRigidHead (front t) → IsRigidHead (front u) → HaveOneEndUnder t u → AreSpinesAlike t u
  rigid-spines (App f a) (App g b) n m h =
      let parts = ends_of_applications (inst_term terms f) (inst_term terms g) (inst_term terms a) (inst_term terms b) (rigid-stuck f n) (rigid-stuck g m) h in
      let rest = rigid-spines f g n m parts.0 in
      (rest.0, two-append HaveOneEndUnder (arguments f) (a ∷ []) (arguments g) (b ∷ []) rest.1 (parts.1, tt))
  rigid-spines (App f a) (Const c T) n m h = absurd (application-apart f a (Const c T) n tt refl h)
  rigid-spines (App f a) (Free x T) n m h = absurd (application-apart f a (Free x T) n tt (fixed-stays terms s x T) h)
  rigid-spines (App f a) (Bound p) n m h = absurd (application-apart f a (Bound p) n tt refl h)
  rigid-spines (App f a) (Var x i T) n m h = absurd m
  rigid-spines (App f a) (Abs T b) n m h = absurd m
  rigid-spines (Const c T) u n m h = leaf-spine (Const c T) u tt refl refl refl m h
  rigid-spines (Free x T) u n m h = leaf-spine (Free x T) u tt (fixed-stays terms s x T) refl refl m h
  rigid-spines (Bound p) u n m h = leaf-spine (Bound p) u tt refl refl refl m h
  rigid-spines (Var x i T) u n m h = absurd n
  rigid-spines (Abs T b) u n m h = absurd n

  bare-body : (t : Term) → abstraction_count t ≡ 0 → term_body t ≡ t
  bare-body (Const c T) e = refl
  bare-body (Free x T) e = refl
  bare-body (Var x i T) e = refl
  bare-body (Bound p) e = refl
  bare-body (Abs T b) e = absurd (omega arith)
  bare-body (App f a) e = refl

  -- What stands below as many abstractions.
  peeled : (n : ℕ) (l r : Term) → abstraction_count l ≡ n → abstraction_count r ≡ n → HaveOneEndUnder l r → HaveOneEndUnder (term_body l) (term_body r)
  peeled zero l r e f h = rw (bare-body l e, bare-body r f) h
  peeled (suc n) l r e f h =
      let k = opened n l e in
      let m = opened n r f in
      let both : HaveOneEndUnder (Abs k.0 k.1) (Abs m.0 m.1) = rw (k.2, m.2) at h in
      let inner = peeled n k.1 m.1 k.3 m.3 (ends_of_bodies k.0 m.0 (inst_term terms k.1) (inst_term terms m.1) both) in
      rw (k.2, m.2) inner

  -- Rigid long sides of one type, which the map solves.
  pub solved-spines : (l r : Term) (T : Typ) → IsLong [] l l T → IsLong [] r r T → IsRigidHead (head l) → IsRigidHead (head r) → SolvesPair terms (pair l r) → AreSpinesAlike (term_body l) (term_body r)
  solved-spines l r T h k n m solved = rigid-spines (term_body l) (term_body r) n m (peeled (arrow_count T) l r h.count k.count (long_forms_are_ends (inst_term terms l) (inst_term terms r) solved))

  below-instance : (Ts : List Typ) (t : Term) → inst_term terms (below Ts t) ≡ below Ts (inst_term terms t)
  below-instance [] t = refl
  below-instance (T ∷ Ts) t = ap (Abs T) (below-instance Ts t)

  ends-below : (Ts : List Typ) (t u : Term) → HaveOneEnd t u → HaveOneEnd (below Ts t) (below Ts u)
  ends-below [] t u h = h
  ends-below (T ∷ Ts) t u h = ends_of_abstractions T (below Ts t) (below Ts u) (ends-below Ts t u h)

  solved-below : (Ts : List Typ) (ts us : List Term) → EachTwo HaveOneEndUnder ts us → Each IsLongPair (pairs_below Ts Ts ts us) → SolvesPairs terms (pairs_below Ts Ts ts us)
  solved-below Ts [] us h k = tt
  solved-below Ts (t ∷ ts) [] h k = tt
  solved-below Ts (t ∷ ts) (u ∷ us) h k =
      let inside : HaveOneEndUnder (below Ts t) (below Ts u) = rw (below-instance Ts t, below-instance Ts u) (ends-below Ts (inst_term terms t) (inst_term terms u) h.0) in
      let left = k.0.0 in
      let right = k.0.1 in
      (ends_are_long_forms (inst_term terms (below Ts t)) (inst_term terms (below Ts u)) left.0 right.0 (instance-typed terms s (below Ts t) left.0 left.1.typed) (instance-typed terms s (below Ts u) right.0 right.1.typed) inside, solved-below Ts ts us h.1 k.1)

  -- The map solves the pairs of their arguments.
  pub arguments-solved : (p : Pair) (T : Typ) → IsLong [] p.left p.left T → IsLong [] p.right p.right T → IsRigidHead (head p.left) → IsRigidHead (head p.right) → SolvesPair terms p → SolvesPairs terms (argument_pairs p.left p.right)
  arguments-solved p T h k n m solved =
      let spines = solved-spines p.left p.right T h k n m solved in
      let left = abstractions-domains [] p.left T h.parts h.typed h.count in
      let right = abstractions-domains [] p.right T k.parts k.typed k.count in
      let long : Each IsLongPair (argument_pairs p.left p.right) = argument_pairs-long p ((T, h), (T, k)) in
      let both : Each IsLongPair (pairs_below (domains T) (domains T) (arguments (term_body p.left)) (arguments (term_body p.right))) = rw (left, right) at long in
      rw (left, right) (solved-below (domains T) (arguments (term_body p.left)) (arguments (term_body p.right)) spines.1 both)
