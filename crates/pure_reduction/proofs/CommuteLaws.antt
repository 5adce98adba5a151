-- Beta and eta steps of a typed term commute.
use Rattle.std.proofs.Common.{◌≡◌, ℕ, suc, ◌+◌, inl, inr, List, ◌∷◌, Bool, true, false, ap, refl, sym, subst, ◌∙◌, arith, nat_lt}
use Rattle.std.proofs.lemmas.Bool.{lt-ltb}
use Rattle.std.proofs.lemmas.Bool.Decides.{nat_tests}
use Rattle.std.specs.Prelude.{◌-◌, nat_eq, if◌then◌else◌}
use Rattle.pure_definitions.specs.Types.Typ.{Typ, arrow}
use Rattle.pure_definitions.specs.Terms.Term.{Term, Const, Free, Var, Bound, Abs, App}
use Rattle.pure_definitions.specs.Terms.Bounds.{lift_term, place_at, subst_under, subst_bound}
use Rattle.pure_definitions.specs.Terms.Typing.{HasType}
use Rattle.pure_definitions.specs.Reduction.Eta.{EtaStep, EtaReduces}
use Rattle.pure_definitions.proofs.LiftLaws.{lifted, lift_term-bound, subst-lift}
use Rattle.pure_term_laws.specs.LawsExamples.{i as typ_i, j as typ_j}
use Rattle.pure_term_laws.proofs.BoundLaws.{lift-zero}
use Rattle.pure_term_laws.proofs.MapLaws.{Beside, beside, place-below, place-itself, place-above, subst-past-lift}
use Rattle.pure_term_laws.proofs.EtaLaws.{Contracts, reduces-contracts}
use Rattle.pure_eta.proofs.EtaStepLaws.{reduces-then as eta-then, reduces-body as eta-body, reduces-application as eta-application}
use Rattle.pure_eta.proofs.SaturatedLaws.{reduces-lift as eta-lift}
use Rattle.pure_eta.proofs.KeptLaws.{steps_keep_type as eta-type}
use Rattle.pure_reduction.specs.Steps.{BetaStep, BetaReduces}
use Rattle.pure_reduction.specs.LawsSteps.{StepsCommute, UntypedStepsExample}
use Rattle.pure_reduction.proofs.StepLaws.{reduces-then, steps_keep_type, normal-stays}
use Rattle.pure_reduction.proofs.ParallelLaws.{Goes, goes-itself, lift-past-redex, goes-subst, step-goes, goes-reduces}

contracts-reduces : {t u : Term} → Contracts t u → EtaReduces t u
contracts-reduces Contracts.constant = EtaReduces.done
contracts-reduces Contracts.fixed = EtaReduces.done
contracts-reduces Contracts.schematic = EtaReduces.done
contracts-reduces Contracts.bound = EtaReduces.done
contracts-reduces (Contracts.under {T = T} h) = eta-body T (contracts-reduces h)
contracts-reduces (Contracts.applied {f = f} {g = g} {a = a} {b = b} h k) = eta-application f g a b (contracts-reduces h) (contracts-reduces k)
contracts-reduces (Contracts.contracted {T = T} h e) = eta-then (eta-body T (contracts-reduces h)) (EtaReduces.next (EtaStep.contract e) EtaReduces.done)

contracts-place : (n p : ℕ) {a d : Term} → Contracts a d → Contracts (place_at n a p) (place_at n d p)
contracts-place n p {a = a} {d = d} k = choose (nat_lt p n) (nat_eq p n)
  where
    choose : (b s : Bool) → Contracts (if b then Bound p else (if s then lift_term n 0 a else Bound (p - 1))) (if b then Bound p else (if s then lift_term n 0 d else Bound (p - 1)))
    choose true s = Contracts.bound
    choose false true = reduces-contracts (eta-lift n 0 (contracts-reduces k))
    choose false false = Contracts.bound

-- The body and the argument of an instantiation may contract at once.
contracts-subst : (n : ℕ) {b c a d : Term} → Contracts b c → Contracts a d → Contracts (subst_under n a b) (subst_under n d c)
contracts-subst n Contracts.constant k = Contracts.constant
contracts-subst n Contracts.fixed k = Contracts.fixed
contracts-subst n Contracts.schematic k = Contracts.schematic
contracts-subst n (Contracts.bound {n = p}) k = contracts-place n p k
contracts-subst n (Contracts.under h) k = Contracts.under (contracts-subst (n + 1) h k)
contracts-subst n (Contracts.applied h l) k = Contracts.applied (contracts-subst n h k) (contracts-subst n l k)
contracts-subst n {d = d} (Contracts.contracted {f = f} h e) k =
    let own : nat_lt 0 (n + 1) ≡ true = lt-ltb 0 (n + 1) (omega arith) in
    let body = rw own at (contracts-subst (n + 1) h k) in
    Contracts.contracted body (ap (subst_under (n + 1) d) e ∙ subst-past-lift n 1 0 d f (omega arith))

-- What is lifted to an abstraction, or to an application, is one.
lifted-abstraction : (by from : ℕ) (T : Typ) (b t : Term) → Abs T b ≡ lift_term by from t → (c : Term) × (t ≡ Abs T c) × (b ≡ lift_term by (from + 1) c)
lifted-abstraction by from T b (Const c U) e = absurd (cc)
lifted-abstraction by from T b (Free x U) e = absurd (cc)
lifted-abstraction by from T b (Var x i U) e = absurd (cc)
lifted-abstraction by from T b (Bound p) e = let never : Abs T b ≡ Bound (lifted by from p) = e ∙ lift_term-bound by from p in absurd (cc)
lifted-abstraction by from T b (Abs U c) e = let types : U ≡ T = cc in (c, ap (λ V. Abs V c) types, cc)
lifted-abstraction by from T b (App f a) e = absurd (cc)

lifted-application : (by from : ℕ) (f a t : Term) → App f a ≡ lift_term by from t → (g b : Term) × (t ≡ App g b) × (f ≡ lift_term by from g) × (a ≡ lift_term by from b)
lifted-application by from f a (Const c U) e = absurd (cc)
lifted-application by from f a (Free x U) e = absurd (cc)
lifted-application by from f a (Var x i U) e = absurd (cc)
lifted-application by from f a (Bound p) e = let never : App f a ≡ Bound (lifted by from p) = e ∙ lift_term-bound by from p in absurd (cc)
lifted-application by from f a (Abs U c) e = absurd (cc)
lifted-application by from f a (App g b) e = (g, b, refl, cc, cc)

-- What a lifted term goes to is lifted.
goes-unlift : (by from : ℕ) (t : Term) {s u : Term} → Goes s u → s ≡ lift_term by from t → (v : Term) × (u ≡ lift_term by from v) × Goes t v
goes-unlift by from t Goes.constant e = (t, e, goes-itself t)
goes-unlift by from t Goes.fixed e = (t, e, goes-itself t)
goes-unlift by from t Goes.schematic e = (t, e, goes-itself t)
goes-unlift by from t Goes.bound e = (t, e, goes-itself t)
goes-unlift by from t (Goes.under {T = T} {b = b} h) e =
    let whole = lifted-abstraction by from T b t e in
    let r = goes-unlift by (from + 1) whole.0 h whole.2 in
    (Abs T r.0, ap (Abs T) r.1, subst (λ x. Goes x (Abs T r.0)) (sym whole.1) (Goes.under r.2))
goes-unlift by from t (Goes.applied {f = f} {g = g} {a = a} {b = b} h k) e =
    let whole = lifted-application by from f a t e in
    let r = goes-unlift by from whole.0 h whole.3 in
    let s = goes-unlift by from whole.1 k whole.4 in
    let parts : App g b ≡ App (lift_term by from r.0) (lift_term by from s.0) = λ l. App (r.1 l) (s.1 l) in
    (App r.0 s.0, parts, subst (λ x. Goes x (App r.0 s.0)) (sym whole.2) (Goes.applied r.2 s.2))
goes-unlift by from t (Goes.contracted {T = T} {b = b} {c = c} {a = a} {d = d} h k own) e =
    let whole = lifted-application by from (Abs T b) a t e in
    let function = lifted-abstraction by from T b whole.0 whole.3 in
    let r = goes-unlift by (from + 1) function.0 h function.2 in
    let s = goes-unlift by from whole.1 k whole.4 in
    let parts : subst_bound c d ≡ subst_bound (lift_term by (from + 1) r.0) (lift_term by from s.0) = λ l. subst_bound (r.1 l) (s.1 l) in
    let redex : t ≡ App (Abs T function.0) whole.1 = whole.2 ∙ ap (λ g. App g whole.1) function.1 in
    (subst_bound r.0 s.0, own ∙ (parts ∙ sym (lift-past-redex by from s.0 r.0)), subst (λ x. Goes x (subst_bound r.0 s.0)) (sym redex) (Goes.contracted r.2 s.2 refl))

-- A term that was lifted above a bound variable, with another put for that one.
renamed-place : (m n p : ℕ) → Beside m p → place_at m (Bound n) (lifted (suc n) (m + 1) p) ≡ Bound (lifted n m p)
renamed-place m n p (inl low) =
    let stays : lifted (suc n) (m + 1) p ≡ p = grind (arith, nat_tests) in
    let too : lifted n m p ≡ p = grind (arith, nat_tests) in
    rw (stays, too) (place-below m (Bound n) p low)
renamed-place m n p (inr (inl e)) =
    let stays : lifted (suc n) (m + 1) p ≡ m = grind (arith, nat_tests) in
    let too : lifted n m p ≡ n + m = grind (arith, nat_tests) in
    let lifts : lifted m 0 n ≡ n + m = grind (arith, nat_tests) in
    rw (stays, too) (place-itself m (Bound n) ∙ (lift_term-bound m 0 n ∙ ap Bound lifts))
renamed-place m n p (inr (inr (q, e, high))) =
    let raised : lifted (suc n) (m + 1) p ≡ (p + n) + 1 = grind (arith, nat_tests) in
    let too : lifted n m p ≡ p + n = grind (arith, nat_tests) in
    rw (raised, too) (place-above m (Bound n) (p + n) (omega arith))

pub subst-renamed : (m n : ℕ) (t : Term) → subst_under m (Bound n) (lift_term (suc n) (m + 1) t) ≡ lift_term n m t
subst-renamed m n (Const c T) = refl
subst-renamed m n (Free x T) = refl
subst-renamed m n (Var x i T) = refl
subst-renamed m n (Bound p) = ap (subst_under m (Bound n)) (lift_term-bound (suc n) (m + 1) p) ∙ (renamed-place m n p (beside m p) ∙ sym (lift_term-bound n m p))
subst-renamed m n (Abs T b) = ap (Abs T) (subst-renamed (m + 1) n b)
subst-renamed m n (App f a) = λ l. App (subst-renamed m n f l) (subst-renamed m n a l)

-- A function of the type that an abstraction has goes on as the abstraction's body does.
goes-function : (bs : List Typ) (U V W T : Typ) (b c d f w : Term) → f ≡ Abs U b → HasType bs f T → arrow V W ≡ T → Contracts c w → w ≡ d → Goes b d → (x : Term) × Contracts (Abs V c) x × Goes f x
goes-function bs U V W T b c d f w e typed is k own l =
    let function : HasType bs (Abs U b) T = rw e at typed in
    let arrows : arrow U function.0 ≡ arrow V W = function.2 ∙ sym is in
    let types : U ≡ V = cc in
    (Abs V d, Contracts.under (rw own at k), rw (e, types) (Goes.under l))

-- An abstraction whose body is f applied to the abstraction's own variable, and f, as the body goes on.
goes-contraction : (bs : List Typ) (V W T : Typ) (c f g w : Term) → g ≡ lift_term 1 0 f → HasType bs f T → arrow V W ≡ T → Contracts c w → Goes (App g (Bound 0)) w
    → (x : Term) × Contracts (Abs V c) x × Goes f x
goes-contraction bs V W T c f g w e typed is k (Goes.applied l Goes.bound) =
    let r = goes-unlift 1 0 f l e in
    (r.0, Contracts.contracted k r.1, r.2)
goes-contraction bs V W T c f g w e typed is k (Goes.contracted {T = U} {b = b} {c = body} l Goes.bound own) =
    let whole = lifted-abstraction 1 0 U b f e in
    let r = goes-unlift 1 1 whole.0 l whole.2 in
    let same : w ≡ r.0 = own ∙ (ap (λ x. subst_bound x (Bound 0)) r.1 ∙ subst-renamed 0 0 r.0 ∙ lift-zero 0 r.0) in
    goes-function bs U V W T whole.0 c r.0 f w whole.1 typed is k same r.2

instantiated : (f g a : Term) → g ≡ lift_term 1 0 f → subst_bound (App g (Bound 0)) a ≡ App f a
instantiated f g a e = let same : subst_under 0 a g ≡ f = ap (subst_under 0 a) e ∙ subst-lift 0 a f in λ l. App (same l) (lift-zero 0 a l)

-- Contractions against steps at many places at once.
commutes : (bs : List Typ) (T : Typ) {t u v : Term} → HasType bs t T → Contracts t v → Goes t u → (w : Term) × Contracts u w × Goes v w
commutes bs T typed (Contracts.constant {c = c} {T = V}) Goes.constant = (Const c V, Contracts.constant, Goes.constant)
commutes bs T typed (Contracts.fixed {x = x} {T = V}) Goes.fixed = (Free x V, Contracts.fixed, Goes.fixed)
commutes bs T typed (Contracts.schematic {x = x} {i = i} {T = V}) Goes.schematic = (Var x i V, Contracts.schematic, Goes.schematic)
commutes bs T typed (Contracts.bound {n = p}) Goes.bound = (Bound p, Contracts.bound, Goes.bound)
commutes bs T typed (Contracts.under {T = V} k) (Goes.under l) = let r = commutes (V ∷ bs) typed.0 typed.1 k l in (Abs V r.0, Contracts.under r.1, Goes.under r.2)
commutes bs T typed (Contracts.applied k k') (Goes.applied l l') =
    let r = commutes bs (arrow typed.0 T) typed.1 k l in
    let s = commutes bs typed.0 typed.2 k' l' in
    (App r.0 s.0, Contracts.applied r.1 s.1, Goes.applied r.2 s.2)
commutes bs T typed (Contracts.applied (Contracts.under {T = V} k) k') (Goes.contracted l l' e) =
    let r = commutes (V ∷ bs) typed.1.0 typed.1.1 k l in
    let s = commutes bs typed.0 typed.2 k' l' in
    (subst_bound r.0 s.0, rw e (contracts-subst 0 r.1 s.1), Goes.contracted r.2 s.2 refl)
commutes bs T typed (Contracts.applied {b = b} (Contracts.contracted {T = V} {f = f} {g = g} k own) k') (Goes.contracted l l' e) =
    let r = commutes (V ∷ bs) typed.1.0 typed.1.1 k l in
    let s = commutes bs typed.0 typed.2 k' l' in
    (subst_bound r.0 s.0, rw e (contracts-subst 0 r.1 s.1), subst (λ x. Goes x (subst_bound r.0 s.0)) (instantiated f g b own) (goes-subst 0 r.2 s.2))
commutes bs T typed (Contracts.contracted {T = V} {b = b} {f = f} {g = g} k own) (Goes.under {c = c} l) =
    let r = commutes (V ∷ bs) typed.0 typed.1 k l in
    let function : HasType bs f T = eta-type bs (Abs V b) f T (contracts-reduces (Contracts.contracted k own)) typed in
    goes-contraction bs V typed.0 T c f g r.0 own function typed.2 r.1 r.2

pub steps_commute : StepsCommute
steps_commute bs t u v T typed BetaReduces.done k = (v, k, BetaReduces.done)
steps_commute bs t u v T typed (BetaReduces.next {u = x} s r) k =
    let first = commutes bs T typed (reduces-contracts k) (step-goes s) in
    let rest = steps_commute bs x u first.0 T (steps_keep_type bs t x T (BetaReduces.next s BetaReduces.done) typed) r (contracts-reduces first.1) in
    (rest.0, rest.1, reduces-then (goes-reduces first.2) rest.2)

identity-eta_stays : (T : Typ) (w : Term) → EtaReduces (Abs T (Bound 0)) w → Abs T (Bound 0) ≡ w
identity-eta_stays T w EtaReduces.done = refl
identity-eta_stays T w (EtaReduces.next (EtaStep.body s) r) = elim s [ ]

pub untyped_steps_example : UntypedStepsExample
untyped_steps_example = (
  BetaReduces.next (BetaStep.body (BetaStep.contract refl)) BetaReduces.done,
  EtaReduces.next (EtaStep.contract refl) EtaReduces.done,
  λ w k h. (
      let same : Abs typ_i (Bound 0) ≡ Abs typ_j (Bound 0) = identity-eta_stays typ_i w k ∙ sym (normal-stays h tt) in
      let types : typ_i ≡ typ_j = cc in
      cc
      ),
)
