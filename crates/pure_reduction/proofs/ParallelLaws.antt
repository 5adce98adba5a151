-- Steps at many places at once, and what a term becomes when each of its redexes is contracted: so beta steps are confluent (Takahashi, Parallel reductions in lambda calculus, 1995).
use Rattle.std.proofs.Common.{◌≡◌, ℕ, ◌+◌, Bool, true, false, ap, refl, ◌∙◌, arith}
use Rattle.std.specs.Prelude.{◌-◌, nat_eq, nat_lt, if◌then◌else◌}
use Rattle.pure_definitions.specs.Types.Typ.{Typ}
use Rattle.pure_definitions.specs.Terms.Term.{Term, Const, Free, Var, Bound, Abs, App}
use Rattle.pure_definitions.specs.Terms.Bounds.{lift_term, place_at, subst_under, subst_bound}
use Rattle.pure_term_laws.proofs.BindLaws.{lift-past-subst}
use Rattle.pure_term_laws.proofs.MapLaws.{subst-past-subst}
use Rattle.pure_reduction.specs.Steps.{BetaStep, BetaReduces}
use Rattle.pure_reduction.specs.LawsSteps.{BetaStepsAreConfluent, OneBetaNormalForm}
use Rattle.pure_reduction.proofs.StepLaws.{reduces-then, reduces-body, reduces-application, normal-stays}

-- The first term becomes the second by steps at many of its redexes at once.
pub data Goes : Term → Term → Type 0 where
  constant : {c : ℕ} {T : Typ} → Goes (Const c T) (Const c T)
  fixed : {x : ℕ} {T : Typ} → Goes (Free x T) (Free x T)
  schematic : {x i : ℕ} {T : Typ} → Goes (Var x i T) (Var x i T)
  bound : {n : ℕ} → Goes (Bound n) (Bound n)
  under : {T : Typ} {b c : Term} → Goes b c → Goes (Abs T b) (Abs T c)
  applied : {f g a b : Term} → Goes f g → Goes a b → Goes (App f a) (App g b)
  contracted : {T : Typ} {b c a d u : Term} → Goes b c → Goes a d → u ≡ subst_bound c d → Goes (App (Abs T b) a) u

pub goes-itself : (t : Term) → Goes t t
goes-itself (Const c T) = constant
goes-itself (Free x T) = fixed
goes-itself (Var x i T) = schematic
goes-itself (Bound n) = bound
goes-itself (Abs T b) = under (goes-itself b)
goes-itself (App f a) = applied (goes-itself f) (goes-itself a)

-- Lifting and instantiation past the contraction of a redex.
pub lift-past-redex : (by from : ℕ) (a b : Term) → lift_term by from (subst_bound b a) ≡ subst_bound (lift_term by (from + 1) b) (lift_term by from a)
lift-past-redex by from a b = let same : 0 + from ≡ from = omega arith in rw same at (lift-past-subst by 0 from a b)

subst-past-redex : (n : ℕ) (c a b : Term) → subst_under n c (subst_bound b a) ≡ subst_bound (subst_under (n + 1) c b) (subst_under n c a)
subst-past-redex n c a b = let same : 0 + n ≡ n = omega arith in rw same at (subst-past-subst 0 n a c b)

goes-lift : (by from : ℕ) {t u : Term} → Goes t u → Goes (lift_term by from t) (lift_term by from u)
goes-lift by from constant = constant
goes-lift by from fixed = fixed
goes-lift by from schematic = schematic
goes-lift by from (bound {n = n}) = goes-itself (lift_term by from (Bound n))
goes-lift by from (under h) = under (goes-lift by (from + 1) h)
goes-lift by from (applied h k) = applied (goes-lift by from h) (goes-lift by from k)
goes-lift by from (contracted {c = c} {d = d} h k e) = contracted (goes-lift by (from + 1) h) (goes-lift by from k) (ap (lift_term by from) e ∙ lift-past-redex by from d c)

goes-place : (n p : ℕ) {a d : Term} → Goes a d → Goes (place_at n a p) (place_at n d p)
goes-place n p {a = a} {d = d} k = choose (nat_lt p n) (nat_eq p n)
  where
    choose : (b s : Bool) → Goes (if b then Bound p else (if s then lift_term n 0 a else Bound (p - 1))) (if b then Bound p else (if s then lift_term n 0 d else Bound (p - 1)))
    choose true s = bound
    choose false true = goes-lift n 0 k
    choose false false = bound

-- The body and the argument of an instantiation may go at once.
pub goes-subst : (n : ℕ) {b c a d : Term} → Goes b c → Goes a d → Goes (subst_under n a b) (subst_under n d c)
goes-subst n constant k = constant
goes-subst n fixed k = fixed
goes-subst n schematic k = schematic
goes-subst n (bound {n = p}) k = goes-place n p k
goes-subst n (under h) k = under (goes-subst (n + 1) h k)
goes-subst n (applied h l) k = applied (goes-subst n h k) (goes-subst n l k)
goes-subst n {d = d} (contracted {c = body} {d = argument} h l e) k =
    contracted (goes-subst (n + 1) h k) (goes-subst n l k) (ap (subst_under n d) e ∙ subst-past-redex n d argument body)

-- the term with each of its redexes contracted, and none of those that come of that
abbrev developed : Term → Term
developed (App (Abs T b) a) = subst_bound (developed b) (developed a)
developed (App f a) = App (developed f) (developed a)
developed (Abs T b) = Abs T (developed b)
developed t = t

body-goes : {T U : Typ} {b c : Term} → Goes (Abs T b) (Abs U c) → Goes b c
body-goes (under h) = h

completes-application : (a : Term) {f g b : Term} → Goes f g → Goes g (developed f) → Goes b (developed a) → Goes (App g b) (developed (App f a))
completes-application a constant h k = applied h k
completes-application a fixed h k = applied h k
completes-application a schematic h k = applied h k
completes-application a bound h k = applied h k
completes-application a (under l) h k = contracted (body-goes h) k refl
completes-application a (applied l m) h k = applied h k
completes-application a (contracted l m e) h k = applied h k

-- Whatever the term went to goes there.
completes : {t u : Term} → Goes t u → Goes u (developed t)
completes constant = constant
completes fixed = fixed
completes schematic = schematic
completes bound = bound
completes (under h) = under (completes h)
completes (applied {a = a} h k) = completes-application a h (completes h) (completes k)
completes (contracted h k e) = rw e (goes-subst 0 (completes h) (completes k))

pub step-goes : {t u : Term} → BetaStep t u → Goes t u
step-goes (BetaStep.contract {b = b} {a = a} e) = contracted (goes-itself b) (goes-itself a) e
step-goes (BetaStep.body s) = under (step-goes s)
step-goes (BetaStep.function {a = a} s) = applied (step-goes s) (goes-itself a)
step-goes (BetaStep.argument {f = f} s) = applied (goes-itself f) (step-goes s)

pub goes-reduces : {t u : Term} → Goes t u → BetaReduces t u
goes-reduces constant = BetaReduces.done
goes-reduces fixed = BetaReduces.done
goes-reduces schematic = BetaReduces.done
goes-reduces bound = BetaReduces.done
goes-reduces (under {T = T} h) = reduces-body T (goes-reduces h)
goes-reduces (applied h k) = reduces-application (goes-reduces h) (goes-reduces k)
goes-reduces (contracted {T = T} h k e) =
    reduces-then (reduces-application (reduces-body T (goes-reduces h)) (goes-reduces k)) (BetaReduces.next (BetaStep.contract e) BetaReduces.done)

-- one such step against many steps
strip : {t u v : Term} → Goes t u → BetaReduces t v → (w : Term) × BetaReduces u w × Goes v w
strip {u = u} h BetaReduces.done = (u, BetaReduces.done, h)
strip h (BetaReduces.next s r) =
    let rest = strip (completes (step-goes s)) r in
    (rest.0, reduces-then (goes-reduces (completes h)) rest.1, rest.2)

confluent : {t u v : Term} → BetaReduces t u → BetaReduces t v → (w : Term) × BetaReduces u w × BetaReduces v w
confluent {v = v} BetaReduces.done k = (v, k, BetaReduces.done)
confluent (BetaReduces.next s r) k =
    let first = strip (step-goes s) k in
    let rest = confluent r first.1 in
    (rest.0, rest.1, reduces-then (goes-reduces first.2) rest.2)

pub beta_steps_are_confluent : BetaStepsAreConfluent
beta_steps_are_confluent t u v h k = confluent h k

pub one_beta_normal_form : OneBetaNormalForm
one_beta_normal_form t u v h k n m =
    let joined = confluent h k in
    let first : u ≡ joined.0 = normal-stays joined.1 n in
    let second : v ≡ joined.0 = normal-stays joined.2 m in
    cc
