-- A bare variable that occurs on a firm path of the other side: no map solves the pair, as its image would have longer and longer firm paths.
use Rattle.std.proofs.Common.{◌≡◌, ◌⊎◌, ℕ, zero, suc, ◌+◌, ◌≤◌, inl, inr, Bool, true, false, ◌&&◌, ◌||◌, ap, refl, sym, subst, ◌∙◌, arith, nat_lt}
use Rattle.std.proofs.lemmas.Bool.{lt-ltb}
use Rattle.std.proofs.lemmas.Bool.Decides.{nat_tests}
use Rattle.pure_definitions.specs.Types.Typ.{Typ}
use Rattle.pure_definitions.specs.Terms.Term.{Term, Const, Free, Var, Bound, Abs, App, term_eq}
use Rattle.pure_definitions.specs.Terms.Bounds.{lift_term, subst_under}
use Rattle.pure_definitions.specs.Terms.Typing.{node_count}
use Rattle.pure_definitions.specs.Terms.Subst.{inst_term}
use Rattle.pure_definitions.specs.Models.Equality.{term_eq-same}
use Rattle.pure_definitions.specs.Reduction.Beta.{IsAbs, IsBetaNormal}
use Rattle.pure_definitions.specs.Reduction.Eta.{EtaStep, EtaReduces, IsLongForm}
use Rattle.pure_definitions.proofs.LiftLaws.{lifted, lift_term-bound}
use Rattle.pure_term_laws.proofs.MapLaws.{place-below}
use Rattle.pure_eta.proofs.KeptLaws.{steps_keep_beta_normal}
use Rattle.pure_reduction.specs.Steps.{BetaStep, BetaReduces}
use Rattle.pure_reduction.proofs.StepLaws.{reduces-then, reduces-body, reduces-application, normal-stays}
use Rattle.pure_reduction.specs.LongForms.{HasLongForm}
use Rattle.pure_reduction.proofs.LongLaws.{has_long-normal}
use Rattle.pure_reduction.proofs.ParallelLaws.{beta_steps_are_confluent}
use Rattle.pure_solutions.specs.Solutions.{IsTermSubstitution}
use Rattle.pure_solutions.proofs.SolutionLaws.{fixed-stays}
use Rattle.pure_unify_definitions.specs.Fronts.{front}
use Rattle.pure_unify_definitions.specs.Firm.{is_firm_head, stands_in, stands_in_arguments, occurs_firmly}

-- below one abstraction more: the leading ones of a term don't count as inner ones
abbrev deeper : (leading : Bool) → ℕ → ℕ
deeper true inner = inner
deeper false inner = inner + 1

abbrev mutual
  -- The term has a firm path on which so many applications lie.
  pub HasFirm : (leading : Bool) → (inner : ℕ) → ℕ → Term → Type 0
  HasFirm l inner zero t = Unit {0}
  HasFirm l inner (suc k) (Abs T b) = HasFirm l (deeper l inner) (suc k) b
  HasFirm l inner (suc k) (App f a) = (is_firm_head inner (front f) ≡ true) × (InArguments inner k f ⊎ HasFirm false inner k a)
  HasFirm l inner (suc k) t = ⊥

  -- So has one of the arguments of an application.
  pub InArguments : (inner : ℕ) → ℕ → Term → Type 0
  InArguments inner k (App f a) = InArguments inner k f ⊎ HasFirm false inner k a
  InArguments inner k t = ⊥

-- A path isn't longer than the term is large.
mutual
  firm-bounded : (l : Bool) (inner k : ℕ) (t : Term) → HasFirm l inner k t → k ≤ node_count t
  firm-bounded l inner zero t h = omega arith
  firm-bounded l inner (suc k) (Abs T b) h = let le = firm-bounded l (deeper l inner) (suc k) b h in omega arith
  firm-bounded l inner (suc k) (App f a) h = elim h.1 [ inl i ↦ (let le = arguments-bounded inner k f i in omega arith) | inr i ↦ (let le = firm-bounded false inner k a i in omega arith) ]
  firm-bounded l inner (suc k) (Const c T) h = absurd h
  firm-bounded l inner (suc k) (Free x T) h = absurd h
  firm-bounded l inner (suc k) (Var x i T) h = absurd h
  firm-bounded l inner (suc k) (Bound p) h = absurd h

  arguments-bounded : (inner k : ℕ) (t : Term) → InArguments inner k t → k ≤ node_count t
  arguments-bounded inner k (App f a) h = elim h [ inl i ↦ (let le = arguments-bounded inner k f i in omega arith) | inr i ↦ (let le = firm-bounded false inner k a i in omega arith) ]
  arguments-bounded inner k (Abs T b) h = absurd h
  arguments-bounded inner k (Const c T) h = absurd h
  arguments-bounded inner k (Free x T) h = absurd h
  arguments-bounded inner k (Var x i T) h = absurd h
  arguments-bounded inner k (Bound p) h = absurd h

-- What has a path has each shorter one.
mutual
  firm-shorter : (l : Bool) (inner k : ℕ) (t : Term) → HasFirm l inner (suc k) t → HasFirm l inner k t
  firm-shorter l inner zero t h = tt
  firm-shorter l inner (suc k) (Abs T b) h = firm-shorter l (deeper l inner) (suc k) b h
  firm-shorter l inner (suc k) (App f a) h = (h.0, elim h.1 [ inl i ↦ inl (arguments-shorter inner k f i) | inr i ↦ inr (firm-shorter false inner k a i) ])
  firm-shorter l inner (suc k) (Const c T) h = absurd h
  firm-shorter l inner (suc k) (Free x T) h = absurd h
  firm-shorter l inner (suc k) (Var x i T) h = absurd h
  firm-shorter l inner (suc k) (Bound p) h = absurd h

  arguments-shorter : (inner k : ℕ) (t : Term) → InArguments inner (suc k) t → InArguments inner k t
  arguments-shorter inner k (App f a) h = elim h [ inl i ↦ inl (arguments-shorter inner k f i) | inr i ↦ inr (firm-shorter false inner k a i) ]
  arguments-shorter inner k (Abs T b) h = absurd h
  arguments-shorter inner k (Const c T) h = absurd h
  arguments-shorter inner k (Free x T) h = absurd h
  arguments-shorter inner k (Var x i T) h = absurd h
  arguments-shorter inner k (Bound p) h = absurd h

false-true : {A : Type 0} → false ≡ true → A
false-true e = absurd (cc)

lt-from : (p n : ℕ) → nat_lt p n ≡ true → p + 1 ≤ n
lt-from p n e = grind (arith, nat_tests)

-- A term that is put for a bound variable that isn't an inner one takes no path away.
put-head : (inner n : ℕ) (arg t : Term) → inner ≤ n → is_firm_head inner (front t) ≡ true → is_firm_head inner (front (subst_under n arg t)) ≡ true
put-head inner n arg (Const c T) le e = refl
put-head inner n arg (Free x T) le e = refl
put-head inner n arg (Var x i T) le e = false-true e
put-head inner n arg (Bound p) le e = let lt = lt-from p inner e in rw (place-below n arg p (omega arith)) e
put-head inner n arg (Abs T b) le e = false-true e
put-head inner n arg (App f a) le e = put-head inner n arg f le e

deeper-le : (l : Bool) (inner n : ℕ) → inner ≤ n → deeper l inner ≤ n + 1
deeper-le true inner n le = omega arith
deeper-le false inner n le = omega arith

mutual
  firm-put : (l : Bool) (inner k n : ℕ) (arg t : Term) → inner ≤ n → HasFirm l inner k t → HasFirm l inner k (subst_under n arg t)
  firm-put l inner zero n arg t le h = tt
  firm-put l inner (suc k) n arg (Abs T b) le h = firm-put l (deeper l inner) (suc k) (n + 1) arg b (deeper-le l inner n le) h
  firm-put l inner (suc k) n arg (App f a) le h = (put-head inner n arg f le h.0, elim h.1 [ inl i ↦ inl (arguments-put inner k n arg f le i) | inr i ↦ inr (firm-put false inner k n arg a le i) ])
  firm-put l inner (suc k) n arg (Const c T) le h = absurd h
  firm-put l inner (suc k) n arg (Free x T) le h = absurd h
  firm-put l inner (suc k) n arg (Var x i T) le h = absurd h
  firm-put l inner (suc k) n arg (Bound p) le h = absurd h

  arguments-put : (inner k n : ℕ) (arg t : Term) → inner ≤ n → InArguments inner k t → InArguments inner k (subst_under n arg t)
  arguments-put inner k n arg (App f a) le h = elim h [ inl i ↦ inl (arguments-put inner k n arg f le i) | inr i ↦ inr (firm-put false inner k n arg a le i) ]
  arguments-put inner k n arg (Abs T b) le h = absurd h
  arguments-put inner k n arg (Const c T) le h = absurd h
  arguments-put inner k n arg (Free x T) le h = absurd h
  arguments-put inner k n arg (Var x i T) le h = absurd h
  arguments-put inner k n arg (Bound p) le h = absurd h

-- The term keeps its paths below further inner abstractions, and where it no longer leads.
wider-head : (inner wide : ℕ) (t : Term) → inner ≤ wide → is_firm_head inner t ≡ true → is_firm_head wide t ≡ true
wider-head inner wide (Const c T) le e = refl
wider-head inner wide (Free x T) le e = refl
wider-head inner wide (Var x i T) le e = false-true e
wider-head inner wide (Bound p) le e = let lt = lt-from p inner e in lt-ltb p wide (omega arith)
wider-head inner wide (Abs T b) le e = false-true e
wider-head inner wide (App f a) le e = false-true e

deeper-wider : (l : Bool) (inner wide : ℕ) → inner ≤ wide → deeper l inner ≤ wide + 1
deeper-wider true inner wide le = omega arith
deeper-wider false inner wide le = omega arith

mutual
  firm-wider : (l : Bool) (inner wide k : ℕ) (t : Term) → inner ≤ wide → HasFirm l inner k t → HasFirm false wide k t
  firm-wider l inner wide zero t le h = tt
  firm-wider l inner wide (suc k) (Abs T b) le h = firm-wider l (deeper l inner) (wide + 1) (suc k) b (deeper-wider l inner wide le) h
  firm-wider l inner wide (suc k) (App f a) le h = (wider-head inner wide (front f) le h.0, elim h.1 [ inl i ↦ inl (arguments-wider inner wide k f le i) | inr i ↦ inr (firm-wider false inner wide k a le i) ])
  firm-wider l inner wide (suc k) (Const c T) le h = absurd h
  firm-wider l inner wide (suc k) (Free x T) le h = absurd h
  firm-wider l inner wide (suc k) (Var x i T) le h = absurd h
  firm-wider l inner wide (suc k) (Bound p) le h = absurd h

  arguments-wider : (inner wide k : ℕ) (t : Term) → inner ≤ wide → InArguments inner k t → InArguments wide k t
  arguments-wider inner wide k (App f a) le h = elim h [ inl i ↦ inl (arguments-wider inner wide k f le i) | inr i ↦ inr (firm-wider false inner wide k a le i) ]
  arguments-wider inner wide k (Abs T b) le h = absurd h
  arguments-wider inner wide k (Const c T) le h = absurd h
  arguments-wider inner wide k (Free x T) le h = absurd h
  arguments-wider inner wide k (Var x i T) le h = absurd h
  arguments-wider inner wide k (Bound p) le h = absurd h

-- Beta steps keep paths.
front-step : {t u : Term} (inner : ℕ) → BetaStep t u → is_firm_head inner (front t) ≡ true → front t ≡ front u
front-step inner (BetaStep.contract s) e = false-true e
front-step inner (BetaStep.body s) e = false-true e
front-step inner (BetaStep.function s) e = front-step inner s e
front-step inner (BetaStep.argument s) e = refl

mutual
  firm-step : (l : Bool) (inner k : ℕ) {t u : Term} → BetaStep t u → HasFirm l inner k t → HasFirm l inner k u
  firm-step l inner zero s h = tt
  firm-step l inner (suc k) (BetaStep.contract s) h = false-true h.0
  firm-step l inner (suc k) (BetaStep.body s) h = firm-step l (deeper l inner) (suc k) s h
  firm-step l inner (suc k) (BetaStep.function {f = f} s) h =
      (ap (is_firm_head inner) (sym (front-step inner s h.0)) ∙ h.0, elim h.1 [ inl i ↦ inl (arguments-step inner k s h.0 i) | inr i ↦ inr i ])
  firm-step l inner (suc k) (BetaStep.argument s) h = (h.0, elim h.1 [ inl i ↦ inl i | inr i ↦ inr (firm-step false inner k s i) ])

  arguments-step : (inner k : ℕ) {t u : Term} → BetaStep t u → is_firm_head inner (front t) ≡ true → InArguments inner k t → InArguments inner k u
  arguments-step inner k (BetaStep.contract s) e h = false-true e
  arguments-step inner k (BetaStep.body s) e h = absurd h
  arguments-step inner k (BetaStep.function s) e h = elim h [ inl i ↦ inl (arguments-step inner k s e i) | inr i ↦ inr i ]
  arguments-step inner k (BetaStep.argument s) e h = elim h [ inl i ↦ inl i | inr i ↦ inr (firm-step false inner k s i) ]

firm-steps : (l : Bool) (inner k : ℕ) {t u : Term} → BetaReduces t u → HasFirm l inner k t → HasFirm l inner k u
firm-steps l inner k BetaReduces.done h = h
firm-steps l inner k (BetaReduces.next s r) h = firm-steps l inner k r (firm-step l inner k s h)

-- A term that is lifted over inner abstractions, or over others, keeps its paths.
abbrev Fits : (inner wide by from : ℕ) → Type 0
Fits inner wide by from = ((inner ≤ from) × (inner ≤ wide)) ⊎ (inner + by ≤ wide)

lifted-within : (p inner wide by from : ℕ) → p + 1 ≤ inner → Fits inner wide by from → lifted by from p + 1 ≤ wide
lifted-within p inner wide by from lt (inl (le, more)) = grind (arith, nat_tests)
lifted-within p inner wide by from lt (inr le) = grind (arith, nat_tests)

deeper-fits : (l : Bool) (inner wide by from : ℕ) → Fits inner wide by from → Fits (deeper l inner) (deeper l wide) by (from + 1)
deeper-fits true inner wide by from (inl (le, more)) = inl (omega arith, omega arith)
deeper-fits false inner wide by from (inl (le, more)) = inl (omega arith, omega arith)
deeper-fits true inner wide by from (inr le) = inr (omega arith)
deeper-fits false inner wide by from (inr le) = inr (omega arith)

lift-head : (inner wide by from : ℕ) (t : Term) → Fits inner wide by from → is_firm_head inner (front t) ≡ true → is_firm_head wide (front (lift_term by from t)) ≡ true
lift-head inner wide by from (Const c T) fits e = refl
lift-head inner wide by from (Free x T) fits e = refl
lift-head inner wide by from (Var x i T) fits e = false-true e
lift-head inner wide by from (Bound p) fits e = rw (lift_term-bound by from p) (let within = lifted-within p inner wide by from (lt-from p inner e) fits in lt-ltb (lifted by from p) wide (omega arith))
lift-head inner wide by from (Abs T b) fits e = false-true e
lift-head inner wide by from (App f a) fits e = lift-head inner wide by from f fits e

mutual
  firm-lift : (l : Bool) (inner wide by from k : ℕ) (t : Term) → Fits inner wide by from → HasFirm l inner k t → HasFirm l wide k (lift_term by from t)
  firm-lift l inner wide by from zero t fits h = tt
  firm-lift l inner wide by from (suc k) (Abs T b) fits h = firm-lift l (deeper l inner) (deeper l wide) by (from + 1) (suc k) b (deeper-fits l inner wide by from fits) h
  firm-lift l inner wide by from (suc k) (App f a) fits h =
      (lift-head inner wide by from f fits h.0, elim h.1 [ inl i ↦ inl (arguments-lift inner wide by from k f fits i) | inr i ↦ inr (firm-lift false inner wide by from k a fits i) ])
  firm-lift l inner wide by from (suc k) (Const c T) fits h = absurd h
  firm-lift l inner wide by from (suc k) (Free x T) fits h = absurd h
  firm-lift l inner wide by from (suc k) (Var x i T) fits h = absurd h
  firm-lift l inner wide by from (suc k) (Bound p) fits h = absurd h

  arguments-lift : (inner wide by from k : ℕ) (t : Term) → Fits inner wide by from → InArguments inner k t → InArguments wide k (lift_term by from t)
  arguments-lift inner wide by from k (App f a) fits h = elim h [ inl i ↦ inl (arguments-lift inner wide by from k f fits i) | inr i ↦ inr (firm-lift false inner wide by from k a fits i) ]
  arguments-lift inner wide by from k (Abs T b) fits h = absurd h
  arguments-lift inner wide by from k (Const c T) fits h = absurd h
  arguments-lift inner wide by from k (Free x T) fits h = absurd h
  arguments-lift inner wide by from k (Var x i T) fits h = absurd h
  arguments-lift inner wide by from k (Bound p) fits h = absurd h

-- Eta steps of normal terms make no path. No abstraction is an inner one at the top.
abbrev IsTop : Bool → ℕ → Type 0
IsTop true inner = inner ≡ 0
IsTop false inner = Unit {0}

top-deeper : (l : Bool) (inner : ℕ) → IsTop l inner → IsTop l (deeper l inner)
top-deeper true inner e = e
top-deeper false inner e = tt

top-fits : (l : Bool) (inner : ℕ) → IsTop l inner → Fits inner (deeper l inner) 1 0
top-fits true inner e = inl (omega arith, omega arith)
top-fits false inner e = inr (omega arith)

contracted-firm : (l : Bool) (inner k : ℕ) (f g : Term) → IsTop l inner → g ≡ lift_term 1 0 f → ¬ IsAbs g → HasFirm l inner (suc k) f → HasFirm l (deeper l inner) (suc k) (App g (Bound 0))
contracted-firm l inner k (App f a) g top e n h = let path = firm-lift l inner (deeper l inner) 1 0 (suc k) (App f a) (top-fits l inner top) h in rw e (path.0, inl path.1)
contracted-firm l inner k (Abs T b) g top e n h = absurd (n (rw e tt))
contracted-firm l inner k (Const c T) g top e n h = absurd h
contracted-firm l inner k (Free x T) g top e n h = absurd h
contracted-firm l inner k (Var x i T) g top e n h = absurd h
contracted-firm l inner k (Bound p) g top e n h = absurd h

front-eta : {t u : Term} → EtaStep t u → ¬ IsAbs t → IsBetaNormal t → front u ≡ front t
front-eta (EtaStep.contract e) n m = absurd (n tt)
front-eta (EtaStep.body s) n m = absurd (n tt)
front-eta (EtaStep.function s) n m = front-eta s m.0 m.1
front-eta (EtaStep.argument s) n m = refl

mutual
  firm-eta : (l : Bool) (inner k : ℕ) {t u : Term} → IsTop l inner → EtaStep t u → IsBetaNormal t → HasFirm l inner k u → HasFirm l inner k t
  firm-eta l inner zero top s n h = tt
  firm-eta l inner (suc k) top (EtaStep.contract {f = f} {g = g} e) n h = contracted-firm l inner k f g top e n.0 h
  firm-eta l inner (suc k) top (EtaStep.body s) n h = firm-eta l (deeper l inner) (suc k) (top-deeper l inner top) s n h
  firm-eta l inner (suc k) top (EtaStep.function s) n h = (ap (is_firm_head inner) (sym (front-eta s n.0 n.1)) ∙ h.0, elim h.1 [ inl i ↦ inl (arguments-eta inner k s n.0 n.1 i) | inr i ↦ inr i ])
  firm-eta l inner (suc k) top (EtaStep.argument s) n h = (h.0, elim h.1 [ inl i ↦ inl i | inr i ↦ inr (firm-eta false inner k tt s n.2 i) ])

  arguments-eta : (inner k : ℕ) {t u : Term} → EtaStep t u → ¬ IsAbs t → IsBetaNormal t → InArguments inner k u → InArguments inner k t
  arguments-eta inner k (EtaStep.contract e) n m h = absurd (n tt)
  arguments-eta inner k (EtaStep.body s) n m h = absurd (n tt)
  arguments-eta inner k (EtaStep.function s) n m h = elim h [ inl i ↦ inl (arguments-eta inner k s m.0 m.1 i) | inr i ↦ inr i ]
  arguments-eta inner k (EtaStep.argument s) n m h = elim h [ inl i ↦ inl i | inr i ↦ inr (firm-eta false inner k tt s m.2 i) ]

firm-etas : (k : ℕ) {t u : Term} → EtaReduces t u → IsBetaNormal t → HasFirm true 0 k u → HasFirm true 0 k t
firm-etas k EtaReduces.done n h = h
firm-etas k (EtaReduces.next {t = t} {u = u} s r) n h = firm-eta true 0 k refl s n (firm-etas k r (steps_keep_beta_normal t u (EtaReduces.next s EtaReduces.done) n) h)

-- A term with a path, applied.
applied-firm : (k : ℕ) (t a : Term) → HasFirm true 0 k t → (u : Term) × BetaReduces (App t a) u × HasFirm true 0 k u
applied-firm zero t a h = (App t a, BetaReduces.done, tt)
applied-firm (suc k) (Abs T b) a h = (subst_under 0 a b, BetaReduces.next {u = subst_under 0 a b} (BetaStep.contract refl) BetaReduces.done, firm-put true 0 (suc k) 0 a b (omega arith) h)
applied-firm (suc k) (App f b) a h = (App (App f b) a, BetaReduces.done, (h.0, inl h.1))
applied-firm (suc k) (Const c T) a h = absurd h
applied-firm (suc k) (Free x T) a h = absurd h
applied-firm (suc k) (Var x i T) a h = absurd h
applied-firm (suc k) (Bound p) a h = absurd h

or-true : (b c : Bool) → (b || c) ≡ true → (b ≡ true) ⊎ (c ≡ true)
or-true true c e = inl refl
or-true false c e = inr e

and-true : (b c : Bool) → (b && c) ≡ true → (b ≡ true) × (c ≡ true)
and-true true c e = (refl, e)
and-true false c e = false-true e

module _ (terms : Term → Term) (s : IsTermSubstitution terms) (x i : ℕ) (T : Typ) where
  -- The variable's image has a path of this length.
  abbrev ImageHas : ℕ → Type 0
  ImageHas k = HasFirm true 0 k (terms (Var x i T))

  head-instance : (inner : ℕ) (t : Term) → is_firm_head inner (front t) ≡ true → is_firm_head inner (front (inst_term terms t)) ≡ true
  head-instance inner (Const c U) e = refl
  head-instance inner (Free y U) e = rw (fixed-stays terms s y U) refl
  head-instance inner (Var y j U) e = false-true e
  head-instance inner (Bound p) e = e
  head-instance inner (Abs U b) e = false-true e
  head-instance inner (App f a) e = head-instance inner f e

  -- what steps lead to: a term with a path, and one with a path in an argument
  abbrev ComesToFirm : Bool → (inner k : ℕ) → Term → Type 0
  ComesToFirm l inner k t = (u : Term) × BetaReduces (inst_term terms t) u × HasFirm l inner k u

  abbrev ComesToArguments : (inner k : ℕ) → Term → Type 0
  ComesToArguments inner k t = (u : Term) × BetaReduces (inst_term terms t) u × (is_firm_head inner (front u) ≡ true) × InArguments inner k u

  at-front : (k : ℕ) (t : Term) → Var x i T ≡ front t → ImageHas k → ComesToFirm true 0 k t
  at-front k (App f a) e h =
      let function = at-front k f e h in
      let whole = applied-firm k function.0 (inst_term terms a) function.2 in
      (whole.0, reduces-then (reduces-application function.1 BetaReduces.done) whole.1, whole.2)
  at-front k (Var y j U) e h = (terms (Var y j U), BetaReduces.done, subst (λ v. HasFirm true 0 k (terms v)) e h)
  at-front k (Const c U) e h = absurd (cc)
  at-front k (Free y U) e h = absurd (cc)
  at-front k (Bound p) e h = absurd (cc)
  at-front k (Abs U b) e h = absurd (cc)

  -- an application with a firm head, in an argument of which the variable stands
  in-application : (l : Bool) (inner k : ℕ) (f a : Term) → is_firm_head inner (front f) ≡ true → (stands_in_arguments (Var x i T) inner f || stands_in (Var x i T) inner a) ≡ true
      → (stands_in_arguments (Var x i T) inner f ≡ true → ComesToArguments inner k f) → (stands_in (Var x i T) inner a ≡ true → ComesToFirm false inner k a) → ComesToFirm l inner (suc k) (App f a)
  in-application l inner k f a firm e before last = elim (or-true (stands_in_arguments (Var x i T) inner f) (stands_in (Var x i T) inner a) e) [
    | inl there ↦ (let r = before there in (App r.0 (inst_term terms a), reduces-application r.1 BetaReduces.done, (r.2, inl r.3)))
    | inr there ↦ (let r = last there in (App (inst_term terms f) r.0, reduces-application BetaReduces.done r.1, (head-instance inner f firm, inr r.2)))
  ]

  mutual
    -- Steps lead from the instance of a term in which the variable stands to one with such a path.
    standing : (inner k : ℕ) (t : Term) → stands_in (Var x i T) inner t ≡ true → ImageHas k → ComesToFirm false inner k t
    standing inner zero t e h = (inst_term terms t, BetaReduces.done, tt)
    standing inner (suc k) (Abs U b) e h = let body = standing (inner + 1) (suc k) b e h in (Abs U body.0, reduces-body U body.1, body.2)
    standing inner (suc k) (App f a) e h = elim (or-true (term_eq (Var x i T) (front f)) (is_firm_head inner (front f) && (stands_in_arguments (Var x i T) inner f || stands_in (Var x i T) inner a)) e) [
      | inl same ↦ (let here = at-front (suc k) (App f a) (term_eq-same (Var x i T) (front f) same) h in (here.0, here.1, firm-wider true 0 inner (suc k) here.0 (omega arith) here.2))
      | inr inside ↦ (
          let both = and-true (is_firm_head inner (front f)) (stands_in_arguments (Var x i T) inner f || stands_in (Var x i T) inner a) inside in
          let shorter = firm-shorter true 0 k (terms (Var x i T)) h in
          in-application false inner k f a both.0 both.1 (λ there. in-arguments inner k f both.0 there shorter) (λ there. standing inner k a there shorter)
          )
    ]
    standing inner (suc k) (Var y j U) e h = let same = term_eq-same (Var x i T) (Var y j U) e in (terms (Var y j U), BetaReduces.done, rw same at (firm-wider true 0 inner (suc k) (terms (Var x i T)) (omega arith) h))
    standing inner (suc k) (Const c U) e h = false-true e
    standing inner (suc k) (Free y U) e h = false-true e
    standing inner (suc k) (Bound p) e h = false-true e

    in-arguments : (inner k : ℕ) (t : Term) → is_firm_head inner (front t) ≡ true → stands_in_arguments (Var x i T) inner t ≡ true → ImageHas k → ComesToArguments inner k t
    in-arguments inner k (App f a) firm e h = elim (or-true (stands_in_arguments (Var x i T) inner f) (stands_in (Var x i T) inner a) e) [
      | inl before ↦ (let r = in-arguments inner k f firm before h in (App r.0 (inst_term terms a), reduces-application r.1 BetaReduces.done, r.2, inl r.3))
      | inr last ↦ (let r = standing inner k a last h in (App (inst_term terms f) r.0, reduces-application BetaReduces.done r.1, head-instance inner f firm, inr r.2))
    ]
    in-arguments inner k (Abs U b) firm e h = false-true e
    in-arguments inner k (Const c U) firm e h = false-true e
    in-arguments inner k (Free y U) firm e h = false-true e
    in-arguments inner k (Var y j U) firm e h = false-true e
    in-arguments inner k (Bound p) firm e h = false-true e

  no_path : (b : Bool) → (b && false) ≡ true → ⊥
  no_path b e = false-true (and-true b false e).1

  -- The instance of a side in which the variable occurs firmly comes to have a longer path than the image has.
  occurring : (k : ℕ) (t : Term) → occurs_firmly (Var x i T) t ≡ true → ImageHas k → ComesToFirm true 0 (suc k) t
  occurring k (Abs U b) e h = let body = occurring k b e h in (Abs U body.0, reduces-body U body.1, body.2)
  occurring k (App f a) e h = let both = and-true (is_firm_head 0 (front f)) (stands_in_arguments (Var x i T) 0 f || stands_in (Var x i T) 0 a) e in in-application true 0 k f a both.0 both.1 (λ there. in-arguments 0 k f both.0 there h) (λ there. standing 0 k a there h)
  occurring k (Const c U) e h = absurd (no_path true e)
  occurring k (Free y U) e h = absurd (no_path true e)
  occurring k (Var y j U) e h = absurd (no_path false e)
  occurring k (Bound p) e h = absurd (no_path (nat_lt p 0) e)

  module _ (long : IsLongForm (terms (Var x i T)) (terms (Var x i T))) (other : Term) (firm : occurs_firmly (Var x i T) other ≡ true) (h : HasLongForm (inst_term terms other) (terms (Var x i T))) where
    each-path : (k : ℕ) → ImageHas k
    each-path zero = tt
    each-path (suc k) =
        let made = occurring k other firm (each-path k) in
        let joined = beta_steps_are_confluent (inst_term terms other) made.0 h.normal made.1 h.reduces in
        let normal : h.normal ≡ joined.0 = normal-stays joined.2 (has_long-normal (inst_term terms other) (terms (Var x i T)) h) in
        firm-etas (suc k) h.long.reduces h.long.normal (subst (HasFirm true 0 (suc k)) (sym normal) (firm-steps true 0 (suc k) joined.1 made.2))

    pub firm-unsolved : ⊥
    firm-unsolved = let le = firm-bounded true 0 (node_count (terms (Var x i T)) + 1) (terms (Var x i T)) (each-path (node_count (terms (Var x i T)) + 1)) in absurd (omega arith)
