-- How large indexes are in what a step hands to the unifier.
use Rattle.std.proofs.Common.{◌≡◌, ℕ, zero, suc, ◌+◌, ◌-◌, ◌≤◌, nat_lt, nat_eq, List, [], ◌∷◌, ◌++◌, length, Bool, true, false, if◌then◌else◌, inl, inr, arith}
use Rattle.std.specs.Prelude.{Option, Some, None, slice_get}
use Rattle.pure_text.specs.Lists.{Each}
use Rattle.pure_definitions.specs.Types.Typ.{Typ, TFree, TVar, Con, Typs, none, also}
use Rattle.pure_definitions.specs.Types.Occurs.{OccursInTyp, OccursInTyps}
use Rattle.pure_definitions.specs.Terms.Term.{Term, Const, Free, Var, Bound, Abs, App}
use Rattle.pure_definitions.specs.Terms.Bounds.{lift_term, place_at, subst_under, Occurs}
use Rattle.pure_definitions.specs.Terms.Subst.{typ_instance, typs_instance, term_instance}
use Rattle.pure_definitions.specs.Reduction.Eta.{IsLongForm}
use Rattle.pure_definitions.proofs.LiftLaws.{lift_term-bound}
use Rattle.pure_term_laws.specs.LawsOccurs.{TypOccurs}
use Rattle.pure_term_laws.proofs.EtaLaws.{one_long_form}
use Rattle.pure_logic.specs.Connectives.{chain, protect}
use Rattle.pure_logic.specs.Derivable.{Pair, Theorem}
use Rattle.pure_logic.specs.Laws.Maps.{raised_typs, raised_terms}
use Rattle.pure_goal_laws.specs.Prefix.{Item, Parameter, Hypothesis, behind, parameters, abstracted, below_parameters}
use Rattle.pure_goal_laws.specs.Lifting.{function_typ, applied_to_bounds, lifted_under, lifted_behind}
use Rattle.pure_goal_steps.specs.Pairs.Smash.{typ_index_above, typs_index_above, term_index_above, pairs_index_above}
use Rattle.pure_eta.specs.LongTerm.{range_typ, front_typ, expanded, expanded_at, long_term}
use Rattle.pure_eta.proofs.LongLaws.{long_form-is}
use Rattle.pure_eta.proofs.KeptLaws.{steps_keep_beta_normal}
use Rattle.pure_goal_steps.specs.State.{State, proposition, theorem_of, greatest_index}
use Rattle.pure_goal_steps.specs.Reading.{Strips, bare, quantified, supposed, IsRuleOf, rule_maxidx}

-- The indexes in the type are at most n.
abbrev mutual
  pub IsTypUpTo : ℕ → Typ → Type 0
  IsTypUpTo n (TFree x s) = Unit {0}
  IsTypUpTo n (TVar x i s) = i ≤ n
  IsTypUpTo n (Con k ts) = AreTypsUpTo n ts

  pub AreTypsUpTo : ℕ → Typs → Type 0
  AreTypsUpTo n none = Unit {0}
  AreTypsUpTo n (also t ts) = IsTypUpTo n t × AreTypsUpTo n ts

-- The indexes in the term are.
abbrev pub IsUpTo : ℕ → Term → Type 0
IsUpTo n (Const c T) = IsTypUpTo n T
IsUpTo n (Free x T) = IsTypUpTo n T
IsUpTo n (Var x i T) = (i ≤ n) × IsTypUpTo n T
IsUpTo n (Bound p) = Unit {0}
IsUpTo n (Abs T b) = IsTypUpTo n T × IsUpTo n b
IsUpTo n (App f a) = IsUpTo n f × IsUpTo n a

mutual
  typ-above : (n : ℕ) (T : Typ) → typ_index_above T ≤ n + 1 → IsTypUpTo n T
  typ-above n (TFree x s) h = tt
  typ-above n (TVar x i s) h = omega (arith, h)
  typ-above n (Con k ts) h = typs-above n ts h

  typs-above : (n : ℕ) (ts : Typs) → typs_index_above ts ≤ n + 1 → AreTypsUpTo n ts
  typs-above n none h = tt
  typs-above n (also t ts) h = (typ-above n t (omega (arith, h)), typs-above n ts (omega (arith, h)))

pub term-above : (n : ℕ) (t : Term) → term_index_above t ≤ n + 1 → IsUpTo n t
term-above n (Const c T) h = typ-above n T h
term-above n (Free x T) h = typ-above n T h
term-above n (Var x i T) h = (omega (arith, h), typ-above n T (omega (arith, h)))
term-above n (Bound p) h = tt
term-above n (Abs T b) h = (typ-above n T (omega (arith, h)), term-above n b (omega (arith, h)))
term-above n (App f a) h = (term-above n f (omega (arith, h)), term-above n a (omega (arith, h)))

mutual
  typ-more : (n m : ℕ) (T : Typ) → n ≤ m → IsTypUpTo n T → IsTypUpTo m T
  typ-more n m (TFree x s) l h = tt
  typ-more n m (TVar x i s) l h = omega (arith, l, h)
  typ-more n m (Con k ts) l h = typs-more n m ts l h

  typs-more : (n m : ℕ) (ts : Typs) → n ≤ m → AreTypsUpTo n ts → AreTypsUpTo m ts
  typs-more n m none l h = tt
  typs-more n m (also t ts) l h = (typ-more n m t l h.0, typs-more n m ts l h.1)

pub term-more : (n m : ℕ) (t : Term) → n ≤ m → IsUpTo n t → IsUpTo m t
term-more n m (Const c T) l h = typ-more n m T l h
term-more n m (Free x T) l h = typ-more n m T l h
term-more n m (Var x i T) l h = (omega (arith, l, h.0), typ-more n m T l h.1)
term-more n m (Bound p) l h = tt
term-more n m (Abs T b) l h = (typ-more n m T l h.0, term-more n m b l h.1)
term-more n m (App f a) l h = (term-more n m f l h.0, term-more n m a l h.1)

-- What it says of each variable in the term.
mutual
  typ-occurring : (n x i : ℕ) (s : List ℕ) (T : Typ) → IsTypUpTo n T → OccursInTyp (TVar x i s) T → i ≤ n
  typ-occurring n x i s (TFree y r) h o = absurd (cc)
  typ-occurring n x i s (TVar y j r) h o = let same : i ≡ j = cc in omega (arith, h, same)
  typ-occurring n x i s (Con k ts) h (inl e) = absurd (cc)
  typ-occurring n x i s (Con k ts) h (inr o) = typs-occurring n x i s ts h o

  typs-occurring : (n x i : ℕ) (s : List ℕ) (ts : Typs) → AreTypsUpTo n ts → OccursInTyps (TVar x i s) ts → i ≤ n
  typs-occurring n x i s none h o = absurd o
  typs-occurring n x i s (also t ts) h (inl o) = typ-occurring n x i s t h.0 o
  typs-occurring n x i s (also t ts) h (inr o) = typs-occurring n x i s ts h.1 o

pub typs_up_to : (n x i : ℕ) (s : List ℕ) (t : Term) → IsUpTo n t → TypOccurs (TVar x i s) t → i ≤ n
typs_up_to n x i s (Const c T) h o = typ-occurring n x i s T h o
typs_up_to n x i s (Free y T) h o = typ-occurring n x i s T h o
typs_up_to n x i s (Var y j T) h o = typ-occurring n x i s T h.1 o
typs_up_to n x i s (Bound p) h o = absurd o
typs_up_to n x i s (Abs T b) h (inl o) = typ-occurring n x i s T h.0 o
typs_up_to n x i s (Abs T b) h (inr o) = typs_up_to n x i s b h.1 o
typs_up_to n x i s (App f a) h (inl o) = typs_up_to n x i s f h.0 o
typs_up_to n x i s (App f a) h (inr o) = typs_up_to n x i s a h.1 o

pub terms_up_to : (n x i : ℕ) (T : Typ) (t : Term) → IsUpTo n t → Occurs (Var x i T) t → i ≤ n
terms_up_to n x i T (Const c U) h o = absurd (cc)
terms_up_to n x i T (Free y U) h o = absurd (cc)
terms_up_to n x i T (Var y j U) h o = let same : i ≡ j = cc in omega (arith, h.0, same)
terms_up_to n x i T (Bound p) h o = absurd (cc)
terms_up_to n x i T (Abs U b) h (inl o) = absurd (cc)
terms_up_to n x i T (Abs U b) h (inr o) = terms_up_to n x i T b h.1 o
terms_up_to n x i T (App f a) h (inl o) = absurd (cc)
terms_up_to n x i T (App f a) h (inr (inl o)) = terms_up_to n x i T f h.0 o
terms_up_to n x i T (App f a) h (inr (inr o)) = terms_up_to n x i T a h.1 o

-- Lifting, and a term put for a bound variable.
up_to-lift : (n by from : ℕ) (t : Term) → IsUpTo n t → IsUpTo n (lift_term by from t)
up_to-lift n by from (Const c T) h = h
up_to-lift n by from (Free x T) h = h
up_to-lift n by from (Var x i T) h = h
up_to-lift n by from (Bound p) h = rw (lift_term-bound by from p) tt
up_to-lift n by from (Abs T b) h = (h.0, up_to-lift n by (from + 1) b h.1)
up_to-lift n by from (App f a) h = (up_to-lift n by from f h.0, up_to-lift n by from a h.1)

up_to-choice : (n : ℕ) (b : Bool) (t u : Term) → IsUpTo n t → IsUpTo n u → IsUpTo n (if b then t else u)
up_to-choice n true t u h k = h
up_to-choice n false t u h k = k

up_to-place : (n k : ℕ) (arg : Term) (p : ℕ) → IsUpTo n arg → IsUpTo n (place_at k arg p)
up_to-place n k arg p h = up_to-choice n (nat_lt p k) (Bound p) (if nat_eq p k then lift_term k 0 arg else Bound (p - 1)) tt (up_to-choice n (nat_eq p k) (lift_term k 0 arg) (Bound (p - 1)) (up_to-lift n k 0 arg h) tt)

up_to-subst : (n k : ℕ) (arg t : Term) → IsUpTo n arg → IsUpTo n t → IsUpTo n (subst_under k arg t)
up_to-subst n k arg (Const c T) h g = g
up_to-subst n k arg (Free x T) h g = g
up_to-subst n k arg (Var x i T) h g = g
up_to-subst n k arg (Bound p) h g = up_to-place n k arg p h
up_to-subst n k arg (Abs T b) h g = (g.0, up_to-subst n (k + 1) arg b h g.1)
up_to-subst n k arg (App f a) h g = (up_to-subst n k arg f h g.0, up_to-subst n k arg a h g.1)

-- Raised indexes.
mutual
  up_to-raised_typ : (n by : ℕ) (T : Typ) → IsTypUpTo n T → IsTypUpTo (n + by) (typ_instance (raised_typs by) T)
  up_to-raised_typ n by (TFree x s) h = tt
  up_to-raised_typ n by (TVar x i s) h = omega (arith, h)
  up_to-raised_typ n by (Con k ts) h = up_to-raised_typs n by ts h

  up_to-raised_typs : (n by : ℕ) (ts : Typs) → AreTypsUpTo n ts → AreTypsUpTo (n + by) (typs_instance (raised_typs by) ts)
  up_to-raised_typs n by none h = tt
  up_to-raised_typs n by (also t ts) h = (up_to-raised_typ n by t h.0, up_to-raised_typs n by ts h.1)

pub up_to-raised : (n by : ℕ) (t : Term) → IsUpTo n t → IsUpTo (n + by) (term_instance (raised_typs by) (raised_terms by) t)
up_to-raised n by (Const c T) h = up_to-raised_typ n by T h
up_to-raised n by (Free x T) h = up_to-raised_typ n by T h
up_to-raised n by (Var x i T) h = (omega (arith, h.0), up_to-raised_typ n by T h.1)
up_to-raised n by (Bound p) h = tt
up_to-raised n by (Abs T b) h = (up_to-raised_typ n by T h.0, up_to-raised n by b h.1)
up_to-raised n by (App f a) h = (up_to-raised n by f h.0, up_to-raised n by a h.1)

-- Fronts stripped.
pub record IsRuleUpTo (n : ℕ) (As : List Term) (B : Term) : Type 0 where
  pub premises : Each (IsUpTo n) As
  pub conclusion : IsUpTo n B

pub up_to-stripped : {n index name : ℕ} {t C : Term} {As : List Term} → index ≤ n → IsUpTo n t → Strips index name t As C → IsRuleUpTo n As C
up_to-stripped l h (bare c) = record { premises = tt; conclusion = h }
up_to-stripped {n = n} {index = index} {name = name} l h (quantified {T = T} {B = B} s) = up_to-stripped l (up_to-subst n 0 (Var name index T) B (l, h.1.0) h.1.1) s
up_to-stripped l h (supposed s) = let rest = up_to-stripped l h.1 s in record { premises = (h.0.1, rest.premises); conclusion = rest.conclusion }

-- Lifted over a prefix, and below its parameters.
up_to-function_typ : (n : ℕ) (Ts : List Typ) (T : Typ) → Each (IsTypUpTo n) Ts → IsTypUpTo n T → IsTypUpTo n (function_typ Ts T)
up_to-function_typ n [] T hs h = h
up_to-function_typ n (V ∷ Vs) T hs h = (hs.0, (up_to-function_typ n Vs T hs.1 h, tt))

up_to-applied : (n count last : ℕ) (f : Term) → IsUpTo n f → IsUpTo n (applied_to_bounds count last f)
up_to-applied n zero last f h = h
up_to-applied n (suc count) last f h = (up_to-applied n count (last + 1) f h, tt)

up_to-lifted : (n : ℕ) (Ts : List Typ) (k : ℕ) (t : Term) → Each (IsTypUpTo n) Ts → IsUpTo n t → IsUpTo n (lifted_under Ts k t)
up_to-lifted n Ts k (Const c T) hs h = h
up_to-lifted n Ts k (Free x T) hs h = h
up_to-lifted n Ts k (Var x i T) hs h = up_to-applied n (length Ts) k (Var x i (function_typ Ts T)) (h.0, up_to-function_typ n Ts T hs h.1)
up_to-lifted n Ts k (Bound p) hs h = tt
up_to-lifted n Ts k (Abs T b) hs h = (h.0, up_to-lifted n Ts (k + 1) b hs h.1)
up_to-lifted n Ts k (App f a) hs h = (up_to-lifted n Ts k f hs h.0, up_to-lifted n Ts k a hs h.1)

pub parameters-up_to : (n : ℕ) (ps : List Item) (C : Term) → IsUpTo n (behind ps C) → Each (IsTypUpTo n) (parameters ps) × IsUpTo n C
parameters-up_to n [] C h = (tt, h)
parameters-up_to n (Parameter T ∷ ps) C h = let rest = parameters-up_to n ps C h.1.1 in ((h.1.0, rest.0), rest.1)
parameters-up_to n (Hypothesis A ∷ ps) C h = parameters-up_to n ps C h.1

up_to-abstracted : (n : ℕ) (Ts : List Typ) (t : Term) → Each (IsTypUpTo n) Ts → IsUpTo n t → IsUpTo n (abstracted Ts t)
up_to-abstracted n [] t hs h = h
up_to-abstracted n (T ∷ Ts) t hs h = (hs.0, up_to-abstracted n Ts t hs.1 h)

pub up_to-below : (n : ℕ) (ps : List Item) (t : Term) → Each (IsTypUpTo n) (parameters ps) → IsUpTo n t → IsUpTo n (below_parameters ps t)
up_to-below n ps t hs h = up_to-abstracted n (parameters ps) t hs h

pub up_to-lifted_behind : (n : ℕ) (ps : List Item) (t : Term) → Each (IsTypUpTo n) (parameters ps) → IsUpTo n t → IsUpTo n (lifted_behind ps t)
up_to-lifted_behind n ps t hs h = up_to-lifted n (parameters ps) 0 t hs h

-- The hypothesis at a place, as it stands behind the whole prefix.
pub standing-up_to : (n : ℕ) (before : List Item) (H : Term) (after : List Item) (C : Term) → IsUpTo n (behind (before ++ Hypothesis H ∷ after) C) → IsUpTo n (lift_term (length (parameters after)) 0 H)
standing-up_to n [] H after C h = up_to-lift n (length (parameters after)) 0 H h.0.1
standing-up_to n (Parameter T ∷ before) H after C h = standing-up_to n before H after C h.1.1
standing-up_to n (Hypothesis A ∷ before) H after C h = standing-up_to n before H after C h.1

-- The parts of a chain.
pub up_to-chain : (n : ℕ) (As : List Term) (G : Term) → IsUpTo n (chain As G) → Each (IsUpTo n) As
up_to-chain n [] G h = tt
up_to-chain n (A ∷ As) G h = (h.0.1, up_to-chain n As G h.1)

-- The long form.
abbrev IsOptionUpTo : ℕ → Option Typ → Type 0
IsOptionUpTo n (Some T) = IsTypUpTo n T
IsOptionUpTo n None = Unit {0}

up_to-range : (n : ℕ) (o : Option Typ) → IsOptionUpTo n o → IsOptionUpTo n (range_typ o)
up_to-range n (Some (Con zero (also A (also B none)))) h = h.1.0
up_to-range n _ h = tt

up_to-binder : (n : ℕ) (bs : List Typ) (p : ℕ) → Each (IsTypUpTo n) bs → IsOptionUpTo n (slice_get bs p)
up_to-binder n [] p h = tt
up_to-binder n (b ∷ bs) zero h = h.0
up_to-binder n (b ∷ bs) (suc p) h = up_to-binder n bs p h.1

up_to-front : (n : ℕ) (bs : List Typ) (t : Term) → Each (IsTypUpTo n) bs → IsUpTo n t → IsOptionUpTo n (front_typ bs t)
up_to-front n bs (Const c T) b h = h
up_to-front n bs (Free x T) b h = h
up_to-front n bs (Var x i T) b h = h.1
up_to-front n bs (Bound p) b h = up_to-binder n bs p b
up_to-front n bs (Abs T u) b h = tt
up_to-front n bs (App f a) b h = up_to-range n (front_typ bs f) (up_to-front n bs f b h.0)

up_to-expanded : (n : ℕ) (T : Typ) (t : Term) → IsTypUpTo n T → IsUpTo n t → IsUpTo n (expanded T t)
up_to-expanded n (Con zero (also A (also B none))) t c h =
    (c.0, up_to-expanded n B (App (lift_term 1 0 t) (expanded A (Bound 0))) c.1.0 (up_to-lift n 1 0 t h, up_to-expanded n A (Bound 0) c.0 tt))
up_to-expanded n T t c h = h

up_to-at : (n : ℕ) (applied : Bool) (o : Option Typ) (t : Term) → IsOptionUpTo n o → IsUpTo n t → IsUpTo n (expanded_at applied o t)
up_to-at n false (Some T) t c h = up_to-expanded n T t c h
up_to-at n applied o t c h = h

up_to-long_term : (n : ℕ) (applied : Bool) (bs : List Typ) (t : Term) → Each (IsTypUpTo n) bs → IsUpTo n t → IsUpTo n (long_term applied bs t)
up_to-long_term n applied bs (Const c T) b h = up_to-at n applied (Some T) (Const c T) h h
up_to-long_term n applied bs (Free x T) b h = up_to-at n applied (Some T) (Free x T) h h
up_to-long_term n applied bs (Var x i T) b h = up_to-at n applied (Some T) (Var x i T) h.1 h
up_to-long_term n applied bs (Bound p) b h = up_to-at n applied (slice_get bs p) (Bound p) (up_to-binder n bs p b) tt
up_to-long_term n applied bs (Abs T u) b h = (h.0, up_to-long_term n false (T ∷ bs) u (h.0, b) h.1)
up_to-long_term n applied bs (App f a) b h =
    up_to-at n applied (front_typ bs (App f a)) (App (long_term true bs f) (long_term false bs a)) (up_to-front n bs (App f a) b h) (up_to-long_term n true bs f b h.0, up_to-long_term n false bs a b h.1)

pub up_to-long_form : (n : ℕ) (t u : Term) → IsLongForm t u → IsUpTo n t → IsUpTo n u
up_to-long_form n t u f h =
    let normal = steps_keep_beta_normal u t f.reduces f.normal in
    let same = one_long_form t u (long_term false [] t) f (long_form-is t f.typ f.typed normal) in
    rw same (up_to-long_term n false [] t tt h)

-- What stands in a goal, and in a fact.
pub goal_up_to : (s : State) → Each (IsUpTo (greatest_index (theorem_of s []))) s.subgoals
goal_up_to s =
    let th : Theorem = theorem_of s [] in
    let n : ℕ = greatest_index th in
    up_to-chain n s.subgoals (protect s.statement) (term-above n (proposition s) (omega arith))

pairs-above : (n : ℕ) (ps : List Pair) → pairs_index_above ps ≤ n + 1 → Each (λ p. IsUpTo n p.left × IsUpTo n p.right) ps
pairs-above n [] h = tt
pairs-above n (p ∷ ps) h = ((term-above n p.left (omega (arith, h)), term-above n p.right (omega (arith, h))), pairs-above n ps (omega (arith, h)))

pub pairs_up_to : (s : State) → Each (λ p. IsUpTo (greatest_index (theorem_of s [])) p.left × IsUpTo (greatest_index (theorem_of s [])) p.right) s.pairs
pairs_up_to s = pairs-above (greatest_index (theorem_of s [])) s.pairs (omega arith)

pub fact_up_to : (fact : Theorem) → IsUpTo (greatest_index fact) fact.prop
fact_up_to fact = term-above (greatest_index fact) fact.prop (omega arith)

-- A rule's premises and conclusion.
pub rule_up_to : (goal fact : Theorem) (As : List Term) (B : Term) → IsRuleOf goal fact As B → IsRuleUpTo (rule_maxidx goal fact) As B
rule_up_to goal fact As B r =
    let by : ℕ = greatest_index goal + 1 in
    let long = up_to-long_form (greatest_index fact) fact.prop r.form r.long (fact_up_to fact) in
    let raised = up_to-raised (greatest_index fact) by r.form long in
    up_to-stripped (omega arith) (term-more (greatest_index fact + by) (rule_maxidx goal fact) (term_instance (raised_typs by) (raised_terms by) r.form) (omega arith) raised) r.strips
