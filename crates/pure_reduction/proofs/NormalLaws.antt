-- Steps lead from each typed term to a normal one. By induction on the size of the type of what is put into a normal term: a redex that comes of that has an argument of a smaller type.
use Rattle.std.proofs.Common.{◌≡◌, ◌⊎◌, ℕ, zero, suc, ◌+◌, ◌≤◌, inl, inr, List, [], ◌∷◌, ◌++◌, length, ap, refl, subst, ◌∙◌, arith}
use Rattle.pure_definitions.specs.Types.Typ.{Typ, arrow, typ_size}
use Rattle.pure_definitions.specs.Terms.Term.{Term, Const, Free, Var, Bound, Abs, App}
use Rattle.pure_definitions.specs.Terms.Bounds.{lift_term, place_at, subst_under}
use Rattle.pure_definitions.specs.Terms.Typing.{HasType}
use Rattle.pure_definitions.specs.Reduction.Beta.{IsAbs, IsBetaNormal}
use Rattle.pure_definitions.proofs.NormalLemmas.{normal-lift}
use Rattle.pure_definitions.proofs.TypsLemmas.{typ_size-some}
use Rattle.pure_term_laws.proofs.MapLaws.{Beside, beside, place-below, place-itself, place-above}
use Rattle.pure_term_laws.proofs.TypingLaws.{typed-once}
use Rattle.pure_term_laws.proofs.TypingBoundLaws.{typing-lift, typing-subst}
use Rattle.pure_reduction.specs.Steps.{BetaStep, BetaReduces}
use Rattle.pure_reduction.specs.LawsSteps.{TypedTermHasBetaNormalForm}
use Rattle.pure_reduction.proofs.StepLaws.{reduces-then, reduces-body, reduces-application, steps_keep_type}

-- Steps lead from t, into which b was made by putting in a term of type U, to a normal term; that one is an abstraction only where b was, or where the type isn't larger than U.
record IsNormalised (t b : Term) (T U : Typ) : Type 0 where
  normal : Term
  reduces : BetaReduces t normal
  is_normal : IsBetaNormal normal
  grown : IsAbs normal → IsAbs b ⊎ (typ_size T ≤ typ_size U)

-- Normal terms of types of this size at most may be put into normal terms.
abbrev MayBePut : ℕ → Type 0
MayBePut k = (bs cs : List Typ) (n : ℕ) (a b : Term) (U T : Typ) → typ_size U ≤ k → n ≡ length bs → HasType cs a U → IsBetaNormal a → HasType (bs ++ U ∷ cs) b T → IsBetaNormal b
    → IsNormalised (subst_under n a b) b T U

-- an application of normal terms, whose function may be an abstraction over a type of this size at most
apply_normal : (k : ℕ) → MayBePut k → (bs : List Typ) (f a : Term) (U T : Typ) → (IsAbs f → typ_size U ≤ k) → HasType bs f (arrow U T) → HasType bs a U → IsBetaNormal f → IsBetaNormal a
    → (v : Term) × BetaReduces (App f a) v × IsBetaNormal v × (IsAbs v → IsAbs f)
apply_normal k put bs (Abs V b) a U T small h g n m =
    let arrows : arrow V h.0 ≡ arrow U T = h.2 in
    let domain : V ≡ U = cc in
    let range : h.0 ≡ T = cc in
    let done = put [] bs 0 a b U T (small tt) refl g m (subst (HasType (U ∷ bs) b) range (subst (λ X. HasType (X ∷ bs) b h.0) domain h.1)) n in
    (done.normal, BetaReduces.next {v = done.normal} (BetaStep.contract refl) done.reduces, done.is_normal, λ is. tt)
apply_normal k put bs f a U T small h g n m = (App f a, BetaReduces.done, ((λ is. is), n, m), λ is. absurd is)

put-bound : (bs cs : List Typ) (n : ℕ) (a : Term) (p : ℕ) (U T : Typ) → n ≡ length bs → HasType cs a U → IsBetaNormal a → HasType (bs ++ U ∷ cs) (Bound p) T → Beside n p
    → IsNormalised (place_at n a p) (Bound p) T U
put-bound bs cs n a p U T e h m g (inl low) = rw (place-below n a p low) (record { normal = Bound p; reduces = BetaReduces.done; is_normal = tt; grown = λ is. absurd is })
put-bound bs cs n a p U T e h m g (inr (inl here)) =
    let place : place_at n a p ≡ lift_term n 0 a = ap (place_at n a) here ∙ place-itself n a in
    let first : HasType (bs ++ cs) (lift_term n 0 a) T = subst (λ x. HasType (bs ++ cs) x T) place (typing-subst bs cs n a (Bound p) U T e h g) in
    let second : HasType (bs ++ cs) (lift_term n 0 a) U = typing-lift [] bs cs 0 n a U refl e h in
    let same : T ≡ U = typed-once (bs ++ cs) (lift_term n 0 a) T U first second in
    let sizes : typ_size T ≡ typ_size U = ap typ_size same in
    rw place (record { normal = lift_term n 0 a; reduces = BetaReduces.done; is_normal = normal-lift n 0 a m; grown = λ is. inr (omega arith) })
put-bound bs cs n a p U T e h m g (inr (inr (q, above, high))) =
    let place : place_at n a p ≡ Bound q = ap (place_at n a) above ∙ place-above n a q high in
    rw place (record { normal = Bound q; reduces = BetaReduces.done; is_normal = tt; grown = λ is. absurd is })

-- an application of what its parts became
put-application : (k : ℕ) → MayBePut k → (bs : List Typ) (f g x y : Term) (W T U : Typ) → typ_size U ≤ suc k → ¬ IsAbs g → HasType bs f (arrow W T) → HasType bs x W
    → IsNormalised f g (arrow W T) U → IsNormalised x y W U → IsNormalised (App f x) (App g y) T U
put-application k put bs f g x y W T U le applied h i r s =
    let some = typ_size-some W in
    let small : IsAbs r.normal → typ_size (arrow W T) ≤ typ_size U = λ is. elim (r.grown is) [ inl abs ↦ absurd (applied abs) | inr less ↦ less ] in
    let function = steps_keep_type bs f r.normal (arrow W T) r.reduces h in
    let argument = steps_keep_type bs x s.normal W s.reduces i in
    let whole = apply_normal k put bs r.normal s.normal W T (λ is. (let less = small is in omega arith)) function argument r.is_normal s.is_normal in
    record {
      normal = whole.0;
      reduces = reduces-then (reduces-application r.reduces s.reduces) whole.1;
      is_normal = whole.2;
      grown = λ is. (let less = small (whole.3 is) in inr (omega arith));
    }

put-next : (k : ℕ) → MayBePut k → MayBePut (suc k)
put-next k put bs cs n a (Const c V) U T le e h m g l = record { normal = Const c V; reduces = BetaReduces.done; is_normal = tt; grown = λ is. absurd is }
put-next k put bs cs n a (Free x V) U T le e h m g l = record { normal = Free x V; reduces = BetaReduces.done; is_normal = tt; grown = λ is. absurd is }
put-next k put bs cs n a (Var x i V) U T le e h m g l = record { normal = Var x i V; reduces = BetaReduces.done; is_normal = tt; grown = λ is. absurd is }
put-next k put bs cs n a (Bound p) U T le e h m g l = put-bound bs cs n a p U T e h m g (beside n p)
put-next k put bs cs n a (Abs V b) U T le e h m g l =
    let r = put-next k put (V ∷ bs) cs (n + 1) a b U g.0 le (omega arith) h m g.1 l in
    record { normal = Abs V r.normal; reduces = reduces-body V r.reduces; is_normal = r.is_normal; grown = λ is. inl tt }
put-next k put bs cs n a (App f x) U T le e h m g l =
    put-application k put (bs ++ cs) (subst_under n a f) f (subst_under n a x) x g.0 T U le l.0
    (typing-subst bs cs n a f U (arrow g.0 T) e h g.1) (typing-subst bs cs n a x U g.0 e h g.2)
    (put-next k put bs cs n a f U (arrow g.0 T) le e h m g.1 l.1) (put-next k put bs cs n a x U g.0 le e h m g.2 l.2)

-- No type has size 0.
put-first : MayBePut 0
put-first bs cs n a b U T le e h m g l = let some = typ_size-some U in absurd (omega arith)

may_be_put : (k : ℕ) → MayBePut k
may_be_put zero = put-first
may_be_put (suc k) = put-next k (may_be_put k)

pub typed_term_has_beta_normal_form : TypedTermHasBetaNormalForm
typed_term_has_beta_normal_form bs (Const c V) T h = (Const c V, BetaReduces.done, tt)
typed_term_has_beta_normal_form bs (Free x V) T h = (Free x V, BetaReduces.done, tt)
typed_term_has_beta_normal_form bs (Var x i V) T h = (Var x i V, BetaReduces.done, tt)
typed_term_has_beta_normal_form bs (Bound p) T h = (Bound p, BetaReduces.done, tt)
typed_term_has_beta_normal_form bs (Abs V b) T h = let r = typed_term_has_beta_normal_form (V ∷ bs) b h.0 h.1 in (Abs V r.0, reduces-body V r.1, r.2)
typed_term_has_beta_normal_form bs (App f a) T h =
    let r = typed_term_has_beta_normal_form bs f (arrow h.0 T) h.1 in
    let s = typed_term_has_beta_normal_form bs a h.0 h.2 in
    let function = steps_keep_type bs f r.0 (arrow h.0 T) r.1 h.1 in
    let argument = steps_keep_type bs a s.0 h.0 s.1 h.2 in
    let whole = apply_normal (typ_size h.0) (may_be_put (typ_size h.0)) bs r.0 s.0 h.0 T (λ is. omega arith) function argument r.2 s.2 in
    (whole.0, reduces-then (reduces-application r.1 s.1) whole.1, whole.2)
