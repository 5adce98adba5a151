-- Eta reduction, and that a term has one long form.
use Rattle.std.proofs.Common.{◌≡◌, ℕ, ◌+◌, ◌≤◌, true, List, [], ◌∷◌, ap, refl, sym, ◌∙◌, arith, nat_lt}
use Rattle.std.proofs.lemmas.Bool.{lt-ltb}
use Rattle.std.proofs.lemmas.Bool.Decides.{nat_tests}
use Rattle.pure_definitions.specs.Types.Typ.{Typ, arrow}
use Rattle.pure_definitions.specs.Terms.Term.{Term, Const, Free, Var, Bound, Abs, App}
use Rattle.pure_definitions.specs.Terms.Bounds.{lift_term}
use Rattle.pure_definitions.specs.Terms.Typing.{HasType}
use Rattle.pure_definitions.specs.Reduction.Beta.{IsAbs, IsBetaNormal}
use Rattle.pure_definitions.specs.Reduction.Eta.{EtaStep, EtaReduces, IsEtaNormal, abstraction_count, arrow_count, IsSaturated, HasSaturatedParts, IsLongForm}
use Rattle.pure_term_laws.specs.LawsExamples.{i as typ_i, f as const_f, p as const_p}
use Rattle.pure_term_laws.specs.LawsNormal.{EtaExample, LongFormExample, OneLongForm, TwoArrowsExample}
use Rattle.pure_term_laws.proofs.TypingLaws.{typed-once}
use Rattle.pure_definitions.proofs.NormalLemmas.{normal-unlift}
use Rattle.pure_definitions.proofs.LiftLaws.{lift-lift, lifted, lift_term-bound}

-- The first term reduces to the second by eta steps, by recursion on the first: its parts reduce, and then an abstraction may be contracted.
pub data Contracts : Term → Term → Type 0 where
  constant : {c : ℕ} {T : Typ} → Contracts (Const c T) (Const c T)
  fixed : {x : ℕ} {T : Typ} → Contracts (Free x T) (Free x T)
  schematic : {x i : ℕ} {T : Typ} → Contracts (Var x i T) (Var x i T)
  bound : {n : ℕ} → Contracts (Bound n) (Bound n)
  under : {T : Typ} {b c : Term} → Contracts b c → Contracts (Abs T b) (Abs T c)
  applied : {f g a b : Term} → Contracts f g → Contracts a b → Contracts (App f a) (App g b)
  contracted : {T : Typ} {b f g : Term} → Contracts b (App g (Bound 0)) → g ≡ lift_term 1 0 f → Contracts (Abs T b) f

contracts-itself : (t : Term) → Contracts t t
contracts-itself (Const c T) = constant
contracts-itself (Free x T) = fixed
contracts-itself (Var x i T) = schematic
contracts-itself (Bound n) = bound
contracts-itself (Abs T b) = under (contracts-itself b)
contracts-itself (App f a) = applied (contracts-itself f) (contracts-itself a)

contracts-lift : (by from : ℕ) {t u : Term} → Contracts t u → Contracts (lift_term by from t) (lift_term by from u)
contracts-lift by from constant = constant
contracts-lift by from fixed = fixed
contracts-lift by from schematic = schematic
contracts-lift by from (bound {n = n}) = contracts-itself (lift_term by from (Bound n))
contracts-lift by from (under h) = under (contracts-lift by (from + 1) h)
contracts-lift by from (applied h k) = applied (contracts-lift by from h) (contracts-lift by from k)
contracts-lift by from (contracted {f = f} {g = g} h e) =
    let own : nat_lt 0 (from + 1) ≡ true = lt-ltb 0 (from + 1) (omega arith) in
    let body = rw own at (contracts-lift by (from + 1) h) in
    contracted body (ap (lift_term by (from + 1)) e ∙ sym (lift-lift by 1 0 from f (omega arith)))

step-contracts : {t u v : Term} → EtaStep t u → Contracts u v → Contracts t v
step-contracts {v = v} (EtaStep.contract {f = f} {g = g} e) h = contracted (applied (rw e (contracts-lift 1 0 h)) bound) refl
step-contracts (EtaStep.body s) (under h) = under (step-contracts s h)
step-contracts (EtaStep.body s) (contracted h e) = contracted (step-contracts s h) e
step-contracts (EtaStep.function s) (applied h k) = applied (step-contracts s h) k
step-contracts (EtaStep.argument s) (applied h k) = applied h (step-contracts s k)

pub reduces-contracts : {t u : Term} → EtaReduces t u → Contracts t u
reduces-contracts (EtaReduces.done {t = t}) = contracts-itself t
reduces-contracts (EtaReduces.next s r) = step-contracts s (reduces-contracts r)

-- What contracts to an abstraction is one.
abstraction-contracts : {t u : Term} → Contracts t u → IsAbs u → IsAbs t
abstraction-contracts constant h = h
abstraction-contracts fixed h = h
abstraction-contracts schematic h = h
abstraction-contracts bound h = h
abstraction-contracts (under k) h = tt
abstraction-contracts (applied k l) h = h
abstraction-contracts (contracted k e) h = tt

contracts-normal : {t u : Term} → Contracts t u → IsBetaNormal t → IsBetaNormal u
contracts-normal constant n = n
contracts-normal fixed n = n
contracts-normal schematic n = n
contracts-normal bound n = n
contracts-normal (under h) n = contracts-normal h n
contracts-normal (applied h k) n = ((λ abs. n.0 (abstraction-contracts h abs)), contracts-normal h n.1, contracts-normal k n.2)
contracts-normal (contracted {f = f} h e) n = let whole = contracts-normal h n in normal-unlift 1 0 f (rw e at whole.1)

-- Two terms are of one type, with as many abstractions as its arrows; or both are applied, and no abstractions.
data AreAlike (bs : List Typ) (t u : Term) : Type 0 where
  long : (T : Typ) → HasType bs t T → HasType bs u T → abstraction_count t ≡ arrow_count T → abstraction_count u ≡ arrow_count T → AreAlike bs t u
  heads : (T U : Typ) → HasType bs t T → HasType bs u U → ¬ IsAbs t → ¬ IsAbs u → AreAlike bs t u

abstraction-counted : (t : Term) → IsAbs t → 1 ≤ abstraction_count t
abstraction-counted (Abs T b) h = omega arith
abstraction-counted (Const c T) h = absurd h
abstraction-counted (Free x T) h = absurd h
abstraction-counted (Var x i T) h = absurd h
abstraction-counted (Bound n) h = absurd h
abstraction-counted (App f a) h = absurd h

counted-abstraction : (t : Term) → 1 ≤ abstraction_count t → IsAbs t
counted-abstraction (Abs T b) h = tt
counted-abstraction (Const c T) h = absurd (omega arith)
counted-abstraction (Free x T) h = absurd (omega arith)
counted-abstraction (Var x i T) h = absurd (omega arith)
counted-abstraction (Bound n) h = absurd (omega arith)
counted-abstraction (App f a) h = absurd (omega arith)

alike-abstraction : {bs : List Typ} {t u : Term} → AreAlike bs t u → IsAbs t → IsAbs u
alike-abstraction {t = t} {u = u} (long T h k n m) abs = let counted = abstraction-counted t abs in counted-abstraction u (omega arith)
alike-abstraction (heads T U h k n m) abs = absurd (n abs)

alike-swap : {bs : List Typ} {t u : Term} → AreAlike bs t u → AreAlike bs u t
alike-swap (long T h k n m) = long T k h m n
alike-swap (heads T U h k n m) = heads U T k h m n

-- the types of two abstractions that are alike
alike-bodies : {bs : List Typ} {T U : Typ} {b c : Term} → AreAlike bs (Abs T b) (Abs U c) → IsSaturated (T ∷ bs) b → IsSaturated (U ∷ bs) c → (T ≡ U) × AreAlike (T ∷ bs) b c
alike-bodies (heads V W h k n m) s r = absurd (n tt)
alike-bodies {bs = bs} {T = T} {U = U} {b = b} {c = c} (long V h k n m) s r =
    let arrows : arrow T h.0 ≡ arrow U k.0 = h.2 ∙ sym k.2 in
    let domains : T ≡ U = cc in
    let ranges : h.0 ≡ k.0 = cc in
    let first : s.0 ≡ h.0 = typed-once (T ∷ bs) b s.0 h.0 s.1 h.1 in
    let second : r.0 ≡ h.0 = typed-once (U ∷ bs) c r.0 k.0 r.1 k.1 ∙ sym ranges in
    let same : s.0 ≡ r.0 = first ∙ sym second in
    (domains, long s.0 s.1 (rw (domains, same) r.1) s.2 (rw same r.2))

alike-typed : {bs : List Typ} {t u : Term} → AreAlike bs t u → ((T : Typ) × HasType bs t T) × ((U : Typ) × HasType bs u U)
alike-typed (long T h k n m) = ((T, h), (T, k))
alike-typed (heads T U h k n m) = ((T, h), (U, k))

saturated-alike : (bs : List Typ) (t u : Term) (T U : Typ) → HasType bs t T → HasType bs u U → T ≡ U → IsSaturated bs t → IsSaturated bs u → AreAlike bs t u
saturated-alike bs t u T U h k e s r =
    let first : s.0 ≡ T = typed-once bs t s.0 T s.1 h in
    let second : r.0 ≡ U = typed-once bs u r.0 U r.1 k in
    let same : s.0 ≡ r.0 = first ∙ e ∙ sym second in
    long s.0 s.1 (rw same r.1) s.2 (rw same r.2)

domains_same : (bs : List Typ) (f g : Term) (T U V W : Typ) → f ≡ g → HasType bs f (arrow T V) → HasType bs g (arrow U W) → T ≡ U
domains_same bs f g T U V W e h k = let arrows : arrow T V ≡ arrow U W = typed-once bs g (arrow T V) (arrow U W) (rw e at h) k in cc

long-once : (bs : List Typ) {t u v : Term} → Contracts t v → Contracts u v → AreAlike bs t u → HasSaturatedParts bs t → HasSaturatedParts bs u → IsBetaNormal t → IsBetaNormal u → t ≡ u
long-once bs constant constant a p q n m = refl
long-once bs constant (contracted k e) a p q n m = absurd (alike-abstraction (alike-swap a) tt)
long-once bs fixed fixed a p q n m = refl
long-once bs fixed (contracted k e) a p q n m = absurd (alike-abstraction (alike-swap a) tt)
long-once bs schematic schematic a p q n m = refl
long-once bs schematic (contracted k e) a p q n m = absurd (alike-abstraction (alike-swap a) tt)
long-once bs bound bound a p q n m = refl
long-once bs bound (contracted k e) a p q n m = absurd (alike-abstraction (alike-swap a) tt)
long-once bs (under {T = T} h) (under k) a p q n m = ap (Abs T) (long-once (T ∷ bs) h k (alike-bodies a p.0 q.0).1 p.1 q.1 n m)
long-once bs (under h) (contracted k e) a p q n m = absurd ((contracts-normal k m).0 (rw e tt))
long-once bs (applied {f = f} {g = head} {a = x} {b = end} h k) (applied {f = g} {a = y} h' k') a p q n m =
    let typed = alike-typed a in
    let heads_same = long-once bs h h' (heads (arrow typed.0.1.0 typed.0.0) (arrow typed.1.1.0 typed.1.0) typed.0.1.1 typed.1.1.1 n.0 m.0) p.0 q.0 n.1 m.1 in
    let domains = domains_same bs f g typed.0.1.0 typed.1.1.0 typed.0.0 typed.1.0 heads_same typed.0.1.1 typed.1.1.1 in
    let arguments_same = long-once bs k k' (saturated-alike bs x y typed.0.1.0 typed.1.1.0 typed.0.1.2 typed.1.1.2 domains p.1 q.1) p.2 q.2 n.2 m.2 in
    λ l. App (heads_same l) (arguments_same l)
long-once bs (applied h k) (contracted k' e) a p q n m = absurd (alike-abstraction (alike-swap a) tt)
long-once bs (contracted {T = T} {b = b} {g = g} h e) (contracted {T = U} {b = c} {g = g'} k e') a p q n m =
    let bodies = alike-bodies a p.0 q.0 in
    let same : g ≡ g' = e ∙ sym e' in
    let domains = bodies.0 in
    let whole : b ≡ c = long-once (T ∷ bs) h (rw same k) bodies.1 p.1 (rw domains q.1) n m in
    λ l. Abs (domains l) (whole l)
long-once bs (contracted h e) (under k) a p q n m = absurd ((contracts-normal h n).0 (rw e tt))
long-once bs (contracted h e) constant a p q n m = absurd (alike-abstraction a tt)
long-once bs (contracted h e) fixed a p q n m = absurd (alike-abstraction a tt)
long-once bs (contracted h e) schematic a p q n m = absurd (alike-abstraction a tt)
long-once bs (contracted h e) bound a p q n m = absurd (alike-abstraction a tt)
long-once bs (contracted h e) (applied k l) a p q n m = absurd (alike-abstraction a tt)

pub one_long_form : OneLongForm
one_long_form t u v h k =
    let types = typed-once [] t h.typ k.typ h.typed k.typed in
    long-once [] (reduces-contracts h.reduces) (reduces-contracts k.reduces) (saturated-alike [] u v h.typ k.typ h.long_typed k.long_typed types h.saturated k.saturated) h.parts k.parts h.normal k.normal

abbrev expanded_f : Term
expanded_f = Abs typ_i (App const_f (Bound 0))

reduces-f : EtaReduces expanded_f const_f
reduces-f = EtaReduces.next (EtaStep.contract refl) EtaReduces.done

constant-eta_normal : (c : ℕ) (T : Typ) → IsEtaNormal (Const c T)
constant-eta_normal c T u h = elim h [ ]

not_lifted : (p : ℕ) → ¬ (0 ≡ lifted 1 0 p)
not_lifted p e = grind (arith, nat_tests)

-- No term lifted by 1 from 0 is bound variable 0.
bound_0-not_lifted : (t : Term) → ¬ (Bound 0 ≡ lift_term 1 0 t)
bound_0-not_lifted (Bound p) e = let places : Bound 0 ≡ Bound (lifted 1 0 p) = e ∙ lift_term-bound 1 0 p in let same : 0 ≡ lifted 1 0 p = cc in not_lifted p same
bound_0-not_lifted (Const c T) e = cc
bound_0-not_lifted (Free x T) e = cc
bound_0-not_lifted (Var x i T) e = cc
bound_0-not_lifted (Abs T b) e = cc
bound_0-not_lifted (App f a) e = cc

self_applied-eta_normal : (T : Typ) → IsEtaNormal (Abs T (App (Bound 0) (Bound 0)))
self_applied-eta_normal T u (EtaStep.contract e) = bound_0-not_lifted u e
self_applied-eta_normal T u (EtaStep.body (EtaStep.function h)) = elim h [ ]
self_applied-eta_normal T u (EtaStep.body (EtaStep.argument h)) = elim h [ ]

pub eta_example : EtaExample
eta_example = (record { reduces = reduces-f; normal = constant-eta_normal 31 (arrow typ_i typ_i) }, self_applied-eta_normal typ_i)

typed_f : HasType [] expanded_f (arrow typ_i typ_i)
typed_f = (typ_i, (typ_i, refl, refl), refl)

saturated_f : IsSaturated [] expanded_f
saturated_f = (arrow typ_i typ_i, typed_f, refl)

parts_f : HasSaturatedParts [] expanded_f
parts_f = ((typ_i, (typ_i, refl, refl), refl), (tt, (typ_i, refl, refl), tt))

normal_f : IsBetaNormal expanded_f
normal_f = ((λ x. x), tt, tt)

pub long_form_example : LongFormExample
long_form_example = (
  record { typ = arrow typ_i typ_i; typed = refl; long_typed = typed_f; reduces = reduces-f; normal = normal_f; saturated = saturated_f; parts = parts_f },
  record { typ = arrow typ_i typ_i; typed = typed_f; long_typed = typed_f; reduces = EtaReduces.done; normal = normal_f; saturated = saturated_f; parts = parts_f },
  not_long,
)
  where
    not_long : ¬ IsLongForm const_f const_f
    not_long h =
        let same : arrow typ_i typ_i ≡ h.saturated.0 = h.saturated.1 in
        let count : ◌≡◌ {A = ℕ} 0 1 = h.saturated.2 ∙ ap arrow_count (sym same) in
        absurd (omega arith)

abbrev expanded_p : Term
expanded_p = Abs typ_i (Abs typ_i (App (App const_p (Bound 1)) (Bound 0)))

typed_p : HasType [] expanded_p (arrow typ_i (arrow typ_i typ_i))
typed_p = (arrow typ_i typ_i, (typ_i, (typ_i, (typ_i, refl, refl), refl), refl), refl)

pub two_arrows_example : TwoArrowsExample
two_arrows_example = (
  record {
    typ = arrow typ_i (arrow typ_i typ_i);
    typed = refl;
    long_typed = typed_p;
    reduces = EtaReduces.next (EtaStep.body (EtaStep.contract {f = App const_p (Bound 0)} refl)) (EtaReduces.next (EtaStep.contract refl) EtaReduces.done);
    normal = ((λ x. x), ((λ x. x), tt, tt), tt);
    saturated = (arrow typ_i (arrow typ_i typ_i), typed_p, refl);
    parts = ((arrow typ_i typ_i, (typ_i, (typ_i, (typ_i, refl, refl), refl), refl), refl), ((typ_i, (typ_i, (typ_i, refl, refl), refl), refl), ((tt, (typ_i, refl, refl), tt), (typ_i, refl, refl), tt)));
  },
  not_long,
)
  where
    not_long : ¬ IsLongForm const_p (Abs typ_i (App const_p (Bound 0)))
    not_long h =
        let same : arrow typ_i (arrow typ_i typ_i) ≡ h.saturated.0 = typed-once [] const_p (arrow typ_i (arrow typ_i typ_i)) h.typ refl h.typed ∙ typed-once [] (Abs typ_i (App const_p (Bound 0))) h.typ h.saturated.0 h.long_typed h.saturated.1 in
        let count : ◌≡◌ {A = ℕ} 1 2 = h.saturated.2 ∙ ap arrow_count (sym same) in
        absurd (omega arith)
