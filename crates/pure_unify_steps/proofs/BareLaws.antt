-- Bare variables are flexible, and a side is one of them at most.
use Rattle.std.proofs.Common.{◌≡◌, ℕ, zero, ◌+◌, Bool, true, false, refl, ap, sym, subst, ◌∙◌, true≢false, arith}
use Rattle.std.proofs.lemmas.Bool.Decides.{nat_tests}
use Rattle.std.specs.Prelude.{◌-◌, nat_eq, if◌then◌else◌}
use Rattle.pure_definitions.specs.Types.Typ.{Typ, Con, none, also}
use Rattle.pure_definitions.specs.Terms.Term.{Term, Const, Free, Var, Bound, Abs, App}
use Rattle.pure_definitions.specs.Terms.Bounds.{lift_term}
use Rattle.pure_definitions.specs.Reduction.Beta.{IsAbs, IsBetaNormal}
use Rattle.pure_definitions.specs.Reduction.Eta.{EtaStep, contract, body, function, argument, EtaReduces, done, next, IsEtaNormalForm}
use Rattle.pure_definitions.proofs.LiftLaws.{lift_term-bound}
use Rattle.pure_term_laws.proofs.EtaNormalLaws.{one_eta_normal_form}
use Rattle.pure_term_laws.proofs.EtaLaws.{one_long_form}
use Rattle.pure_eta.specs.LongTerm.{expanded}
use Rattle.pure_eta.proofs.LongLaws.{long_form-is}
use Rattle.pure_eta.proofs.FormLaws.{long_form_of_reduct}
use Rattle.pure_eta.proofs.KeptLaws.{steps_keep_beta_normal}
use Rattle.pure_unify_definitions.specs.Fronts.{term_body, front, head, is_schematic, is_flexible}
use Rattle.pure_unify_definitions.specs.Treatment.{IsBare}
use Rattle.pure_unify_nodes.specs.Long.{IsLongSide}
use Rattle.pure_unify_steps.specs.Direct.{is_plain, has_arguments, has_as_many}
use Rattle.pure_unify_steps.specs.Treated.{IsBareAnswer}
use Rattle.std.specs.Prelude.{Option, Some, None}

front-lift : (by from : ℕ) (t : Term) → is_schematic (front t) ≡ true → is_schematic (front (lift_term by from t)) ≡ true
front-lift by from (Const d U) e = e
front-lift by from (Free x U) e = e
front-lift by from (Var x i U) e = e
front-lift by from (Bound p) e = absurd (true≢false (sym e))
front-lift by from (Abs U b) e = absurd (true≢false (sym e))
front-lift by from (App f a) e = front-lift by from f e

no_abs-lift : (by from : ℕ) (t : Term) → ¬ IsAbs (lift_term by from t) → ¬ IsAbs t
no_abs-lift by from (Const d U) n is = is
no_abs-lift by from (Free x U) n is = is
no_abs-lift by from (Var x i U) n is = is
no_abs-lift by from (Bound p) n is = is
no_abs-lift by from (Abs U b) n is = n tt
no_abs-lift by from (App f a) n is = is

body-itself : (t : Term) → ¬ IsAbs t → term_body t ≡ t
body-itself (Const d U) n = refl
body-itself (Free x U) n = refl
body-itself (Var x i U) n = refl
body-itself (Bound p) n = refl
body-itself (Abs U b) n = absurd (n tt)
body-itself (App f a) n = refl

front-step : {t u : Term} → EtaStep t u → ¬ IsAbs t → IsBetaNormal t → is_schematic (front u) ≡ true → is_schematic (front t) ≡ true
front-step (contract e) n m f = absurd (n tt)
front-step (body s) n m f = absurd (n tt)
front-step (function s) n m f = front-step s m.0 m.1 f
front-step (argument s) n m f = f

head-step : {t u : Term} → EtaStep t u → IsBetaNormal t → is_flexible u ≡ true → is_flexible t ≡ true
head-step (contract {f = f} {g = g} e) n h =
    let free : ¬ IsAbs f = no_abs-lift 1 0 f (subst (λ (t : Term). ¬ IsAbs t) e n.0) in
    let own : is_schematic (front f) ≡ true = ap (λ (t : Term). is_schematic (front t)) (sym (body-itself f free)) ∙ h in
    ap (λ (t : Term). is_schematic (front t)) e ∙ front-lift 1 0 f own
head-step (body s) n h = head-step s n h
head-step (function s) n h = front-step s n.0 n.1 h
head-step (argument s) n h = h

head-steps : {t u : Term} → EtaReduces t u → IsBetaNormal t → is_flexible u ≡ true → is_flexible t ≡ true
head-steps done n h = h
head-steps (next {t = t} {u = u} s r) n h = head-step s n (head-steps r (steps_keep_beta_normal t u (next s done) n) h)

schematic-flexible : (w : Term) → is_schematic w ≡ true → is_flexible w ≡ true
schematic-flexible (Const d U) e = e
schematic-flexible (Free x U) e = e
schematic-flexible (Var x i U) e = e
schematic-flexible (Bound p) e = e
schematic-flexible (Abs U b) e = absurd (true≢false (sym e))
schematic-flexible (App f a) e = absurd (true≢false (sym e))

pub rigid_is_none : (t : Term) → IsLongSide t → is_flexible t ≡ false → IsBareAnswer t None
rigid_is_none t long rigid w b = true≢false (sym (head-steps b.form.reduces long.form.normal (schematic-flexible w b.variable)) ∙ rigid)

pub other_is_none : (t form : Term) → IsEtaNormalForm t form → is_schematic form ≡ false → IsBareAnswer t None
other_is_none t form f rigid w b =
    let same : form ≡ w = one_eta_normal_form t form w f b.form in
    true≢false (sym b.variable ∙ (ap is_schematic (sym same) ∙ rigid))

bare-shape : {t w : Term} → EtaReduces t w → is_schematic w ≡ true → ¬ IsAbs t → is_schematic t ≡ true
bare-shape done e n = e
bare-shape (next (contract d) r) e n = absurd (n tt)
bare-shape (next (body s) r) e n = absurd (n tt)
bare-shape (next (function s) r) e n = absurd (true≢false (sym (bare-shape r e (λ x. x))))
bare-shape (next (argument s) r) e n = absurd (true≢false (sym (bare-shape r e (λ x. x))))

-- A side that is neither an abstraction nor a schematic variable is no bare one.
shape_is_none : (t : Term) → ¬ IsAbs t → is_schematic t ≡ false → IsBareAnswer t None
shape_is_none t n e w b = true≢false (sym (bare-shape b.form.reduces b.variable n) ∙ e)

pub plain_is_none : (t : Term) → is_plain t ≡ true → IsBareAnswer t None
plain_is_none (Const d U) e = shape_is_none (Const d U) (λ x. x) refl
plain_is_none (Free x U) e = shape_is_none (Free x U) (λ y. y) refl
plain_is_none (Var x i U) e = absurd (true≢false (sym e))
plain_is_none (Bound p) e = shape_is_none (Bound p) (λ x. x) refl
plain_is_none (Abs U b) e = absurd (true≢false (sym e))
plain_is_none (App f a) e = shape_is_none (App f a) (λ x. x) refl

-- The long form of a variable has as many arguments as abstractions.
arguments-lift : (n by from : ℕ) (t : Term) → has_arguments n (lift_term by from t) ≡ has_arguments n t
arguments-lift n by from (Const d U) = refl
arguments-lift n by from (Free x U) = refl
arguments-lift n by from (Var x i U) = refl
arguments-lift n by from (Bound p) = rw (lift_term-bound by from p) refl
arguments-lift n by from (Abs U b) = refl
arguments-lift n by from (App f a) = ap (λ (b : Bool). if nat_eq n 0 then false else b) (arguments-lift (n - 1) by from f)

as_many-applied : (n : ℕ) (t : Term) → ¬ IsAbs t → has_as_many n t ≡ has_arguments n t
as_many-applied n (Const d U) h = refl
as_many-applied n (Free x U) h = refl
as_many-applied n (Var x i U) h = refl
as_many-applied n (Bound p) h = refl
as_many-applied n (Abs U b) h = absurd (h tt)
as_many-applied n (App f a) h = refl

as_many-expanded : (T : Typ) (u : Term) (n : ℕ) → ¬ IsAbs u → has_arguments n u ≡ true → has_as_many n (expanded T u) ≡ true
as_many-expanded (Con zero (also A (also B none))) u n h e =
    let some : nat_eq (n + 1) 0 ≡ false = grind (arith, nat_tests) in
    let back : (n + 1) - 1 ≡ n = omega arith in
    as_many-expanded B (App (lift_term 1 0 u) (expanded A (Bound 0))) (n + 1) (λ x. x) (rw (some, back) (arguments-lift n 1 0 u ∙ e))
as_many-expanded T u n h e = as_many-applied n u h ∙ e

pub many_is_none : (t : Term) → IsLongSide t → has_as_many 0 t ≡ false → IsBareAnswer t None
many_is_none t long e w b = by w b.variable b.form.reduces
  where
    by : (w : Term) → is_schematic w ≡ true → EtaReduces t w → ⊥
    by (Const d U) s r = true≢false (sym s)
    by (Free x U) s r = true≢false (sym s)
    by (Var x i U) s r =
        let form = long_form_of_reduct t (Var x i U) t long.form r in
        let same : t ≡ expanded U (Var x i U) = one_long_form (Var x i U) t (expanded U (Var x i U)) form (long_form-is (Var x i U) form.typ form.typed tt) in
        true≢false (sym (ap (has_as_many 0) same ∙ as_many-expanded U (Var x i U) 0 (λ y. y) refl) ∙ e)
    by (Bound p) s r = true≢false (sym s)
    by (Abs U c) s r = true≢false (sym s)
    by (App f a) s r = true≢false (sym s)
