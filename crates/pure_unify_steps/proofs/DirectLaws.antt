-- A pair by which a variable is set to the other side as it stands is treated so.
use Rattle.std.proofs.Common.{◌≡◌, inl, [], Bool, true, false, refl, ap, sym, subst, ◌∙◌, true≢false}
use Rattle.std.specs.Prelude.{◌&&◌}
use Rattle.pure_definitions.specs.Types.Typ.{Typ}
use Rattle.pure_definitions.specs.Terms.Term.{Term, Const, Free, Var, Bound, Abs, App}
use Rattle.pure_definitions.specs.Terms.Bounds.{Occurs}
use Rattle.pure_definitions.specs.Terms.Typing.{HasType}
use Rattle.pure_definitions.specs.Terms.Subst.{TermBind, term_variable}
use Rattle.pure_definitions.specs.Reduction.Eta.{EtaStep, contract, body, function, argument, done, IsEtaNormal, IsEtaNormalForm}
use Rattle.pure_unify_definitions.specs.Fronts.{is_schematic}
use Rattle.pure_unify_definitions.specs.Treatment as rules
use Rattle.pure_unify_definitions.specs.Treatment.{IsBare, left_bare, right_bare, AreOfOneTyp, IsTreatment}
use Rattle.pure_logic.specs.Derivable.{Pair}
use Rattle.pure_unify_nodes.specs.Long.{IsLongSide, IsLongPair}
use Rattle.pure_unify_nodes.specs.OneTyp.{HaveOneTyp}
use Rattle.pure_unify_steps.specs.Direct.{is_plain, is_other_body, is_contracted, IsSetTo}
use Rattle.pure_unify_steps.proofs.BareLaws.{plain_is_none}
use Rattle.pure_unify_steps.proofs.TreatLaws.{set_to, one_typ}

and_left : (a b : Bool) → (a && b) ≡ true → a ≡ true
and_left true b e = refl
and_left false b e = absurd (true≢false (sym e))

and_right : (a b : Bool) → (a && b) ≡ true → b ≡ true
and_right true b e = e
and_right false b e = absurd (true≢false (sym e))

no-step : {t u : Term} → EtaStep t u → is_contracted t ≡ true → ⊥
no-step (contract d) e = true≢false (sym e)
no-step (body {b = b} s) e = no-step s (and_right (is_other_body b) (is_contracted b) e)
no-step (function {f = f} {a = a} s) e = no-step s (and_left (is_contracted f) (is_contracted a) e)
no-step (argument {f = f} {a = a} s) e = no-step s (and_right (is_contracted f) (is_contracted a) e)

contracted-form : (t : Term) → is_contracted t ≡ true → IsEtaNormalForm t t
contracted-form t e = record { reduces = done; normal = λ u s. no-step s e }

schematic-contracted : (v : Term) → is_schematic v ≡ true → is_contracted v ≡ true
schematic-contracted (Const c T) e = refl
schematic-contracted (Free x T) e = refl
schematic-contracted (Var x i T) e = refl
schematic-contracted (Bound p) e = refl
schematic-contracted (Abs T b) e = absurd (true≢false (sym e))
schematic-contracted (App f a) e = absurd (true≢false (sym e))

itself-bare : (v : Term) → is_schematic v ≡ true → IsBare v v
itself-bare v e = record { variable = e; form = contracted-form v (schematic-contracted v e) }

itself-occurs : (t : Term) → Occurs t t
itself-occurs (Const c T) = refl
itself-occurs (Free x T) = refl
itself-occurs (Var x i T) = refl
itself-occurs (Bound p) = refl
itself-occurs (Abs T b) = inl refl
itself-occurs (App f a) = inl refl

of-one : (l r v other : Term) → IsLongSide l → IsLongSide r → HaveOneTyp [] l r → (l ≡ r → v ≡ other) → ¬ Occurs v other → AreOfOneTyp l r
of-one l r v other h k one same n =
    let found = one_typ l r h k one in
    record { differ = λ e. n (subst (λ (t : Term). Occurs v t) (same e) (itself-occurs v)); typ = found.0; left = found.1; right = found.2 }

form-of : (t u : Term) → is_contracted t ≡ true → u ≡ t → IsEtaNormalForm t u
form-of t u e f = subst (λ (x : Term). IsEtaNormalForm t x) (sym f) (contracted-form t e)

left-set_to : (l r : Term) (b : TermBind) → IsLongSide l → IsLongSide r → IsSetTo l r → term_variable b ≡ l → b.image ≡ r → IsTreatment l r (rules.Put b)
left-set_to l r b h k set e f =
    set_to l r l r b (of-one l r l r h k set.typ (λ q. q) set.absent) (left_bare (itself-bare l set.variable) refl) e set.absent (form-of r b.image set.contracted f)

right-set_to : (l r : Term) (b : TermBind) → IsLongSide l → IsLongSide r → is_plain l ≡ true → IsSetTo r l → term_variable b ≡ r → b.image ≡ l → IsTreatment l r (rules.Put b)
right-set_to l r b h k plain set e f =
    set_to l r r l b (of-one l r r l h k (λ T U p q. sym (set.typ U T q p)) (λ q. sym q) set.absent) (right_bare (plain_is_none l plain) (itself-bare r set.variable) refl) e set.absent (form-of l b.image set.contracted f)

-- The left side of the pair is set to the right one.
pub left_set : (p : Pair) (l r : Term) (b : TermBind) → p.left ≡ l → p.right ≡ r → IsLongPair p → IsSetTo l r → term_variable b ≡ l → b.image ≡ r → IsTreatment p.left p.right (rules.Put b)
left_set p l r b e f long set name image =
    let first : IsSetTo p.left r = subst (λ (t : Term). IsSetTo t r) (sym e) set in
    left-set_to p.left p.right b long.0 long.1 (subst (λ (t : Term). IsSetTo p.left t) (sym f) first) (name ∙ sym e) (image ∙ sym f)

-- The right side is set to the left one, which is no bare variable itself.
pub right_set : (p : Pair) (l r : Term) (b : TermBind) → p.left ≡ l → p.right ≡ r → IsLongPair p → is_plain l ≡ true → IsSetTo r l → term_variable b ≡ r → b.image ≡ l → IsTreatment p.left p.right (rules.Put b)
right_set p l r b e f long plain set name image =
    let first : IsSetTo p.right l = subst (λ (t : Term). IsSetTo t l) (sym f) set in
    right-set_to p.left p.right b long.0 long.1 (ap is_plain e ∙ plain) (subst (λ (t : Term). IsSetTo p.right t) (sym e) first) (name ∙ sym f) (image ∙ sym e)
