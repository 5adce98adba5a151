-- Sides in long form: their abstractions, their heads and their arguments.
use Rattle.std.proofs.Common.{◌≡◌, ℕ, zero, suc, ◌+◌, List, [], ◌∷◌, true, false, ap, refl, sym, ◌∙◌, arith}
use Rattle.pure_text.specs.Lists.{Each}
use Rattle.pure_text.proofs.ListLaws.{each-append}
use Rattle.pure_definitions.specs.Types.Typ.{Typ, Con, none, also, arrow}
use Rattle.pure_definitions.specs.Terms.Term.{Term, Const, Free, Var, Bound, Abs, App}
use Rattle.pure_definitions.specs.Terms.Typing.{HasType}
use Rattle.pure_definitions.specs.Reduction.Beta.{IsAbs, IsBetaNormal}
use Rattle.pure_definitions.specs.Reduction.Eta.{EtaReduces, abstraction_count, arrow_count, HasSaturatedParts, IsLongForm}
use Rattle.pure_term_laws.proofs.TypingLaws.{typed-once}
use Rattle.pure_eta.proofs.LongLaws.{IsLong}
use Rattle.pure_logic.specs.Derivable.{Pair}
use Rattle.pure_unify_definitions.specs.Fronts.{abstractions, term_body, front, arguments, head, is_schematic, below, domains, pairs_below, argument_pairs}

-- a term in long form, under binders
abbrev pub IsLongIn : List Typ → Term → Type 0
IsLongIn bs t = (T : Typ) × IsLong bs t t T

-- both sides of a pair are in long form
abbrev pub IsLongPair : Pair → Type 0
IsLongPair p = IsLongIn [] p.left × IsLongIn [] p.right

pub own-long : (bs : List Typ) (t : Term) (T : Typ) → HasType bs t T → IsBetaNormal t → abstraction_count t ≡ arrow_count T → HasSaturatedParts bs t → IsLong bs t t T
own-long bs t T h n c p = record { typed = h; reduces = EtaReduces.done; normal = n; count = c; parts = p }

pub long_form-long : (t u : Term) → IsLongForm t u → IsLongIn [] u
long_form-long t u h =
    let same : h.saturated.0 ≡ h.typ = typed-once [] u h.saturated.0 h.typ h.saturated.1 h.long_typed in
    (h.typ, own-long [] u h.typ h.long_typed h.normal (h.saturated.2 ∙ ap arrow_count same) h.parts)

close : (bs : List Typ) (V : Typ) (b : Term) → IsLongIn (V ∷ bs) b → IsLongIn bs (Abs V b)
close bs V b (T, h) = (arrow V T, own-long bs (Abs V b) (arrow V T) (T, h.typed, refl) h.normal (ap (λ n. 1 + n) h.count) ((T, h.typed, h.count), h.parts))

pub spine-long : (bs : List Typ) (t : Term) → HasSaturatedParts bs t → IsBetaNormal t → Each (IsLongIn bs) (arguments t)
spine-long bs (App f a) p n = each-append (IsLongIn bs) (arguments f) (a ∷ []) (spine-long bs f p.0 n.1) ((p.1.0, own-long bs a p.1.0 p.1.1 n.2 p.1.2 p.2), tt)
spine-long bs (Const c T) p n = tt
spine-long bs (Free x T) p n = tt
spine-long bs (Var x i T) p n = tt
spine-long bs (Bound q) p n = tt
spine-long bs (Abs T b) p n = tt

close-each : (bs : List Typ) (V : Typ) (Ts : List Typ) (ts : List Term) → Each (λ a. IsLongIn (V ∷ bs) (below Ts a)) ts → Each (λ a. IsLongIn bs (below (V ∷ Ts) a)) ts
close-each bs V Ts [] h = tt
close-each bs V Ts (t ∷ ts) h = (close bs V (below Ts t) h.0, close-each bs V Ts ts h.1)

pub arguments-long : (bs : List Typ) (t : Term) → HasSaturatedParts bs t → IsBetaNormal t → Each (λ a. IsLongIn bs (below (abstractions t) a)) (arguments (term_body t))
arguments-long bs (Abs V b) p n = close-each bs V (abstractions b) (arguments (term_body b)) (arguments-long (V ∷ bs) b p.1 n)
arguments-long bs (App f a) p n = spine-long bs (App f a) p n
arguments-long bs (Const c T) p n = tt
arguments-long bs (Free x T) p n = tt
arguments-long bs (Var x i T) p n = tt
arguments-long bs (Bound q) p n = tt

below-long : (Ts Us : List Typ) (ts us : List Term) → Each (λ a. IsLongIn [] (below Ts a)) ts → Each (λ a. IsLongIn [] (below Us a)) us → Each IsLongPair (pairs_below Ts Us ts us)
below-long Ts Us [] us h k = tt
below-long Ts Us (t ∷ ts) [] h k = tt
below-long Ts Us (t ∷ ts) (u ∷ us) h k = ((h.0, k.0), below-long Ts Us ts us h.1 k.1)

-- The pairs of arguments of long sides have long sides.
pub argument_pairs-long : (p : Pair) → IsLongPair p → Each IsLongPair (argument_pairs p.left p.right)
argument_pairs-long p ((T, h), (U, k)) =
    below-long (abstractions p.left) (abstractions p.right) (arguments (term_body p.left)) (arguments (term_body p.right)) (arguments-long [] p.left h.parts h.normal) (arguments-long [] p.right k.parts k.normal)

-- What has one abstraction more is one.
pub opened : (n : ℕ) (t : Term) → abstraction_count t ≡ suc n → (T : Typ) × (b : Term) × (t ≡ Abs T b) × (abstraction_count b ≡ n)
opened n (Const c T) e = absurd (omega arith)
opened n (Free x T) e = absurd (omega arith)
opened n (Var x i T) e = absurd (omega arith)
opened n (Bound p) e = absurd (omega arith)
opened n (Abs T b) e = (T, b, refl, omega arith)
opened n (App f a) e = absurd (omega arith)

-- A type with no arrows takes no arguments.
pub no_domains : (T : Typ) → arrow_count T ≡ 0 → domains T ≡ []
no_domains (Con zero (also A (also B none))) e = absurd (omega arith)
no_domains T e = refl

none_here : (t : Term) (T : Typ) → abstractions t ≡ [] → 0 ≡ arrow_count T → abstractions t ≡ domains T
none_here t T e c = e ∙ sym (no_domains T (sym c))

-- A long term's abstractions are those of its type.
pub abstractions-domains : (bs : List Typ) (t : Term) (T : Typ) → HasSaturatedParts bs t → HasType bs t T → abstraction_count t ≡ arrow_count T → abstractions t ≡ domains T
abstractions-domains bs (Abs V b) T p h c =
    let inner : p.0.0 ≡ h.0 = typed-once (V ∷ bs) b p.0.0 h.0 p.0.1 h.1 in
    let rest = abstractions-domains (V ∷ bs) b h.0 p.1 h.1 (p.0.2 ∙ ap arrow_count inner) in
    ap (λ Ts. V ∷ Ts) rest ∙ ap domains h.2
abstractions-domains bs (Const c U) T p h e = none_here (Const c U) T refl e
abstractions-domains bs (Free x U) T p h e = none_here (Free x U) T refl e
abstractions-domains bs (Var x i U) T p h e = none_here (Var x i U) T refl e
abstractions-domains bs (Bound q) T p h e = none_here (Bound q) T refl e
abstractions-domains bs (App f a) T p h e = none_here (App f a) T refl e

-- A constant, a fixed or a bound variable: what a rigid side has for its head.
abbrev pub IsRigidHead : Term → Type 0
IsRigidHead (Const c T) = Unit {0}
IsRigidHead (Free x T) = Unit {0}
IsRigidHead (Bound p) = Unit {0}
IsRigidHead _ = ⊥

true-false : true ≡ false → ⊥
true-false e = cc

front-rigid : (t : Term) → IsBetaNormal t → ¬ IsAbs t → is_schematic (front t) ≡ false → IsRigidHead (front t)
front-rigid (App f a) n o e = front-rigid f n.1 n.0 e
front-rigid (Abs T b) n o e = absurd (o tt)
front-rigid (Var x i T) n o e = true-false e
front-rigid (Const c T) n o e = tt
front-rigid (Free x T) n o e = tt
front-rigid (Bound p) n o e = tt

pub head-rigid : (t : Term) → IsBetaNormal t → is_schematic (head t) ≡ false → IsRigidHead (head t)
head-rigid (Abs T b) n e = head-rigid b n e
head-rigid (App f a) n e = front-rigid (App f a) n (λ x. x) e
head-rigid (Var x i T) n e = true-false e
head-rigid (Const c T) n e = tt
head-rigid (Free x T) n e = tt
head-rigid (Bound p) n e = tt
