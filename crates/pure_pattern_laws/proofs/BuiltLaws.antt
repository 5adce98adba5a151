-- Long terms under binders: what stands below their abstractions, and their arguments.
use Rattle.std.proofs.Common.{◌≡◌, zero, ◌+◌, List, [], ◌∷◌, ap, refl, sym, subst, ◌∙◌, arith}
use Rattle.pure_definitions.specs.Types.Typ.{Typ, Con, none, also, arrow}
use Rattle.pure_definitions.specs.Terms.Term.{Term, Const, Free, Var, Bound, Abs, App}
use Rattle.pure_definitions.specs.Terms.Typing.{HasType}
use Rattle.pure_definitions.specs.Reduction.Beta.{IsAbs}
use Rattle.pure_definitions.specs.Reduction.Eta.{EtaReduces, arrow_count, IsLongForm}
use Rattle.pure_term_laws.proofs.TypingLaws.{typed-once}
use Rattle.pure_eta.proofs.LongLaws.{IsFront, IsLong}
use Rattle.pure_unify_definitions.specs.Fronts.{term_body, below, domains, range, function_typ}
use Rattle.pure_unify_laws.proofs.SplitLaws.{under}
use Rattle.pure_unify_final.proofs.BuiltLaws.{built}
use Rattle.pure_pattern_laws.proofs.PlacedLaws.{renaming, placed-renaming, placed-bounds}
use Rattle.pure_pattern_laws.proofs.RenameLaws.{renaming-long}

-- A long abstraction's body is long, and the abstraction of a long body is.
pub body-long : (bs : List Typ) (V : Typ) (b : Term) (T : Typ) → IsLong bs (Abs V b) (Abs V b) T → (B : Typ) × IsLong (V ∷ bs) b b B × (arrow V B ≡ T)
body-long bs V b T h =
    let inner : h.parts.0.0 ≡ h.typed.0 = typed-once (V ∷ bs) b h.parts.0.0 h.typed.0 h.parts.0.1 h.typed.1 in
    (h.typed.0, record { typed = h.typed.1; reduces = EtaReduces.done; normal = h.normal; count = h.parts.0.2 ∙ ap arrow_count inner; parts = h.parts.1 }, h.typed.2)

pub close-long : (bs : List Typ) (V : Typ) (b : Term) (B T : Typ) → IsLong (V ∷ bs) b b B → arrow V B ≡ T → IsLong bs (Abs V b) (Abs V b) T
close-long bs V b B T h e = subst (IsLong bs (Abs V b) (Abs V b)) e (record { typed = (B, h.typed, refl); reduces = EtaReduces.done; normal = h.normal; count = ap (λ n. 1 + n) h.count; parts = ((B, h.typed, h.count), h.parts) })

pub long-below : (Ts bs : List Typ) (c : Term) (T : Typ) → IsLong bs (below Ts c) (below Ts c) T → (R : Typ) × IsLong (under Ts bs) c c R
long-below [] bs c T h = (T, h)
long-below (V ∷ Ts) bs c T h = let k = body-long bs V (below Ts c) T h in long-below Ts (V ∷ bs) c k.0 k.1

pub below-long : (Ts bs : List Typ) (c : Term) (R : Typ) → IsLong (under Ts bs) c c R → IsLong bs (below Ts c) (below Ts c) (function_typ Ts R)
below-long [] bs c R h = h
below-long (V ∷ Ts) bs c R h = close-long bs V (below Ts c) (function_typ Ts R) (arrow V (function_typ Ts R)) (below-long Ts (V ∷ bs) c R h) refl

-- A long term is what stands below the abstractions of its type; that is long, and no abstraction.
pub record IsLongBelow (bs : List Typ) (t : Term) (T : Typ) : Type 0 where
  pub body : Term
  pub is : t ≡ below (domains T) body
  pub long : IsLong (under (domains T) bs) body body (range T)
  pub bare : ¬ IsAbs body

pub below-of : (bs : List Typ) (t : Term) (T : Typ) → IsLong bs t t T → IsLongBelow bs t T
below-of bs t T h =
    let b = built T bs t h in
    let inner = long-below (domains T) bs b.body T (subst (λ u. IsLong bs u u T) b.is h) in
    let same : inner.0 ≡ range T = typed-once (under (domains T) bs) b.body inner.0 (range T) inner.1.typed b.typed in
    record { body = b.body; is = b.is; long = subst (IsLong (under (domains T) bs) b.body b.body) same inner.1; bare = b.bare }

bare-body : (t : Term) → ¬ IsAbs t → term_body t ≡ t
bare-body (Const c V) n = refl
bare-body (Free x V) n = refl
bare-body (Var x i V) n = refl
bare-body (Bound p) n = refl
bare-body (Abs V b) n = absurd (n tt)
bare-body (App f a) n = refl

pub body-below : (Ts : List Typ) (c : Term) → ¬ IsAbs c → term_body (below Ts c) ≡ c
body-below [] c n = bare-body c n
body-below (T ∷ Ts) c n = body-below Ts c n

-- A term of a type without arrows that is no abstraction, and such a front.
pub long-front : (bs : List Typ) (t : Term) (T : Typ) → IsLong bs t t T → ¬ IsAbs t → IsFront bs t t T
long-front bs t T h n = record { typed = h.typed; reduces = EtaReduces.done; normal = h.normal; applied = n; parts = h.parts }

-- A closed long term is long under any binders.
pub renaming-itself : (t : Term) → renaming (λ p. p) t ≡ t
renaming-itself t = sym (placed-renaming (λ p. p) t) ∙ placed-bounds t

pub long-weaken : (bs : List Typ) (t : Term) (T : Typ) → IsLong [] t t T → IsLong bs t t T
long-weaken bs t T h = subst (λ u. IsLong bs u u T) (renaming-itself t) (renaming-long (λ p. p) [] bs (λ p U e. absurd (cc)) t T h)

-- A long term's own long form.
pub long-own : (t n : Term) (T : Typ) → IsLong [] t t T → EtaReduces t n → HasType [] n T → IsLongForm n t
long-own t n T h r k = record { typ = T; typed = k; long_typed = h.typed; reduces = r; normal = h.normal; saturated = (T, h.typed, h.count); parts = h.parts }

pub no_range : (T : Typ) → arrow_count T ≡ 0 → range T ≡ T
no_range (Con zero (also A (also B none))) e = absurd (omega arith)
no_range T e = refl
