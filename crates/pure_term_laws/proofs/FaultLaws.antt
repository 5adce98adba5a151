-- A term is typed, or there is one place of its first node at fault.
use Rattle.std.proofs.Common.{◌≡◌, ◌⊎◌, ℕ, ◌+◌, zero, Bool, true, false, List, ◌∷◌, inl, inr, refl, sym, ◌∙◌, ap}
use Rattle.std.specs.Prelude.{Option, Some, None, slice_get}
use Rattle.pure_definitions.specs.Types.Typ.{Typ, Con, none, also, arrow, typ_eq}
use Rattle.pure_definitions.specs.Terms.Term.{Term, Const, Free, Var, Bound, Abs, App}
use Rattle.pure_definitions.specs.Terms.Typing.{HasType, node_count, Takes, IsUntypedAt}
use Rattle.pure_definitions.specs.Models.Equality.{typ_eq-same, typ_eq-itself}
use Rattle.pure_term_laws.proofs.TypingLaws.{typed-once}

takes_or_not : (T U : Typ) → Takes T U ⊎ (¬ Takes T U)
takes_or_not (Con zero (also A (also B none))) U = by (typ_eq A U) refl
  where
    by : (b : Bool) → typ_eq A U ≡ b → Takes (arrow A B) U ⊎ (¬ Takes (arrow A B) U)
    by true e = inl (B, ap (λ V. arrow V B) (typ_eq-same A U e))
    by false e = inr (λ h. let same : A ≡ U = cc (h.1) in let tested = typ_eq-itself A in let wrong : typ_eq A U ≡ true = ap (typ_eq A) (sym same) ∙ tested in cc)
takes_or_not _ U = inr (λ h. cc (h.1))

pub typed_or_at_fault : (bs : List Typ) (t : Term) → ((T : Typ) × HasType bs t T) ⊎ ((place : ℕ) × IsUntypedAt bs t place)
typed_or_at_fault bs (Const c T) = inl (T, refl)
typed_or_at_fault bs (Free x T) = inl (T, refl)
typed_or_at_fault bs (Var x i T) = inl (T, refl)
typed_or_at_fault bs (Bound n) = by (slice_get bs n) refl
  where
    by : (o : Option Typ) → slice_get bs n ≡ o → ((T : Typ) × HasType bs (Bound n) T) ⊎ ((place : ℕ) × IsUntypedAt bs (Bound n) place)
    by (Some T) e = inl (T, e)
    by None e = inr (0, (e, refl))
typed_or_at_fault bs (Abs T b) = elim (typed_or_at_fault (T ∷ bs) b) [ inl h ↦ inl (arrow T h.0, (h.0, h.1, refl)) | inr k ↦ inr (1 + k.0, (k.0, k.1, refl)) ]
typed_or_at_fault bs (App f a) = elim (typed_or_at_fault bs f) [
  | inr k ↦ inr (1 + k.0, inl (k.0, k.1, refl))
  | inl h ↦ elim (typed_or_at_fault bs a) [
    | inr k ↦ inr (1 + (node_count f + k.0), inr (inl (h.0, k.0, h.1, k.1, refl)))
    | inl k ↦ elim (takes_or_not h.0 k.0) [
      | inl takes ↦ inl (takes.0, (k.0, rw takes.1 at h.1, k.1))
      | inr fails ↦ inr (0, inr (inr (h.0, k.0, h.1, k.1, fails, refl)))
    ]
  ]
]

pub typed-not_at_fault : (bs : List Typ) (t : Term) (T : Typ) (place : ℕ) → HasType bs t T → ¬ IsUntypedAt bs t place
typed-not_at_fault bs (Const c V) T place h k = k
typed-not_at_fault bs (Free x V) T place h k = k
typed-not_at_fault bs (Var x i V) T place h k = k
typed-not_at_fault bs (Bound n) T place h k = cc
typed-not_at_fault bs (Abs V b) T place h k = typed-not_at_fault (V ∷ bs) b h.0 k.0 h.1 k.1
typed-not_at_fault bs (App f a) T place h (inl k) = typed-not_at_fault bs f (arrow h.0 T) k.0 h.1 k.1
typed-not_at_fault bs (App f a) T place h (inr (inl k)) = typed-not_at_fault bs a h.0 k.1 h.2 k.3
typed-not_at_fault bs (App f a) T place h (inr (inr k)) =
    let domain = typed-once bs a k.1 h.0 k.3 h.2 in
    k.4 (T, typed-once bs f k.0 (arrow h.0 T) k.2 h.1 ∙ ap (λ V. arrow V T) (sym domain))

pub one_place_of_fault : (bs : List Typ) (t : Term) (place other : ℕ) → IsUntypedAt bs t place → IsUntypedAt bs t other → place ≡ other
one_place_of_fault bs (Const c V) p q h k = absurd h
one_place_of_fault bs (Free x V) p q h k = absurd h
one_place_of_fault bs (Var x i V) p q h k = absurd h
one_place_of_fault bs (Bound n) p q h k = cc
one_place_of_fault bs (Abs V b) p q h k = let same = one_place_of_fault (V ∷ bs) b h.0 k.0 h.1 k.1 in cc
one_place_of_fault bs (App f a) p q (inl h) (inl k) = let same = one_place_of_fault bs f h.0 k.0 h.1 k.1 in cc
one_place_of_fault bs (App f a) p q (inl h) (inr (inl k)) = absurd (typed-not_at_fault bs f k.0 h.0 k.2 h.1)
one_place_of_fault bs (App f a) p q (inl h) (inr (inr k)) = absurd (typed-not_at_fault bs f k.0 h.0 k.2 h.1)
one_place_of_fault bs (App f a) p q (inr (inl h)) (inl k) = absurd (typed-not_at_fault bs f h.0 k.0 h.2 k.1)
one_place_of_fault bs (App f a) p q (inr (inr h)) (inl k) = absurd (typed-not_at_fault bs f h.0 k.0 h.2 k.1)
one_place_of_fault bs (App f a) p q (inr (inl h)) (inr (inl k)) = let same = one_place_of_fault bs a h.1 k.1 h.3 k.3 in cc
one_place_of_fault bs (App f a) p q (inr (inl h)) (inr (inr k)) = absurd (typed-not_at_fault bs a k.1 h.1 k.3 h.3)
one_place_of_fault bs (App f a) p q (inr (inr h)) (inr (inl k)) = absurd (typed-not_at_fault bs a h.1 k.1 h.3 k.3)
one_place_of_fault bs (App f a) p q (inr (inr h)) (inr (inr k)) = cc
