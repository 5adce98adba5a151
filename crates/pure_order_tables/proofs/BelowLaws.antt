-- The class order: chains of paths, and what one more class changes.
use Rattle.std.proofs.Common.{◌≡◌, ℕ, List, [], ◌∷◌, ◌++◌, refl, ap, sym, inl, inr, ◌⊎◌, ◌↔◌, append_assoc, append-nil, ◌∙◌, subst, Bool, IsTrue}
use Rattle.std.proofs.lemmas.Bool.Decides.{eqb_tells}
use Rattle.pure_order_tables.specs.Checks.{IsDecided}
use Rattle.pure_text.specs.Lists.{IsIn, Each}
use Rattle.pure_definitions.specs.Types.Order.{Class, Algebra, IsClassBelow, itself, along}
use Rattle.pure_text.proofs.ListLaws.{any_of, in_split, each_at, any-append_left}
use Rattle.pure_definitions.proofs.OrderLaws.{below-more}
use Rattle.pure_order_tables.specs.Classes.{IsDeclared, IsAntisymmetric, Follows, of_classes}

pub declared : (cs : List Class) (k : Class) (c : ℕ) → IsIn k cs → k.name ≡ c → IsDeclared cs c
declared cs k c m e = any_of (λ l. l.name ≡ c) k cs m e

-- A class that isn't declared is below itself alone.
pub below-undeclared : (A : Algebra) (c d : ℕ) → ¬ IsDeclared A.classes c → IsClassBelow A c d → c ≡ d
below-undeclared A c d absent itself = refl
below-undeclared A c d absent (along i h) = absurd (absent (declared A.classes i.0 c i.1 i.2))

-- In an ordered list the classes above a class are declared.
pub above_declared : (done ks : List Class) (k : Class) (d : ℕ) → Follows done ks → IsIn k ks → IsIn d k.above → IsDeclared (done ++ ks) d
above_declared done [] k d f m n = absurd m
above_declared done (l ∷ ls) k d f m n = elim m [
  | inl e ↦ any-append_left (λ x. x.name ≡ d) done (l ∷ ls) (each_at (IsDeclared done) l.above f.1 d (rw e at n))
  | inr later ↦ rw (sym (append_assoc done (l ∷ []) ls)) (above_declared (done ++ l ∷ []) ls k d f.2 later n)
]

old_inclusion : (cs : List Class) (k l : Class) (c : ℕ) → IsIn l (cs ++ k ∷ []) → l.name ≡ c → ¬ (c ≡ k.name) → IsIn l cs
old_inclusion cs k l c m n other = elim (in_split l cs (k ∷ []) m) [ inl a ↦ a | inr w ↦ elim w [ inl same ↦ absurd (other (sym n ∙ ap (λ (x : Class). x.name) same)) | inr none ↦ absurd none ] ]

pub declared_at : (cs : List Class) (b c : ℕ) → b ≡ c → IsDeclared cs b → IsDeclared cs c
declared_at cs b c e m = rw (← e) m

-- A further class changes nothing below other classes.
pub below-one_more : (A B : Algebra) (k : Class) → B.classes ≡ A.classes ++ k ∷ [] → Follows [] A.classes → ¬ IsDeclared A.classes k.name → (c d : ℕ) → ¬ (c ≡ k.name) → IsClassBelow B c d → IsClassBelow A c d
below-one_more A B k e f fresh c d other itself = itself
below-one_more A B k e f fresh c d other (along {b = b} i h) =
    let old = old_inclusion A.classes k i.0 c (rw e at i.1) i.2 other in
    let known = above_declared [] A.classes i.0 b f old i.3 in
    along (i.0, old, i.2, i.3) (below-one_more A B k e f fresh b d (λ same. fresh (declared_at A.classes b k.name same known)) h)

pub follows-one_more : (done ks : List Class) (k : Class) → Follows done ks → ¬ IsDeclared (done ++ ks) k.name → Each (IsDeclared (done ++ ks)) k.above → Follows done (ks ++ k ∷ [])
follows-one_more done [] k f fresh known = (rw append-nil at fresh, rw append-nil at known, tt)
follows-one_more done (l ∷ ls) k f fresh known = (f.0, f.1, follows-one_more (done ++ l ∷ []) ls k f.2 (rw (append_assoc done (l ∷ []) ls) fresh) (rw (append_assoc done (l ∷ []) ls) known))

-- What is above a class is the class or declared.
pub reaches : (A : Algebra) → Follows [] A.classes → {c d : ℕ} → IsClassBelow A c d → (c ≡ d) ⊎ IsDeclared A.classes d
reaches A f itself = inl refl
reaches A f (along {b = b} {d = d} i h) = elim (reaches A f h) [ inl e ↦ inr (declared_at A.classes b d e (above_declared [] A.classes i.0 b f i.1 i.3)) | inr m ↦ inr m ]

-- One more class keeps any two classes from being below each other.
antisymmetric-one_more : (cs : List Class) (k : Class) → Follows [] cs → ¬ IsDeclared cs k.name → IsAntisymmetric (of_classes cs) → IsAntisymmetric (of_classes (cs ++ k ∷ []))
antisymmetric-one_more cs k f fresh anti c d h g = elim (eqb_tells c k.name) [
  | inl w ↦ elim (eqb_tells d k.name) [
    | inl v ↦ w.1 ∙ sym v.1
    | inr v ↦ elim (reaches (of_classes cs) f (old d c v.1 g)) [ inl e ↦ sym e | inr m ↦ absurd (fresh (declared_at cs c k.name w.1 m)) ]
  ]
  | inr w ↦ elim (eqb_tells d k.name) [
    | inl v ↦ elim (reaches (of_classes cs) f (old c d w.1 h)) [ inl e ↦ e | inr m ↦ absurd (fresh (declared_at cs d k.name v.1 m)) ]
    | inr v ↦ anti c d (old c d w.1 h) (old d c v.1 g)
  ]
]
  where
    old : (c d : ℕ) → ¬ (c ≡ k.name) → IsClassBelow (of_classes (cs ++ k ∷ [])) c d → IsClassBelow (of_classes cs) c d
    old c d other h = below-one_more (of_classes cs) (of_classes (cs ++ k ∷ [])) k refl f fresh c d other h

antisymmetric-more : (done ks : List Class) → Follows [] done → Follows done ks → IsAntisymmetric (of_classes done) → IsAntisymmetric (of_classes (done ++ ks))
antisymmetric-more done [] f g anti = rw append-nil anti
antisymmetric-more done (k ∷ ks) f g anti = rw (sym (append_assoc done (k ∷ []) ks)) (antisymmetric-more (done ++ k ∷ []) ks (follows-one_more [] done k f g.0 g.1) g.2 (antisymmetric-one_more done k f g.0 anti))

-- Classes that are declared in order, each after those above it, are not below each other.
pub antisymmetric : (cs : List Class) → Follows [] cs → IsAntisymmetric (of_classes cs)
antisymmetric cs f = antisymmetric-more [] cs tt f (λ c d h g. below-undeclared (of_classes []) c d (λ m. m) h)

-- The order is that of the classes alone.
pub below-classes : (A : Algebra) (c d : ℕ) → IsClassBelow (of_classes A.classes) c d ↔ IsClassBelow A c d
below-classes A c d = (λ h. below-more (of_classes A.classes) A (λ k m. m) h, λ h. below-more A (of_classes A.classes) (λ k m. m) h)

pub below-at : (A B : Algebra) (b : Bool) (c d : ℕ) → A ≡ B → (IsTrue b ↔ IsClassBelow (of_classes A.classes) c d) → IsTrue b ↔ IsClassBelow B c d
below-at A B b c d same h = rw (← same) (λ t. (below-classes A c d).0 (h.0 t), λ k. h.1 ((below-classes A c d).1 k))

pub decided_at : (A B : Algebra) → A ≡ B → IsDecided (of_classes A.classes) → IsDecided B
decided_at A B same h = subst IsDecided same (λ c d. elim (h c d) [ inl k ↦ inl ((below-classes A c d).0 k) | inr n ↦ inr (λ k. n ((below-classes A c d).1 k)) ])

pub antisymmetric_at : (A B : Algebra) → A ≡ B → IsAntisymmetric (of_classes A.classes) → IsAntisymmetric B
antisymmetric_at A B same h = subst IsAntisymmetric same (λ c d k g. h c d ((below-classes A c d).1 k) ((below-classes A d c).1 g))

pub below_iff : (A B : Algebra) → A ≡ B → (c d : ℕ) → IsClassBelow (of_classes A.classes) c d ↔ IsClassBelow B c d
below_iff A B same c d = subst (λ (X : Algebra). IsClassBelow (of_classes A.classes) c d ↔ IsClassBelow X c d) same (below-classes A c d)
