-- Algebras that have the classes of others, and put nothing more above them.
use Rattle.std.proofs.Common.{◌≡◌, ℕ, List, [], ◌∷◌, ◌++◌, sym, ap, inl, inr, ◌∙◌}
use Rattle.pure_text.specs.Lists.{IsIn, Each}
use Rattle.pure_text.proofs.ListLaws.{any_some, any-append_left, any-append_right, each_at}
use Rattle.pure_definitions.specs.Types.Order.{Class, Arity, Algebra, IsClassBelow, itself, along, IsCoregular}
use Rattle.pure_definitions.proofs.OrderLaws.{below-trans}
use Rattle.pure_order_tables.specs.Classes.{Agree, Follows, IsDeclared}
use Rattle.pure_order_tables.specs.Arities.{IsKnown}
use Rattle.pure_order_tables.specs.Others.{AreWithOthers}
use Rattle.pure_order_tables.specs.Uncovered.{Extends}
use Rattle.pure_order_tables.specs.Exposed.{AreSides}
use Rattle.pure_order_tables.proofs.BelowLaws.{above_declared, declared_at, reaches}
use Rattle.pure_order_tables.proofs.OtherLaws.{with_others}
use Rattle.pure_order_tables.proofs.UnionLaws.{known_more}

-- A list of classes in order declares each once.

fresh_later : (done ks : List Class) (l : Class) → Follows done ks → IsIn l ks → ¬ IsDeclared done l.name
fresh_later done [] l f m = absurd m
fresh_later done (k ∷ ks) l f m = elim m [
  | inl e ↦ rw e f.0
  | inr later ↦ λ d. fresh_later (done ++ k ∷ []) ks l f.2 later (any-append_left (λ x. x.name ≡ l.name) done (k ∷ []) d)
]

declared_last : (done : List Class) (k : Class) (c : ℕ) → k.name ≡ c → IsDeclared (done ++ k ∷ []) c
declared_last done k c e = any-append_right (λ x. x.name ≡ c) done (k ∷ []) (inl e)

agree_once : (done ks : List Class) → Follows done ks → Agree ks ks
agree_once done [] f k l m n e = absurd m
agree_once done (x ∷ xs) f k l m n e = elim m [
  | inl here ↦ elim n [
    | inl there ↦ here ∙ sym there
    | inr later ↦ absurd (fresh_later (done ++ x ∷ []) xs l f.2 later (declared_last done x l.name (ap (λ (y : Class). y.name) (sym here) ∙ e)))
  ]
  | inr later ↦ elim n [
    | inl there ↦ absurd (fresh_later (done ++ x ∷ []) xs k f.2 later (declared_last done x k.name (ap (λ (y : Class). y.name) (sym there) ∙ sym e)))
    | inr too ↦ agree_once (done ++ x ∷ []) xs f.2 k l later too e
  ]
]

-- Above a class of B there is what B puts there.
below_side : (V B : Algebra) → Follows [] B.classes → Agree V.classes B.classes → {c d : ℕ} → IsDeclared B.classes c → IsClassBelow V c d → IsClassBelow B c d
below_side V B f agree m itself = itself
below_side V B f agree {c = c} m (along {b = b} i h) =
    let l = any_some (λ k. k.name ≡ c) B.classes m in
    let same : i.0 ≡ l.0 = agree i.0 l.0 i.1 l.1 (i.2 ∙ sym l.2) in
    let inside : IsIn i.0 B.classes = rw same l.1 in
    along (i.0, inside, i.2, i.3) (below_side V B f agree (above_declared [] B.classes i.0 b f inside i.3) h)

extends_side : (V B : Algebra) → Follows [] B.classes → Each (IsKnown B.classes) B.arities → ((k : Class) → IsIn k B.classes → IsIn k V.classes) → Agree V.classes B.classes → Extends V B
extends_side V B f known more agree = record {
  classes = more;
  up = λ q d e m h k. below-trans h (below_side V B f agree (reached q d m h) k);
}
  where
    reached : (q : Arity) (d : ℕ) → IsIn q B.arities → IsClassBelow B q.class d → IsDeclared B.classes d
    reached q d m h = elim (reaches B f h) [ inl e ↦ declared_at B.classes q.class d e (each_at (IsKnown B.classes) B.arities known q m).class | inr n ↦ n ]

-- The union of the classes of two algebras that agree.
pub sides_of : (A B C V : Algebra) (ks : List Class) → C ≡ A → ks ≡ B.classes → AreWithOthers C.classes ks V.classes → Follows [] A.classes → Follows [] B.classes → Follows [] V.classes → Agree A.classes B.classes
    → Each (IsKnown A.classes) A.arities → Each (IsKnown B.classes) B.arities → IsCoregular A → IsCoregular B → AreSides V A B
sides_of A B C V ks same read joined fa fb fv agree known_a known_b ra rb = record {
  ordered = fv;
  left = extends_side V A fa known_a from_a agree_a;
  right = extends_side V B fb known_b from_b agree_b;
  left_coregular = ra;
  right_coregular = rb;
  left_known = known_more A.classes V.classes from_a A.arities known_a;
  right_known = known_more B.classes V.classes from_b B.arities known_b;
}
  where
    all : AreWithOthers A.classes B.classes V.classes
    all = rw (← same, ← read) joined

    from_a : (k : Class) → IsIn k A.classes → IsIn k V.classes
    from_a k m = (with_others A.classes B.classes V.classes all k).1 (inl m)

    from_b : (k : Class) → IsIn k B.classes → IsIn k V.classes
    from_b k m = (with_others A.classes B.classes V.classes all k).1 (inr m)

    agree_a : Agree V.classes A.classes
    agree_a k l m n e = elim ((with_others A.classes B.classes V.classes all k).0 m) [ inl a ↦ agree_once [] A.classes fa k l a n e | inr b ↦ sym (agree l k n b (sym e)) ]

    agree_b : Agree V.classes B.classes
    agree_b k l m n e = elim ((with_others A.classes B.classes V.classes all k).0 m) [ inl a ↦ agree k l a n e | inr b ↦ agree_once [] B.classes fb k l b n e ]
