-- Merges that aren't coregular: there is one first conflict at most, and none where the merge is made.
use Rattle.std.proofs.Common.{◌≡◌, ℕ, List, [], ◌∷◌, ◌++◌, refl, sym, ap, ◌∙◌, subst, inl, inr, arith}
use Rattle.pure_text.specs.Lists.{IsIn}
use Rattle.pure_text.proofs.ListLaws.{in-append_left, in-append_right}
use Rattle.pure_definitions.specs.Types.Order.{Class, Arity, Algebra, AreCompatible, IsCoregular}
use Rattle.pure_definitions.proofs.OrderLaws.{below-more, domains-more}
use Rattle.pure_definitions.specs.Declarations.Decl.{Decl, ClassDecl, ArityDecl, algebra_of}
use Rattle.pure_term_laws.proofs.DeclLaws.{declared_classes, declared_arities}
use Rattle.pure_order_tables.specs.Arities.{IsUnion}
use Rattle.pure_order_tables.specs.Checks.{IsInConflict, IsLeastConflict, IsNotAfter}
use Rattle.pure_logic.specs.Content.{Content}
use Rattle.pure_logic.specs.Beginning.{IsAdded, IsMergeAfter, IsMerge}
use Rattle.pure_logic.proofs.MergeLaws.{one_merge}
use Rattle.pure_session_laws.specs.Theory.Begin.{IsFirstConflict}
use Rattle.pure_session_meaning.proofs.OrderedLaws.{IsOneOf, added-from}

-- The algebras have the same classes and the same arities.
pub record AreAlike (A B : Algebra) : Type 0 where
  pub up : (k : Class) → IsIn k A.classes → IsIn k B.classes
  pub down : (k : Class) → IsIn k B.classes → IsIn k A.classes
  pub over : (a : Arity) → IsIn a A.arities → IsIn a B.arities
  pub back : (a : Arity) → IsIn a B.arities → IsIn a A.arities

turned : (A B : Algebra) → AreAlike A B → AreAlike B A
turned A B h = record { up = h.down; down = h.up; over = h.back; back = h.over }

compatible-alike : (A B : Algebra) → AreAlike A B → (a b : Arity) → AreCompatible A a b → AreCompatible B a b
compatible-alike A B h a b w = record {
  forth = λ k. domains-more A B h.up a b (w.forth (below-more B A h.down k));
  back = λ k. domains-more A B h.up b a (w.back (below-more B A h.down k));
  joined = λ d k l. (let j = w.joined d (below-more B A h.down k) (below-more B A h.down l) in
      (j.0, record { declared = h.over j.0 j.1.declared; con = j.1.con; class = below-more A B h.up j.1.class; first = domains-more A B h.up a j.0 j.1.first; second = domains-more A B h.up b j.0 j.1.second }));
}

conflict-alike : (A B : Algebra) → AreAlike A B → (a b : Arity) → IsInConflict A a b → IsInConflict B a b
conflict-alike A B h a b w = record { declared = h.over b w.declared; con = w.con; conflict = λ k. w.conflict (compatible-alike B A (turned A B h) a b k) }

-- A coregular algebra has no conflict.
no-conflict : (A B : Algebra) → AreAlike A B → IsCoregular B → (k c d : ℕ) → IsLeastConflict A k c d → ⊥
no-conflict A B h coregular k c d least =
    let a = least.is.0 in
    let b = least.is.1 in
    let w = least.is.3 in
    w.conflict (compatible-alike B A (turned A B h) a b (coregular a b (h.over a least.is.2) (h.over b w.declared) (sym w.con)))

not_after-both : (k c d l e f : ℕ) → IsNotAfter k c d l e f → IsNotAfter l e f k c d → (k ≡ l) × (c ≡ e) × (d ≡ f)
not_after-both k c d l e f (inl a) (inl b) = absurd (omega (arith, a, b))
not_after-both k c d l e f (inl a) (inr b) = absurd (omega (arith, a, b.0))
not_after-both k c d l e f (inr a) (inl b) = absurd (omega (arith, a.0, b))
not_after-both k c d l e f (inr (a, inl x)) (inr (b, inl y)) = absurd (omega (arith, x, y))
not_after-both k c d l e f (inr (a, inl x)) (inr (b, inr y)) = absurd (omega (arith, x, y.0))
not_after-both k c d l e f (inr (a, inr x)) (inr (b, inl y)) = absurd (omega (arith, x.0, y))
not_after-both k c d l e f (inr (a, inr x)) (inr (b, inr y)) = (a, x.0, omega (arith, x.1, y.1))

not_after-at : (k c d : ℕ) (a b : Arity) (l e f : ℕ) → a.con ≡ l → a.class ≡ e → b.class ≡ f → IsNotAfter k c d a.con a.class b.class → IsNotAfter k c d l e f
not_after-at k c d a b l e f p q r h = subst (λ (x : ℕ). IsNotAfter k c d x e f) p (subst (λ (x : ℕ). IsNotAfter k c d a.con x f) q (subst (λ (x : ℕ). IsNotAfter k c d a.con a.class x) r h))

-- There is one least conflict at most.
least-once : (A B : Algebra) → AreAlike A B → (k c d l e f : ℕ) → IsLeastConflict A k c d → IsLeastConflict B l e f → (k ≡ l) × (c ≡ e) × (d ≡ f)
least-once A B h k c d l e f first second =
    let p = first.is in
    let q = second.is in
    not_after-both k c d l e f
    (not_after-at k c d q.0 q.1 l e f q.4 q.5 q.6 (first.least q.0 q.1 (h.back q.0 q.2) (conflict-alike B A (turned A B h) q.0 q.1 q.3)))
    (not_after-at l e f p.0 p.1 k c d p.4 p.5 p.6 (second.least p.0 p.1 (h.over p.0 p.2) (conflict-alike A B h p.0 p.1 p.3)))

pub added-more : (before added after : List Decl) → IsAdded before added after → (x : Decl) → IsOneOf before added x → IsIn x after
added-more before [] after h x m = subst (λ (ds : List Decl). IsIn x ds) (sym h) (elim m [ inl n ↦ n | inr none ↦ absurd none ])
added-more before (d ∷ ds) after (inl h) x m = added-more before ds after h.1 x (elim m [
  | inl n ↦ inl n
  | inr n ↦ elim n [ inl same ↦ inl (subst (λ (y : Decl). IsIn y before) (sym same) h.0) | inr later ↦ inr later ]
])
added-more before (d ∷ ds) after (inr h) x m = added-more (before ++ d ∷ []) ds after h.1 x (elim m [
  | inl n ↦ inl (in-append_left x before (d ∷ []) n)
  | inr n ↦ elim n [ inl same ↦ inl (in-append_right x before (d ∷ []) (inl same)) | inr later ↦ inr later ]
])

-- What is added to a list makes the union of both algebras.
union-added : (before added after : List Decl) (U : Algebra) → IsAdded before added after → IsUnion (algebra_of before) (algebra_of added) U → AreAlike U (algebra_of after)
union-added before added after U h u = record {
  up = λ k m. (declared_classes after k).1 (added-more before added after h (ClassDecl k) (elim ((u.classes k).0 m) [ inl a ↦ inl ((declared_classes before k).0 a) | inr b ↦ inr ((declared_classes added k).0 b) ]));
  down = λ k m. (u.classes k).1 (elim (added-from before added after h (ClassDecl k) ((declared_classes after k).0 m)) [ inl a ↦ inl ((declared_classes before k).1 a) | inr b ↦ inr ((declared_classes added k).1 b) ]);
  over = λ a m. (declared_arities after a).1 (added-more before added after h (ArityDecl a) (elim ((u.arities a).0 m) [ inl x ↦ inl ((declared_arities before a).0 x) | inr y ↦ inr ((declared_arities added a).0 y) ]));
  back = λ a m. (u.arities a).1 (elim (added-from before added after h (ArityDecl a) ((declared_arities after a).0 m)) [ inl x ↦ inl ((declared_arities before a).1 x) | inr y ↦ inr ((declared_arities added a).1 y) ]);
}

unions-alike : (A B U V : Algebra) → IsUnion A B U → IsUnion A B V → AreAlike U V
unions-alike A B U V u v = record {
  up = λ k m. (v.classes k).1 ((u.classes k).0 m);
  down = λ k m. (u.classes k).1 ((v.classes k).0 m);
  over = λ a m. (v.arities a).1 ((u.arities a).0 m);
  back = λ a m. (u.arities a).1 ((v.arities a).0 m);
}

-- A merge of some contents and then of others.
merge-split : (before : List Decl) (front others : List Content) (merged : List Decl) → IsMergeAfter before (front ++ others) merged → (mid : List Decl) × IsMergeAfter before front mid × IsMergeAfter mid others merged
merge-split before [] others merged h = (before, refl, h)
merge-split before (Q ∷ Qs) others merged h =
    let w = merge-split h.0 Qs others merged h.3 in
    (w.0, (h.0, h.1, h.2, w.1), w.2)

-- Where the merge is made there is no conflict on the way.
no-conflict-in : (front : List Content) (parent : Content) (rest : List Content) (merged mid : List Decl) → IsMerge (front ++ parent ∷ rest) merged → IsMerge front mid
    → (U : Algebra) → IsUnion (algebra_of mid) (algebra_of parent.declarations) U → (k c d : ℕ) → IsLeastConflict U k c d → ⊥
no-conflict-in front parent rest merged mid h g U u k c d least =
    let w = merge-split [] front (parent ∷ rest) merged h in
    let same : w.0 ≡ mid = one_merge front w.0 mid w.1 g in
    let added : IsAdded mid parent.declarations w.2.0 = subst (λ (ds : List Decl). IsAdded ds parent.declarations w.2.0) same w.2.1 in
    no-conflict U (algebra_of w.2.0) (union-added mid parent.declarations w.2.0 U added u) w.2.2 k c d least

pub conflict-or-merge : (parents : List Content) (merged : List Decl) (k c d : ℕ) → IsFirstConflict parents k c d → IsMerge parents merged → ⊥
conflict-or-merge parents merged k c d f h =
    no-conflict-in f.front f.parent f.rest merged f.merged (subst (λ (Qs : List Content). IsMerge Qs merged) f.are h) f.merge f.union f.is_union k c d f.least

-- One list cut at two places: at the same, or the second cut is further, or the first.
pub data AreCuts {A : Type 0} (front : List A) (x : A) (other : List A) (y : A) : Type 0 where
  at_one : front ≡ other → x ≡ y → AreCuts front x other y
  further : (rest : List A) → other ≡ front ++ x ∷ rest → AreCuts front x other y
  before : (rest : List A) → front ≡ other ++ y ∷ rest → AreCuts front x other y

pub cuts : {A : Type 0} (front : List A) (x : A) (back other : List A) (y : A) (rest : List A) → front ++ x ∷ back ≡ other ++ y ∷ rest → AreCuts front x other y
cuts [] x back [] y rest e = at_one refl (cc)
cuts [] x back (z ∷ zs) y rest e = let same : z ≡ x = cc in further zs (ap (λ v. v ∷ zs) same)
cuts (w ∷ ws) x back [] y rest e = let same : w ≡ y = cc in before ws (ap (λ v. v ∷ ws) same)
cuts (w ∷ ws) x back (z ∷ zs) y rest e =
    let same : w ≡ z = cc in
    let tails : ws ++ x ∷ back ≡ zs ++ y ∷ rest = cc in
    next same (cuts ws x back zs y rest tails)
  where
    next : w ≡ z → AreCuts ws x zs y → AreCuts (w ∷ ws) x (z ∷ zs) y
    next same (at_one a b) = at_one (cc) b
    next same (further more a) = further more (cc)
    next same (before more a) = before more (cc)

-- There is one first conflict at most.
pub conflict-once : (parents : List Content) (k c d l e f : ℕ) → IsFirstConflict parents k c d → IsFirstConflict parents l e f → (k ≡ l) × (c ≡ e) × (d ≡ f)
conflict-once parents k c d l e f a b = by (cuts a.front a.parent a.rest b.front b.parent b.rest (sym a.are ∙ b.are))
  where
    by : AreCuts a.front a.parent b.front b.parent → (k ≡ l) × (c ≡ e) × (d ≡ f)
    by (further rest is) = absurd (no-conflict-in a.front a.parent rest b.merged a.merged (subst (λ (Qs : List Content). IsMerge Qs b.merged) is b.merge) a.merge a.union a.is_union k c d a.least)
    by (before rest is) = absurd (no-conflict-in b.front b.parent rest a.merged b.merged (subst (λ (Qs : List Content). IsMerge Qs a.merged) is a.merge) b.merge b.union b.is_union l e f b.least)
    by (at_one fronts parents) =
        let merges : b.merged ≡ a.merged = one_merge a.front b.merged a.merged (subst (λ (Qs : List Content). IsMerge Qs b.merged) (sym fronts) b.merge) a.merge in
        let union : IsUnion (algebra_of a.merged) (algebra_of a.parent.declarations) b.union =
        subst (λ (Q : Content). IsUnion (algebra_of a.merged) (algebra_of Q.declarations) b.union) (sym parents) (subst (λ (ds : List Decl). IsUnion (algebra_of ds) (algebra_of b.parent.declarations) b.union) merges b.is_union) in
        least-once a.union b.union (unions-alike (algebra_of a.merged) (algebra_of a.parent.declarations) a.union b.union a.is_union union) k c d l e f a.least b.least
