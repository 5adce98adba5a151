-- The parents of a theory merge, one after the other, or one is the first in conflict.
use Rattle.std.proofs.Common.{◌≡◌, ◌⊎◌, ◌<◌, ◌≤◌, ℕ, List, [], ◌∷◌, ◌++◌, Some, Bool, true, false, append_assoc, append-nil, inl, inr, refl, sym, ◌∙◌, ap, subst, arith}
use Rattle.std.proofs.lemmas.Bool.Decides.{eqb_tells, leb_tells}
use Rattle.std.specs.List.{flat_map}
use Rattle.std.proofs.lemmas.Option.{same_Some}
use Rattle.pure_text.specs.Lists.{IsIn, Each, AnyOf}
use Rattle.pure_text.proofs.ListLaws.{in-append_left, in-append_right, any_some, any_of, any_decided, each_decided, each_at, each_of}
use Rattle.pure_definitions.specs.Types.Order.{Class, Arity, Algebra, IsClassBelow, itself, along, AreDomainsBelow, IsJoin, AreCompatible, IsCoregular}
use Rattle.pure_definitions.specs.Declarations.Decl.{Decl, ClassDecl, ArityDecl, algebra_of}
use Rattle.pure_term_laws.proofs.DeclLaws.{declared_classes, declared_arities}
use Rattle.pure_order_tables.specs.Arities.{IsUnion}
use Rattle.pure_order_tables.specs.Checks.{IsLeastConflict, IsNotAfter}
use Rattle.pure_order_tables.proofs.ArityLaws.{two_decided}
use Rattle.pure_order_tables.proofs.CoregularLaws.{compatible_back}
use Rattle.pure_tunify.proofs.DecidedLaws.{is_decided}
use Rattle.pure_logic.specs.Content.{Content}
use Rattle.pure_logic.specs.Beginning.{IsAdded, IsMergeAfter, IsMerge}
use Rattle.pure_theory_tables.specs.Same.{decl_eq}
use Rattle.pure_theory_tables.proofs.SameLaws.{told_at}
use Rattle.pure_session_meaning.proofs.OrderedLaws.{added-from}
use Rattle.pure_session_meaning.specs.Closing.{MergesOrNot, ContentsMergeOrNot}
use Rattle.pure_session_meaning.proofs.ConflictLaws.{added-more}

decl_or_not : (d e : Decl) → (d ≡ e) ⊎ ¬ (d ≡ e)
decl_or_not d e = by (decl_eq d e) refl
  where
    by : (b : Bool) → b ≡ decl_eq d e → (d ≡ e) ⊎ ¬ (d ≡ e)
    by true t = inl (same_Some d e ((told_at (Some d) d e true refl t).0 refl))
    by false t = inr (λ same. let wrong : false ≡ true = (told_at (Some d) d e false refl t).1 (ap Some same) in absurd (cc))

in_decls_or_not : (d : Decl) (ds : List Decl) → IsIn d ds ⊎ ¬ IsIn d ds
in_decls_or_not d [] = inr (λ h. h)
in_decls_or_not d (e ∷ es) = elim (decl_or_not d e) [
  | inl same ↦ inl (inl same)
  | inr other ↦ elim (in_decls_or_not d es) [ inl k ↦ inl (inr k) | inr n ↦ inr (λ h. elim h [ inl s ↦ other s | inr k ↦ n k ]) ]
]

added_there : (before ds : List Decl) → (after : List Decl) × IsAdded before ds after
added_there before [] = (before, refl)
added_there before (d ∷ ds) = elim (in_decls_or_not d before) [
  | inl old ↦ (let w = added_there before ds in (w.0, inl (old, w.1)))
  | inr new ↦ (let w = added_there (before ++ d ∷ []) ds in (w.0, inr (new, w.1)))
]

added_union : (before ds after : List Decl) → IsAdded before ds after → IsUnion (algebra_of before) (algebra_of ds) (algebra_of after)
added_union before ds after h = record {
  classes = λ k. (
    λ m. elim (added-from before ds after h (ClassDecl k) ((declared_classes after k).0 m)) [ inl a ↦ inl ((declared_classes before k).1 a) | inr b ↦ inr ((declared_classes ds k).1 b) ],
    λ m. (declared_classes after k).1 (added-more before ds after h (ClassDecl k) (elim m [ inl a ↦ inl ((declared_classes before k).0 a) | inr b ↦ inr ((declared_classes ds k).0 b) ])),
  );
  arities = λ k. (
    λ m. elim (added-from before ds after h (ArityDecl k) ((declared_arities after k).0 m)) [ inl a ↦ inl ((declared_arities before k).1 a) | inr b ↦ inr ((declared_arities ds k).1 b) ],
    λ m. (declared_arities after k).1 (added-more before ds after h (ArityDecl k) (elim m [ inl a ↦ inl ((declared_arities before k).0 a) | inr b ↦ inr ((declared_arities ds k).0 b) ])),
  );
}

-- The classes that are declared above others.
uppers_in : (ks : List Class) (k : Class) (d : ℕ) → IsIn k ks → IsIn d k.above → IsIn d (flat_map (λ (l : Class). l.above) ks)
uppers_in [] k d m n = absurd m
uppers_in (l ∷ ls) k d (inl same) n = in-append_left d l.above (flat_map (λ (l : Class). l.above) ls) (subst (λ (x : Class). IsIn d x.above) same n)
uppers_in (l ∷ ls) k d (inr m) n = in-append_right d l.above (flat_map (λ (l : Class). l.above) ls) (uppers_in ls k d m n)

module _ (A : Algebra) where
  upper : {c d : ℕ} → IsClassBelow A c d → (c ≡ d) ⊎ IsIn d (flat_map (λ (l : Class). l.above) A.classes)
  upper itself = inl refl
  upper (along {b = b} i h) = elim (upper h) [
    | inl same ↦ inr (subst (λ x. IsIn x (flat_map (λ (l : Class). l.above) A.classes)) same (uppers_in A.classes i.0 b i.1 i.3))
    | inr m ↦ inr m
  ]

  domains_or_not : (a b : Arity) → AreDomainsBelow A a b ⊎ ¬ AreDomainsBelow A a b
  domains_or_not a b = two_decided A (is_decided A) a.domains b.domains

  only_if : (P Q : Type 0) → P ⊎ ¬ P → Q ⊎ ¬ Q → (P → Q) ⊎ ¬ (P → Q)
  only_if P Q p (inl q) = inl (λ h. q)
  only_if P Q (inl p) (inr no_q) = inr (λ f. no_q (f p))
  only_if P Q (inr no_p) (inr no_q) = inl (λ p. absurd (no_p p))

  both : (P Q : Type 0) → P ⊎ ¬ P → Q ⊎ ¬ Q → (P × Q) ⊎ ¬ (P × Q)
  both P Q (inl p) (inl q) = inl (p, q)
  both P Q (inl p) (inr n) = inr (λ h. n h.1)
  both P Q (inr n) q = inr (λ h. n h.0)

  module _ (a b : Arity) where
    abbrev JoinsAt : ℕ → Arity → Type 0
    JoinsAt d q = (q.con ≡ a.con) × (IsClassBelow A q.class d × (AreDomainsBelow A a q × AreDomainsBelow A b q))

    abbrev IsJoined : ℕ → Type 0
    IsJoined d = (IsClassBelow A a.class d × IsClassBelow A b.class d) → AnyOf (JoinsAt d) A.arities

    con_or_not : (q : Arity) → (q.con ≡ a.con) ⊎ ¬ (q.con ≡ a.con)
    con_or_not q = elim (eqb_tells q.con a.con) [ inl w ↦ inl w.1 | inr w ↦ inr w.1 ]

    joins_or_not : (d : ℕ) (q : Arity) → JoinsAt d q ⊎ ¬ JoinsAt d q
    joins_or_not d q = both (q.con ≡ a.con) (IsClassBelow A q.class d × (AreDomainsBelow A a q × AreDomainsBelow A b q)) (con_or_not q)
        (both (IsClassBelow A q.class d) (AreDomainsBelow A a q × AreDomainsBelow A b q) (is_decided A q.class d) (both (AreDomainsBelow A a q) (AreDomainsBelow A b q) (domains_or_not a q) (domains_or_not b q)))

    joined_or_not : (d : ℕ) → IsJoined d ⊎ ¬ IsJoined d
    joined_or_not d = only_if (IsClassBelow A a.class d × IsClassBelow A b.class d) (AnyOf (JoinsAt d) A.arities) (both (IsClassBelow A a.class d) (IsClassBelow A b.class d) (is_decided A a.class d) (is_decided A b.class d))
        (any_decided (JoinsAt d) (joins_or_not d) A.arities)

    from_join : (d : ℕ) → (q : Arity) × IsJoin A a b d q → AnyOf (JoinsAt d) A.arities
    from_join d j = any_of (JoinsAt d) j.0 A.arities j.1.declared (j.1.con, (j.1.class, (j.1.first, j.1.second)))

    to_join : (d : ℕ) → AnyOf (JoinsAt d) A.arities → (q : Arity) × IsJoin A a b d q
    to_join d h =
        let w = any_some (JoinsAt d) A.arities h in
        (w.0, record { declared = w.1; con = w.2.0; class = w.2.1.0; first = w.2.1.1.0; second = w.2.1.1.1 })

    compatible_or_not : AreCompatible A a b ⊎ ¬ AreCompatible A a b
    compatible_or_not = by (only_if (IsClassBelow A a.class b.class) (AreDomainsBelow A a b) (is_decided A a.class b.class) (domains_or_not a b))
        (only_if (IsClassBelow A b.class a.class) (AreDomainsBelow A b a) (is_decided A b.class a.class) (domains_or_not b a))
        (each_decided IsJoined joined_or_not (a.class ∷ flat_map (λ (l : Class). l.above) A.classes))
      where
        by : (IsClassBelow A a.class b.class → AreDomainsBelow A a b) ⊎ ¬ (IsClassBelow A a.class b.class → AreDomainsBelow A a b)
            → (IsClassBelow A b.class a.class → AreDomainsBelow A b a) ⊎ ¬ (IsClassBelow A b.class a.class → AreDomainsBelow A b a)
            → Each IsJoined (a.class ∷ flat_map (λ (l : Class). l.above) A.classes) ⊎ ¬ Each IsJoined (a.class ∷ flat_map (λ (l : Class). l.above) A.classes)
            → AreCompatible A a b ⊎ ¬ AreCompatible A a b
        by (inr n) q r = inr (λ w. n w.forth)
        by (inl p) (inr n) r = inr (λ w. n w.back)
        by (inl p) (inl q) (inr n) = inr (λ w. n (each_of IsJoined (a.class ∷ flat_map (λ (l : Class). l.above) A.classes) (λ d m h. from_join d (w.joined d h.0 h.1))))
        by (inl p) (inl q) (inl r) = inl (record {
          forth = p;
          back = q;
          joined = λ d h k. to_join d (each_at IsJoined (a.class ∷ flat_map (λ (l : Class). l.above) A.classes) r d (elim (upper h) [ inl same ↦ inl (sym same) | inr m ↦ inr m ]) (h, k));
        })

  -- two arities of one constructor in conflict
  abbrev Clashes : Arity → Arity → Type 0
  Clashes a b = (b.con ≡ a.con) × (¬ AreCompatible A a b)

  clashes_or_not : (a b : Arity) → Clashes a b ⊎ ¬ Clashes a b
  clashes_or_not a b = both (b.con ≡ a.con) (¬ AreCompatible A a b) (elim (eqb_tells b.con a.con) [ inl w ↦ inl w.1 | inr w ↦ inr w.1 ])
      (elim (compatible_or_not a b) [ inl c ↦ inr (λ n. n c) | inr n ↦ inl n ])

  abbrev NotAfter : Arity → Arity → Arity → Arity → Type 0
  NotAfter a b c d = IsNotAfter a.con a.class b.class c.con c.class d.class

  not_after-itself : (k c d : ℕ) → IsNotAfter k c d k c d
  not_after-itself k c d = inr (refl, inr (refl, omega arith))

  not_after-through : (k c d l e f m g h : ℕ) → IsNotAfter k c d l e f → IsNotAfter l e f m g h → IsNotAfter k c d m g h
  not_after-through k c d l e f m g h (inl a) (inl b) = inl (omega (arith, a, b))
  not_after-through k c d l e f m g h (inl a) (inr b) = inl (omega (arith, a, b.0))
  not_after-through k c d l e f m g h (inr a) (inl b) = inl (omega (arith, a.0, b))
  not_after-through k c d l e f m g h (inr (a, inl x)) (inr (b, inl y)) = inr (a ∙ b, inl (omega (arith, x, y)))
  not_after-through k c d l e f m g h (inr (a, inl x)) (inr (b, inr y)) = inr (a ∙ b, inl (omega (arith, x, y.0)))
  not_after-through k c d l e f m g h (inr (a, inr x)) (inr (b, inl y)) = inr (a ∙ b, inl (omega (arith, x.0, y)))
  not_after-through k c d l e f m g h (inr (a, inr x)) (inr (b, inr y)) = inr (a ∙ b, inr (x.0 ∙ y.0, omega (arith, x.1, y.1)))

  three : (m n : ℕ) → (m < n) ⊎ ((m ≡ n) ⊎ (n < m))
  three m n = elim (leb_tells m n) [ inr w ↦ inr (inr w.1) | inl w ↦ elim (leb_tells n m) [ inl v ↦ inr (inl (omega (arith, w.1, v.1))) | inr v ↦ inl v.1 ] ]

  one_or_other : (k c d l e f : ℕ) → IsNotAfter k c d l e f ⊎ IsNotAfter l e f k c d
  one_or_other k c d l e f = elim (three k l) [
    | inl x ↦ inl (inl x)
    | inr y ↦ elim y [
      | inr x ↦ inr (inl x)
      | inl p ↦ elim (three c e) [
        | inl x ↦ inl (inr (p, inl x))
        | inr z ↦ elim z [
          | inr x ↦ inr (inr (sym p, inl x))
          | inl q ↦ elim (leb_tells d f) [ inl w ↦ inl (inr (p, inr (q, w.1))) | inr w ↦ inr (inr (sym p, inr (sym q, omega (arith, w.1)))) ]
        ]
      ]
    ]
  ]

  -- the least clash of these with those, or none
  record IsLeastClash (P : Arity → Arity → Type 0) : Type 0 where
    first : Arity
    second : Arity
    is : P first second
    clash : Clashes first second
    least : (c d : Arity) → P c d → Clashes c d → NotAfter first second c d

  abbrev ClashOrNone : (Arity → Arity → Type 0) → Type 0
  ClashOrNone P = IsLeastClash P ⊎ ((c d : Arity) → P c d → ¬ Clashes c d)

  -- the less of two
  either : (P Q R : Arity → Arity → Type 0) → ((c d : Arity) → R c d → P c d ⊎ Q c d) → ((c d : Arity) → P c d → R c d) → ((c d : Arity) → Q c d → R c d) → ClashOrNone P → ClashOrNone Q → ClashOrNone R
  either P Q R which p q (inr n) (inr m) = inr (λ c d r k. elim (which c d r) [ inl x ↦ n c d x k | inr y ↦ m c d y k ])
  either P Q R which p q (inl x) (inr m) = inl (record { first = x.first; second = x.second; is = p x.first x.second x.is; clash = x.clash; least = λ c d r k. elim (which c d r) [ inl u ↦ x.least c d u k | inr v ↦ absurd (m c d v k) ] })
  either P Q R which p q (inr n) (inl y) = inl (record { first = y.first; second = y.second; is = q y.first y.second y.is; clash = y.clash; least = λ c d r k. elim (which c d r) [ inl u ↦ absurd (n c d u k) | inr v ↦ y.least c d v k ] })
  either P Q R which p q (inl x) (inl y) = elim (one_or_other x.first.con x.first.class x.second.class y.first.con y.first.class y.second.class) [
    | inl l ↦ inl (record {
      first = x.first;
      second = x.second;
      is = p x.first x.second x.is;
      clash = x.clash;
      least = λ c d r k. elim (which c d r) [
        | inl u ↦ x.least c d u k
        | inr v ↦ not_after-through x.first.con x.first.class x.second.class y.first.con y.first.class y.second.class c.con c.class d.class l (y.least c d v k)
      ];
    })
    | inr l ↦ inl (record {
      first = y.first;
      second = y.second;
      is = q y.first y.second y.is;
      clash = y.clash;
      least = λ c d r k. elim (which c d r) [
        | inl u ↦ not_after-through y.first.con y.first.class y.second.class x.first.con x.first.class x.second.class c.con c.class d.class l (x.least c d u k)
        | inr v ↦ y.least c d v k
      ];
    })
  ]

  single : (a b : Arity) → ClashOrNone (λ c d. (c ≡ a) × (d ≡ b))
  single a b = elim (clashes_or_not a b) [
    | inl k ↦ inl (record {
      first = a;
      second = b;
      is = (refl, refl);
      clash = k;
      least = λ c d e w. subst (λ (x : Arity). NotAfter a b x d) (sym e.0) (subst (λ (y : Arity). NotAfter a b a y) (sym e.1) (not_after-itself a.con a.class b.class));
    })
    | inr n ↦ inr (λ c d e w. n (subst (λ (x : Arity). Clashes x b) e.0 (subst (λ (y : Arity). Clashes c y) e.1 w)))
  ]

  with_all : (a : Arity) (bs : List Arity) → ClashOrNone (λ c d. (c ≡ a) × IsIn d bs)
  with_all a [] = inr (λ c d h w. absurd h.1)
  with_all a (b ∷ bs) = either (λ c d. (c ≡ a) × (d ≡ b)) (λ c d. (c ≡ a) × IsIn d bs) (λ c d. (c ≡ a) × IsIn d (b ∷ bs))
      (λ c d h. elim h.1 [ inl e ↦ inl (h.0, e) | inr m ↦ inr (h.0, m) ]) (λ c d h. (h.0, inl h.1)) (λ c d h. (h.0, inr h.1)) (single a b) (with_all a bs)

  all_with : (cs bs : List Arity) → ClashOrNone (λ c d. IsIn c cs × IsIn d bs)
  all_with [] bs = inr (λ c d h w. absurd h.0)
  all_with (a ∷ cs) bs = either (λ c d. (c ≡ a) × IsIn d bs) (λ c d. IsIn c cs × IsIn d bs) (λ c d. IsIn c (a ∷ cs) × IsIn d bs)
      (λ c d h. elim h.0 [ inl e ↦ inl (e, h.1) | inr m ↦ inr (m, h.1) ]) (λ c d h. (inl h.0, h.1)) (λ c d h. (inr h.0, h.1)) (with_all a bs) (all_with cs bs)

  in_order : (k c d : ℕ) (l : ℕ) → k ≡ l → IsNotAfter k c d l d c → c ≤ d
  in_order k c d l e (inl x) = absurd (omega (arith, e, x))
  in_order k c d l e (inr (p, inl x)) = omega (arith, x)
  in_order k c d l e (inr (p, inr x)) = omega (arith, x.0)

  -- An algebra is coregular, or has a least conflict.
  coregular_or_not : IsCoregular A ⊎ ((k : ℕ) × (c : ℕ) × (d : ℕ) × IsLeastConflict A k c d)
  coregular_or_not = elim (all_with A.arities A.arities) [
    | inr never ↦ inl (λ a b m n con. elim (compatible_or_not a b) [ inl w ↦ w | inr apart ↦ absurd (never a b (m, n) (sym con, apart)) ])
    | inl w ↦ inr (
      w.first.con,
      w.first.class,
      w.second.class,
      record {
        is = (w.first, w.second, w.is.0, record { declared = w.is.1; con = w.clash.0; conflict = w.clash.1 }, refl, refl, refl);
        ordered = in_order w.first.con w.first.class w.second.class w.second.con (sym w.clash.0)
            (w.least w.second w.first (w.is.1, w.is.0) (sym w.clash.0, λ k. w.clash.1 (compatible_back A w.second w.first w.clash.0 k)));
        least = λ a b m k. w.least a b (m, k.declared) (k.con, k.conflict);
      },
    )
  ]

-- one parent more
merge-more : (before : List Decl) (Qs : List Content) (Q : Content) (mid after : List Decl) → IsMergeAfter before Qs mid → IsAdded mid Q.declarations after → IsCoregular (algebra_of after) → IsMergeAfter before (Qs ++ Q ∷ []) after
merge-more before [] Q mid after h a c = (after, subst (λ ds. IsAdded ds Q.declarations after) h a, c, refl)
merge-more before (P ∷ Ps) Q mid after h a c = (h.0, h.1, h.2, merge-more h.0 Ps Q mid after h.3 a c)

merges_from : (front Qs : List Content) (mid : List Decl) → IsMerge front mid → MergesOrNot (front ++ Qs)
merges_from front [] mid h = inl (mid, subst (λ Ps. IsMerge Ps mid) (sym (append-nil front)) h)
merges_from front (Q ∷ Qs) mid h = elim (coregular_or_not (algebra_of (added_there mid Q.declarations).0)) [
  | inl c ↦ subst MergesOrNot (append_assoc front (Q ∷ []) Qs)
      (merges_from (front ++ Q ∷ []) Qs (added_there mid Q.declarations).0 (merge-more [] front Q mid (added_there mid Q.declarations).0 h (added_there mid Q.declarations).1 c))
  | inr w ↦ inr (
    w.0,
    w.1,
    w.2,
    record {
      front = front;
      parent = Q;
      rest = Qs;
      are = refl;
      merged = mid;
      merge = h;
      union = algebra_of (added_there mid Q.declarations).0;
      is_union = added_union mid Q.declarations (added_there mid Q.declarations).0 (added_there mid Q.declarations).1;
      least = w.3;
    },
  )
]

pub contents_merge_or_not : ContentsMergeOrNot
contents_merge_or_not parents = merges_from [] parents [] refl
