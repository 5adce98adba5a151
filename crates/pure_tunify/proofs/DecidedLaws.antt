-- Of each finite algebra it is decided which classes are below others, and a coregular one has greatest domains, where it has any.
use Rattle.std.proofs.Common.{◌≡◌, ℕ, List, [], ◌∷◌, inl, inr, ◌⊎◌, ◌↔◌, Bool, true, false, refl, sym, ◌∙◌}
use Rattle.std.proofs.lemmas.Bool.Decides.{eqb_tells}
use Rattle.pure_text.specs.Lists.{IsIn, AnyOf}
use Rattle.pure_text.proofs.ListLaws.{any_of, any_some, any_decided, each_decided}
use Rattle.pure_definitions.specs.Types.Typ.{Typ, TFree, TVar, Con, Typs, none, also, typ_eq}
use Rattle.pure_definitions.specs.Types.Occurs.{OccursInTyp, OccursInTyps}
use Rattle.pure_definitions.specs.Types.Order.{Class, Arity, Algebra, IsClassBelow, itself, along, HasClassBelow, IsSortBelow, IsOfClass, AreOfSorts, IsCoregular}
use Rattle.pure_definitions.specs.Models.Equality.{typ_eq-same}
use Rattle.pure_definitions.proofs.OrderLaws.{below-trans, below-more, below_same}
use Rattle.pure_order.specs.OrderTables.Checks.{IsDecided}
use Rattle.pure_order.proofs.OrderTables.CoregularLaws.{directed, greatest}
use Rattle.pure_order.proofs.DomainLaws.{of_class_by_domains}
use Rattle.pure_tunify.proofs.PlaceLaws.{unequal}

module _ (arities : List Arity) where
  -- the algebra of these classes
  abbrev over : List Class → Algebra
  over ks = record { classes = ks; arities = arities }

  -- A path leads to the class, and from one of those that are declared above it.
  abbrev Through : Class → List Class → (c d : ℕ) → Type 0
  Through k ks c d = IsClassBelow (over ks) c k.name × AnyOf (λ e. IsClassBelow (over ks) e d) k.above

  through_along : (k : Class) (ks : List Class) (c b d : ℕ) (l : Class) → IsIn l (k ∷ ks) → l.name ≡ c → IsIn b l.above → IsClassBelow (over ks) b d ⊎ Through k ks b d → IsClassBelow (over ks) c d ⊎ Through k ks c d
  through_along k ks c b d l (inl e) name above rest = inr (below_same (over ks) c k.name here, elim rest [ inl h ↦ any_of (λ e. IsClassBelow (over ks) e d) b k.above there h | inr w ↦ w.1 ])
    where
      here : c ≡ k.name
      here = sym name ∙ (λ i. (e i).name)

      there : IsIn b k.above
      there = rw e at above
  through_along k ks c b d l (inr m) name above (inl h) = inl (along (l, m, name, above) h)
  through_along k ks c b d l (inr m) name above (inr w) = inr (along (l, m, name, above) w.0, w.1)

  -- A path goes by the first class's declaration or doesn't.
  through_or_not : (k : Class) (ks : List Class) {c d : ℕ} → IsClassBelow (over (k ∷ ks)) c d → IsClassBelow (over ks) c d ⊎ Through k ks c d
  through_or_not k ks itself = inl itself
  through_or_not k ks (along {c = c} {b = b} {d = d} i h) = through_along k ks c b d i.0 i.1 i.2 i.3 (through_or_not k ks h)

  without : (k : Class) (ks : List Class) (c d : ℕ) → IsClassBelow (over ks) c d → IsClassBelow (over (k ∷ ks)) c d
  without k ks c d h = below-more (over ks) (over (k ∷ ks)) (λ l m. inr m) h

  through : (k : Class) (ks : List Class) (c d : ℕ) → Through k ks c d → IsClassBelow (over (k ∷ ks)) c d
  through k ks c d w =
      let e = any_some (λ e. IsClassBelow (over ks) e d) k.above w.1 in
      below-trans (without k ks c k.name w.0) (along (k, inl refl, refl, e.1) (without k ks e.0 d e.2))

  only_itself : {c d : ℕ} → IsClassBelow (over []) c d → c ≡ d
  only_itself itself = refl
  only_itself (along i h) = absurd i.1

  by_first : (k : Class) (ks : List Class) (c d : ℕ) → IsClassBelow (over ks) c d ⊎ ¬ IsClassBelow (over ks) c d → IsClassBelow (over ks) c k.name ⊎ ¬ IsClassBelow (over ks) c k.name
      → AnyOf (λ e. IsClassBelow (over ks) e d) k.above ⊎ ¬ AnyOf (λ e. IsClassBelow (over ks) e d) k.above → IsClassBelow (over (k ∷ ks)) c d ⊎ ¬ IsClassBelow (over (k ∷ ks)) c d
  by_first k ks c d (inl h) to on = inl (without k ks c d h)
  by_first k ks c d (inr nope) (inl to) (inl on) = inl (through k ks c d (to, on))
  by_first k ks c d (inr nope) (inl to) (inr off) = inr (λ h. elim (through_or_not k ks h) [ inl w ↦ nope w | inr w ↦ off w.1 ])
  by_first k ks c d (inr nope) (inr away) on = inr (λ h. elim (through_or_not k ks h) [ inl w ↦ nope w | inr w ↦ away w.0 ])

  below_or_not : (ks : List Class) (c d : ℕ) → IsClassBelow (over ks) c d ⊎ ¬ IsClassBelow (over ks) c d
  below_or_not [] c d = elim (eqb_tells c d) [ inl w ↦ inl (below_same (over []) c d w.1) | inr w ↦ inr (λ h. w.1 (only_itself h)) ]
  below_or_not (k ∷ ks) c d = by_first k ks c d (below_or_not ks c d) (below_or_not ks c k.name) (any_decided (λ e. IsClassBelow (over ks) e d) (λ e. below_or_not ks e d) k.above)

pub is_decided : (A : Algebra) → IsDecided A
is_decided A c d = below_or_not A.arities A.classes c d

pub has_class_below_or_not : (A : Algebra) (s : List ℕ) (c : ℕ) → HasClassBelow A s c ⊎ ¬ HasClassBelow A s c
has_class_below_or_not A s c = any_decided (λ b. IsClassBelow A b c) (λ b. is_decided A b c) s

pub sort_below_or_not : (A : Algebra) (s r : List ℕ) → IsSortBelow A s r ⊎ ¬ IsSortBelow A s r
sort_below_or_not A s r = each_decided (HasClassBelow A s) (has_class_below_or_not A s) r

-- A class of a constructor's types asks domains of the arguments, or there is no such type.
pub domains_or_none : (A : Algebra) → IsCoregular A → (k c : ℕ) → ((domains : List (List ℕ)) × ((ts : Typs) → IsOfClass A (Con k ts) c ↔ AreOfSorts A ts domains)) ⊎ ((ts : Typs) → ¬ IsOfClass A (Con k ts) c)
domains_or_none A coregular k c = by (any_decided (λ a. (a.con ≡ k) × IsClassBelow A a.class c) is_or_not A.arities)
  where
    is_or_not : (a : Arity) → ((a.con ≡ k) × IsClassBelow A a.class c) ⊎ ¬ ((a.con ≡ k) × IsClassBelow A a.class c)
    is_or_not a = elim (eqb_tells a.con k) [
      | inl w ↦ elim (is_decided A a.class c) [ inl below ↦ inl (w.1, below) | inr other ↦ inr (λ h. other h.1) ]
      | inr w ↦ inr (λ h. w.1 h.0)
    ]

    by : AnyOf (λ a. (a.con ≡ k) × IsClassBelow A a.class c) A.arities ⊎ ¬ AnyOf (λ a. (a.con ≡ k) × IsClassBelow A a.class c) A.arities
        → ((domains : List (List ℕ)) × ((ts : Typs) → IsOfClass A (Con k ts) c ↔ AreOfSorts A ts domains)) ⊎ ((ts : Typs) → ¬ IsOfClass A (Con k ts) c)
    by (inl h) =
        let a = any_some (λ a. (a.con ≡ k) × IsClassBelow A a.class c) A.arities h in
        let g = greatest A (is_decided A) k c (directed A coregular k c) a.0 (record { declared = a.1; con = a.2.0; below = a.2.1 }) in
        inl (g.0.domains, of_class_by_domains A k c g.0.domains (g.0, refl, g.1))
    by (inr nope) = inr (λ ts h. nope (any_of (λ a. (a.con ≡ k) × IsClassBelow A a.class c) h.0 A.arities h.1 (h.2, h.3)))

-- Types are equal or not, and one occurs in another or doesn't.
pub same_or_not : (t u : Typ) → (t ≡ u) ⊎ ¬ (t ≡ u)
same_or_not t u = by (typ_eq t u) refl
  where
    by : (b : Bool) → typ_eq t u ≡ b → (t ≡ u) ⊎ ¬ (t ≡ u)
    by true e = inl (typ_eq-same t u e)
    by false e = inr (unequal t u e)

mutual
  pub occurs_or_not : (v t : Typ) → OccursInTyp v t ⊎ ¬ OccursInTyp v t
  occurs_or_not v (TFree x s) = same_or_not v (TFree x s)
  occurs_or_not v (TVar x i s) = same_or_not v (TVar x i s)
  occurs_or_not v (Con k ts) = elim (same_or_not v (Con k ts)) [
    | inl e ↦ inl (inl e)
    | inr other ↦ elim (occurs_among_or_not v ts) [ inl o ↦ inl (inr o) | inr away ↦ inr (λ h. elim h [ inl e ↦ other e | inr o ↦ away o ]) ]
  ]

  occurs_among_or_not : (v : Typ) (ts : Typs) → OccursInTyps v ts ⊎ ¬ OccursInTyps v ts
  occurs_among_or_not v none = inr (λ h. h)
  occurs_among_or_not v (also t ts) = elim (occurs_or_not v t) [
    | inl o ↦ inl (inl o)
    | inr away ↦ elim (occurs_among_or_not v ts) [ inl o ↦ inl (inr o) | inr none_there ↦ inr (λ h. elim h [ inl o ↦ away o | inr o ↦ none_there o ]) ]
  ]
