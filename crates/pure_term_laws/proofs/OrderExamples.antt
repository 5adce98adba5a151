-- The examples of the class order, of coregular algebras, of respecting maps and of certified terms.
use Rattle.std.proofs.Common.{◌≡◌, ℕ, [], ◌∷◌, ◌⊎◌, inl, inr, refl, arith}
use Rattle.std.specs.List.Sorted.{IsStrictlyIncreasing}
use Rattle.pure_text.specs.Lists.{IsIn}
use Rattle.pure_definitions.specs.Types.Typ.{Typ, TVar, Con, none, also}
use Rattle.pure_definitions.specs.Terms.Term.{Free}
use Rattle.pure_definitions.specs.Types.Order.{Arity, Algebra, IsInclusion, IsClassBelow, itself, along, IsOfSort, IsJoin, AreDomainsBelow}
use Rattle.pure_definitions.specs.Terms.Subst.{IsSortRespecting, IsTypeRespecting, typ_image, term_image, AreSortRespecting}
use Rattle.pure_definitions.specs.Declarations.Decl.{ConDecl, ConstDecl, algebra_of, IsDeclaredClass}
use Rattle.pure_definitions.specs.Declarations.Certified.{IsInstance, IsCertifiedSort, IsCertifiedTyp, AreImagesCertified}
use Rattle.pure_term_laws.specs.LawsExamples.{i, j, k, c, d, e, g, sort_of, arity, class_above, ladder, crossing, fork, joined_fork, open_fork, falling}
use Rattle.pure_term_laws.specs.LawsOrder.{BelowExample, SortBelowExample, OfSortExample, WrongCountExample, UnevenIsNotCoregular, CertifiedPartsExample, CrossingIsNotCoregular, JoinedForkIsCoregular, OpenForkIsNotCoregular, FallingIsNotCoregular, declarations, CertifiedExample, NotCertifiedExample, CertifiedImagesExample}
use Rattle.pure_term_laws.specs.LawsSubst.{SortRespectExample, TypeRespectExample, for_a, for_x}
use Rattle.pure_definitions.proofs.OrderLaws.{not-below, upward-below}
use Rattle.pure_term_laws.proofs.SubstLaws.{entries-respect_sorts}

one : {P : Type 0} → P ⊎ ⊥ → P
one (inl p) = p
one (inr absent) = absurd absent

c-below_g : IsClassBelow ladder c g
c-below_g = along (class_above c (e ∷ []), inr (inr (inl refl)), refl, inl refl) (along (class_above e (g ∷ []), inr (inl refl), refl, inl refl) itself)

e-below_g : IsClassBelow ladder e g
e-below_g = along (class_above e (g ∷ []), inr (inl refl), refl, inl refl) itself

d-not_below_g : ¬ IsClassBelow ladder d g
d-not_below_g = not-below ladder (d ∷ []) d g refl refl refl

d-not_below_c : ¬ IsClassBelow ladder d c
d-not_below_c = not-below ladder (d ∷ []) d c refl refl refl

e-not_below_c : ¬ IsClassBelow ladder e c
e-not_below_c = not-below ladder (e ∷ g ∷ []) e c refl refl refl

pub below_example : BelowExample
below_example = (c-below_g, not-below ladder (g ∷ []) g c refl refl refl, not-below ladder (d ∷ []) d e refl refl refl)

pub sort_below_example : SortBelowExample
sort_below_example = ((inl c-below_g, tt), tt, (λ h. d-not_below_g (one h.0)), (λ h. h.0))

pub of_sort_example : OfSortExample
of_sort_example = (((arity c e, inl refl, refl, e-below_g, ((inl itself, tt), tt)), tt), not_of_c, not_of_g)
  where
    only : (a : Arity) → IsIn a ladder.arities → a ≡ arity c e
    only a h = elim h [ inl same ↦ same | inr absent ↦ absurd absent ]

    not_of_c : ¬ IsOfSort ladder (Con k (also (TVar 1 0 (sort_of c)) none)) (sort_of c)
    not_of_c h = let same = only h.0.0 h.0.1 in e-not_below_c (rw same at h.0.3)

    not_of_g : ¬ IsOfSort ladder (Con k (also (TVar 1 0 (sort_of d)) none)) (sort_of g)
    not_of_g h = let same = only h.0.0 h.0.1 in let args = rw same at h.0.4 in d-not_below_c (one args.0.0)

pub crossing_is_not_coregular : CrossingIsNotCoregular
crossing_is_not_coregular h =
    let below = (h (arity c e) (arity d e) (inl refl) (inr (inl refl)) refl).forth itself in
    not-below crossing (c ∷ []) c d refl refl refl (one below.0.0)

pub uneven_is_not_coregular : UnevenIsNotCoregular
uneven_is_not_coregular h = (h (arity c e) (record { con = k; domains = []; class = e }) (inl refl) (inr (inl refl)) refl).forth itself

pub wrong_count_example : WrongCountExample
wrong_count_example = (refused, tt)
  where
    refused : ¬ IsOfSort ladder (Con k none) (sort_of e)
    refused h = elim h.0.1 [ inl same ↦ (rw same at h.0.4) | inr absent ↦ absent ]

fork_c : (A : Algebra) → A.classes ≡ fork → IsInclusion A c e
fork_c A same = (class_above c (e ∷ []), rw same (inr (inl refl)), refl, inl refl)

fork_d : (A : Algebra) → A.classes ≡ fork → IsInclusion A d e
fork_d A same = (class_above d (e ∷ []), rw same (inr (inr (inl refl))), refl, inl refl)

pub open_fork_is_not_coregular : OpenForkIsNotCoregular
open_fork_is_not_coregular h =
    let joined = (h (arity c c) (arity d d) (inl refl) (inr (inl refl)) refl).joined e (along (fork_c open_fork refl) itself) (along (fork_d open_fork refl) itself) in
    no_join joined.0 joined.1
  where
    no_join : (q : Arity) → ¬ IsJoin open_fork (arity c c) (arity d d) e q
    no_join q join = elim join.declared [
      | inl same ↦ (let below = rw same at join.second in not-below open_fork (d ∷ e ∷ []) d c refl refl refl (one below.0.0))
      | inr rest ↦ elim rest [
        | inl same ↦ (let below = rw same at join.first in not-below open_fork (c ∷ e ∷ []) c d refl refl refl (one below.0.0))
        | inr absent ↦ absent
      ]
    ]

pub falling_is_not_coregular : FallingIsNotCoregular
falling_is_not_coregular h =
    let below = (h (arity d g) (arity c e) (inr (inl refl)) (inl refl) refl).forth (along (class_above g (e ∷ []), inr (inl refl), refl, inl refl) itself) in
    not-below falling (d ∷ []) d c refl refl refl (one below.0.0)

-- Each arity of the fork has its class for its domain.
square : (a : Arity) → IsIn a joined_fork.arities → (z : ℕ) × (a ≡ arity z z) × ((z ≡ e) ⊎ (z ≡ c) ⊎ (z ≡ d))
square a m = elim m [ inl same ↦ (e, same, inl refl) | inr n ↦ elim n [ inl same ↦ (c, same, inr (inl refl)) | inr o ↦ elim o [ inl same ↦ (d, same, inr (inr refl)) | inr absent ↦ absurd absent ] ] ]

to_e : (z : ℕ) → (z ≡ e) ⊎ (z ≡ c) ⊎ (z ≡ d) → IsClassBelow joined_fork z e
to_e z h = elim h [
  | inl same ↦ rw same itself
  | inr rest ↦ elim rest [ inl same ↦ rw same (along (fork_c joined_fork refl) itself) | inr same ↦ rw same (along (fork_d joined_fork refl) itself) ]
]

squares-below : (a b : Arity) (x y : ℕ) → a ≡ arity x x → b ≡ arity y y → IsClassBelow joined_fork x y → AreDomainsBelow joined_fork a b
squares-below a b x y p q h = rw (p, q) ((inl h, tt), tt)

-- a square arity above two others joins them
join_at : (a b : Arity) (x y z top : ℕ) → a ≡ arity x x → b ≡ arity y y → IsIn (arity z z) joined_fork.arities → IsClassBelow joined_fork x z → IsClassBelow joined_fork y z → IsClassBelow joined_fork z top
    → (q : Arity) × IsJoin joined_fork a b top q
join_at a b x y z top p q m h k l = (arity z z, record { declared = m; con = rw p refl; class = l; first = squares-below a (arity z z) x z p refl h; second = squares-below b (arity z z) y z q refl k })

-- Only e is above both c and d.
above_both : (top : ℕ) → IsClassBelow joined_fork c top → IsClassBelow joined_fork d top → top ≡ e
above_both top h k =
    let left = upward-below joined_fork (c ∷ e ∷ []) refl h (inl refl) in
    let right = upward-below joined_fork (d ∷ e ∷ []) refl k (inl refl) in
    elim left [ inl is_c ↦ elim right [ inl is_d ↦ absurd (cc) | inr rest ↦ one rest ] | inr rest ↦ one rest ]

-- the square arity that joins two
joining : (a b : Arity) (x y top : ℕ) → a ≡ arity x x → b ≡ arity y y → (x ≡ e) ⊎ (x ≡ c) ⊎ (x ≡ d) → (y ≡ e) ⊎ (y ≡ c) ⊎ (y ≡ d)
    → IsClassBelow joined_fork x top → IsClassBelow joined_fork y top → (q : Arity) × IsJoin joined_fork a b top q
joining a b x y top p q (inl is_e) v h k = join_at a b x y e top p q (inl refl) (rw is_e itself) (to_e y v) (rw is_e at h)
joining a b x y top p q (inr u) (inl is_e) h k = join_at a b x y e top p q (inl refl) (to_e x (inr u)) (rw is_e itself) (rw is_e at k)
joining a b x y top p q (inr (inl is_c)) (inr (inl also_c)) h k = join_at a b x y c top p q (inr (inl refl)) (rw is_c itself) (rw also_c itself) (rw is_c at h)
joining a b x y top p q (inr (inr is_d)) (inr (inr also_d)) h k = join_at a b x y d top p q (inr (inr (inl refl))) (rw is_d itself) (rw also_d itself) (rw is_d at h)
joining a b x y top p q (inr (inl is_c)) (inr (inr is_d)) h k =
    join_at a b x y e top p q (inl refl) (to_e x (inr (inl is_c))) (to_e y (inr (inr is_d))) (rw (above_both top (rw is_c at h) (rw is_d at k)) itself)
joining a b x y top p q (inr (inr is_d)) (inr (inl is_c)) h k =
    join_at a b x y e top p q (inl refl) (to_e x (inr (inr is_d))) (to_e y (inr (inl is_c))) (rw (above_both top (rw is_c at k) (rw is_d at h)) itself)

pub joined_fork_is_coregular : JoinedForkIsCoregular
joined_fork_is_coregular a b m n same = record {
  forth = λ h. squares-below a b u.0 v.0 u.1 v.1 (rw (u.1, v.1) at h);
  back = λ h. squares-below b a v.0 u.0 v.1 u.1 (rw (u.1, v.1) at h);
  joined = λ top h k. joining a b u.0 v.0 top u.1 v.1 u.2 v.2 (rw u.1 at h) (rw v.1 at k);
}
  where
    u : (z : ℕ) × (a ≡ arity z z) × ((z ≡ e) ⊎ (z ≡ c) ⊎ (z ≡ d))
    u = square a m

    v : (z : ℕ) × (b ≡ arity z z) × ((z ≡ e) ⊎ (z ≡ c) ⊎ (z ≡ d))
    v = square b n

pub sort_respect_example : SortRespectExample
sort_respect_example = (refused, ((inl itself, tt), tt))
  where
    refused : ¬ IsSortRespecting ladder (typ_image (for_a (TVar 2 0 (sort_of d)) ∷ []))
    refused h = let image = h.schematic 1 0 (sort_of c) in d-not_below_c (one image.0)

pub type_respect_example : TypeRespectExample
type_respect_example = (refused, (refl, tt))
  where
    refused : ¬ IsTypeRespecting (λ v. v) (term_image (for_x (Free 1 j) ∷ []))
    refused h = let image = h.schematic 40 0 i in cc

-- Class d isn't below c.
d-apart : ¬ IsClassBelow (algebra_of declarations) d c
d-apart = not-below (algebra_of declarations) (d ∷ []) d c refl refl refl

-- the one declared constant and its type
only_const : (n : ℕ) (T : Typ) → IsIn (ConstDecl n T) declarations → (n ≡ 40) × (T ≡ Con k (also (TVar 1 0 (sort_of c)) none))
only_const n T m = elim m [
  | inl same ↦ absurd (cc)
  | inr m ↦ elim m [
    | inl same ↦ absurd (cc)
    | inr m ↦ elim m [
      | inl same ↦ absurd (cc)
      | inr m ↦ elim m [
        | inl same ↦ absurd (cc)
        | inr m ↦
            elim m [ inl same ↦ absurd (cc) | inr m ↦ (cc (one m), cc (one m)) ]
      ]
    ]
  ]
]

only_instance : (T U : Typ) → IsIn (ConstDecl 40 T) declarations → IsInstance declarations T U → IsInstance declarations (Con k (also (TVar 1 0 (sort_of c)) none)) U
only_instance T U m h = let same = (only_const 40 T m).1 in rw same at h

pub certified_example : CertifiedExample
certified_example = record {
  parts = ((inr (inr (inr (inl refl))), ((inr (inr (inl refl)), tt), tt)), (Con k (also (TVar 1 0 (sort_of c)) none), inr (inr (inr (inr (inr (inl refl))))), instance));
  typ = Con k (also i none);
  typed = refl;
}
  where
    of_class_c : AreSortRespecting (algebra_of declarations) (for_a i ∷ [])
    of_class_c = (((record { con = 10; domains = []; class = c }, inl refl, refl, itself, tt), tt), tt)

    instance : IsInstance declarations (Con k (also (TVar 1 0 (sort_of c)) none)) (Con k (also i none))
    instance = record {
      typs = typ_image (for_a i ∷ []);
      matches = record { fixed = λ x s. refl; is = refl };
      respecting = entries-respect_sorts (algebra_of declarations) (for_a i ∷ []) of_class_c;
    }

no_sort : ¬ IsInstance declarations (Con k (also (TVar 1 0 (sort_of c)) none)) (Con k (also (TVar 1 0 (sort_of d)) none))
no_sort h =
    let is : h.typs (TVar 1 0 (sort_of c)) ≡ TVar 1 0 (sort_of d) = cc (h.matches.is) in
    let respecting = rw is at (h.respecting.schematic 1 0 (sort_of c)) in
    d-apart (one respecting.0)

no_match : ¬ IsInstance declarations (Con k (also (TVar 1 0 (sort_of c)) none)) i
no_match h = cc (h.matches.is)

not_declared : (T : Typ) → ¬ IsIn (ConstDecl 41 T) declarations
not_declared T m = let same = (only_const 41 T m).0 in omega arith

not_constructor : (n count : ℕ) → ¬ ((n ≡ 10) × (count ≡ 0)) → ¬ ((n ≡ k) × (count ≡ 1)) → ¬ IsIn (ConDecl n count) declarations
not_constructor n count first second m = elim m [
  | inl same ↦ cc
  | inr m ↦ elim m [
    | inl same ↦ cc
    | inr m ↦ elim m [
      | inl same ↦ first (cc, cc)
      | inr m ↦ elim m [
        | inl same ↦ second (cc, cc)
        | inr m ↦
            elim m [ inl same ↦ cc | inr m ↦ elim m [ inl same ↦ cc | inr absent ↦ absent ] ]
      ]
    ]
  ]
]

not_class : ¬ IsDeclaredClass declarations e
not_class h = elim h.1 [
  | inl same ↦ (let named : h.0.name ≡ c = cc in let wanted = h.2 in omega arith)
  | inr m ↦ elim m [
    | inl same ↦ (let named : h.0.name ≡ d = cc in let wanted = h.2 in omega arith)
    | inr m ↦ elim m [ inl same ↦ cc | inr m ↦ elim m [ inl same ↦ cc | inr m ↦ elim m [ inl same ↦ cc | inr m ↦ cc (one m) ] ] ]
  ]
]

not_ascending : ¬ IsStrictlyIncreasing (d ∷ c ∷ [])
not_ascending h = let first = h 0 (omega arith) in omega arith

certified_c : IsCertifiedSort declarations (sort_of c)
certified_c = ((λ n h. absurd (omega arith)), ((class_above c [], inl refl, refl), tt))

pub not_certified_example : NotCertifiedExample
not_certified_example = (
  (λ h. no_sort (only_instance h.parts.1.0 (Con k (also (TVar 1 0 (sort_of d)) none)) h.parts.1.1 h.parts.1.2)),
  (λ h. no_match (only_instance h.parts.1.0 i h.parts.1.1 h.parts.1.2)),
  (λ h. not_declared h.parts.1.0 h.parts.1.1),
  (λ h. not_constructor 13 0 (λ e. omega arith) (λ e. omega arith) h.parts.0),
  (λ h. not_constructor k 0 (λ e. omega arith) (λ e. omega arith) h.parts.0),
  (λ h. not_class h.parts.1.0),
  (λ h. not_ascending h.parts.0),
)

pub certified_images_example : CertifiedImagesExample
certified_images_example = (identity, (λ h. not_constructor 13 0 (λ e. omega arith) (λ e. omega arith) (h.schematic_typ 1 0 (sort_of c) certified_c).0))
  where
    identity : AreImagesCertified declarations (λ v. v) (λ v. v)
    identity = record { fixed_typ = λ x s h. h; schematic_typ = λ x i s h. h; fixed = λ x T h. h; schematic = λ x i T h. h }

pub certified_parts_example : CertifiedPartsExample
certified_parts_example = (
  (certified_i, (tt, certified_i)),
  (λ h. not_constructor 13 0 (λ e. omega arith) (λ e. omega arith) h.0.0),
  (λ h. not_declared h.1.1.0 h.1.1.1),
  (λ h. not_declared h.1.1.0 h.1.1.1),
  (λ h. not_declared h.0.1.0 h.0.1.1),
)
  where
    certified_i : IsCertifiedTyp declarations i
    certified_i = (inr (inr (inl refl)), tt)
