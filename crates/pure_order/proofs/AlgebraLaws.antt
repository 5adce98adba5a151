-- Reduced sorts, and algebras with the same declarations.
use Rattle.std.proofs.Common.{◌≡◌, ◌↔◌, ◌⊎◌, ℕ, List, [], ◌∷◌, refl, sym, inl, inr}
use Rattle.std.proofs.lemmas.Bool.Decides.{eqb_tells}
use Rattle.pure_text.specs.Lists.{IsIn}
use Rattle.pure_text.proofs.ListLaws.{any_of, any_some, any_decided, each_of, each_at}
use Rattle.pure_definitions.specs.Types.Typ.{Typ}
use Rattle.pure_definitions.specs.Types.Order.{Algebra, IsClassBelow, itself, HasClassBelow, IsSortBelow, IsOfSort, AreCompatible, IsCoregular}
use Rattle.pure_definitions.proofs.OrderLaws.{below-trans, below-more, HasMore, domains-more, sort_below-more, of_sort-more}
use Rattle.pure_order.specs.Domains.{IsAboveAnother, IsReduced}
use Rattle.pure_order_tables.specs.Classes.{IsAntisymmetric}
use Rattle.pure_order_tables.specs.Checks.{IsDecided}
use Rattle.pure_order.specs.Laws.{HaveSame}

-- Each class of a sort has one of it below it that has no other of it below it.
least_below : (A : Algebra) → IsDecided A → IsAntisymmetric A → (s : List ℕ) (c : ℕ) → IsIn c s → (b : ℕ) × IsIn b s × (¬ IsAboveAnother A s b) × IsClassBelow A b c
least_below A decided anti [] c m = absurd m
least_below A decided anti (x ∷ xs) c m = elim m [
  | inl e ↦ rw e (from_first (λ y n. least_below A decided anti xs y n))
  | inr later ↦ beside (λ y n. least_below A decided anti xs y n) (least_below A decided anti xs c later)
]
  where
    is_other_below : (d b : ℕ) → ((¬ (b ≡ d)) × IsClassBelow A b d) ⊎ ¬ ((¬ (b ≡ d)) × IsClassBelow A b d)
    is_other_below d b = elim (eqb_tells b d) [
      | inl w ↦ inr (λ h. h.0 w.1)
      | inr w ↦ elim (decided b d) [ inl k ↦ inl (w.1, k) | inr n ↦ inr (λ h. n h.1) ]
    ]

    Least : ℕ → Type 0
    Least d = (b : ℕ) × IsIn b (x ∷ xs) × (¬ IsAboveAnother A (x ∷ xs) b) × IsClassBelow A b d

    -- Where y is another class below x, a least one below y is one below x.
    under : (y : ℕ) → ¬ (y ≡ x) → IsClassBelow A y x → ((b : ℕ) × IsIn b xs × (¬ IsAboveAnother A xs b) × IsClassBelow A b y) → Least x
    under y other below w = (
      w.0,
      inr w.1,
      (λ h. elim h [
        | inl k ↦ other (anti y x below (below-trans k.1 w.3))
        | inr k ↦ w.2 k
      ]),
      below-trans w.3 below,
    )

    from_first : ((y : ℕ) → IsIn y xs → (b : ℕ) × IsIn b xs × (¬ IsAboveAnother A xs b) × IsClassBelow A b y) → Least x
    from_first rest = elim (any_decided (λ b. (¬ (b ≡ x)) × IsClassBelow A b x) (is_other_below x) xs) [
      | inl some ↦ (let y = any_some (λ b. (¬ (b ≡ x)) × IsClassBelow A b x) xs some in under y.0 y.2.0 y.2.1 (rest y.0 y.1))
      | inr none ↦ (x, inl refl, (λ h. elim h [ inl k ↦ k.0 refl | inr k ↦ none k ]), itself)
    ]

    beside : ((y : ℕ) → IsIn y xs → (b : ℕ) × IsIn b xs × (¬ IsAboveAnother A xs b) × IsClassBelow A b y) → ((b : ℕ) × IsIn b xs × (¬ IsAboveAnother A xs b) × IsClassBelow A b c) → Least c
    beside rest w = elim (is_other_below w.0 x) [
      | inl k ↦ (let l = from_first rest in (l.0, l.1, l.2, below-trans l.3 (below-trans k.1 w.3)))
      | inr n ↦ (w.0, inr w.1, (λ h. elim h [ inl k ↦ n k | inr k ↦ w.2 k ]), w.3)
    ]

-- A reduced sort and the sort are each below the other.
pub reduced_equivalent : (A : Algebra) → IsDecided A → IsAntisymmetric A → (s r : List ℕ) → IsReduced A s r → IsSortBelow A r s × IsSortBelow A s r
reduced_equivalent A decided anti s r reduced = (
  each_of (HasClassBelow A r) s (λ c m. (let w = least_below A decided anti s c m in any_of (λ b. IsClassBelow A b c) w.0 r ((reduced w.0).1 (w.1, w.2)) w.3)),
  each_of (HasClassBelow A s) r (λ c m. any_of (λ b. IsClassBelow A b c) c s ((reduced c).0 m).0 itself),
)

-- No class of a reduced sort is above another one of it.
pub reduced_least : (A : Algebra) (s r : List ℕ) → IsReduced A s r → (b c : ℕ) → IsIn b r → IsIn c r → IsClassBelow A b c → b ≡ c
reduced_least A s r reduced b c m n below = elim (eqb_tells b c) [
  | inl w ↦ w.1
  | inr w ↦ absurd (((reduced c).0 n).1 (any_of (λ x. (¬ (x ≡ c)) × IsClassBelow A x c) b s ((reduced b).0 m).0 (w.1, below)))
]

-- A class of s that has no other of s below it is in each sort r with which s is below each other.
least_in_both : (A : Algebra) → IsAntisymmetric A → (s r : List ℕ) → IsSortBelow A s r → IsSortBelow A r s → (c : ℕ) → IsIn c s → ¬ IsAboveAnother A s c → IsIn c r
least_in_both A anti s r h k c m least =
    let b = any_some (λ b. IsClassBelow A b c) r (each_at (HasClassBelow A r) s k c m) in
    let a = any_some (λ a. IsClassBelow A a b.0) s (each_at (HasClassBelow A s) r h b.0 b.1) in
    elim (eqb_tells a.0 c) [
      | inl w ↦ (let up : IsClassBelow A c b.0 = rw w.1 at a.2 in rw (anti c b.0 up b.2) b.1)
      | inr w ↦ absurd (least (any_of (λ x. (¬ (x ≡ c)) × IsClassBelow A x c) a.0 s a.1 (w.1, below-trans a.2 b.2)))
    ]

least_of_both : (A : Algebra) → IsAntisymmetric A → (s r : List ℕ) → IsSortBelow A s r → (c : ℕ) → ¬ IsAboveAnother A s c → ¬ IsAboveAnother A r c
least_of_both A anti s r h c least above =
    let b = any_some (λ b. (¬ (b ≡ c)) × IsClassBelow A b c) r above in
    let a = any_some (λ a. IsClassBelow A a b.0) s (each_at (HasClassBelow A s) r h b.0 b.1) in
    elim (eqb_tells a.0 c) [
      | inl w ↦ (let up : IsClassBelow A c b.0 = rw w.1 at a.2 in b.2.0 (sym (anti c b.0 up b.2.1)))
      | inr w ↦ least (any_of (λ x. (¬ (x ≡ c)) × IsClassBelow A x c) a.0 s a.1 (w.1, below-trans a.2 b.2.1))
    ]

reduced_among : (A : Algebra) → IsAntisymmetric A → (s r u v : List ℕ) → IsSortBelow A s r → IsSortBelow A r s → IsReduced A s u → IsReduced A r v → (c : ℕ) → IsIn c u → IsIn c v
reduced_among A anti s r u v h k left right c m =
    let w = (left c).0 m in
    (right c).1 (least_in_both A anti s r h k c w.0 w.1, least_of_both A anti s r h c w.1)

pub reduced_once : (A : Algebra) → IsAntisymmetric A → (s r u v : List ℕ) → IsSortBelow A s r → IsSortBelow A r s → IsReduced A s u → IsReduced A r v → (c : ℕ) → IsIn c u ↔ IsIn c v
reduced_once A anti s r u v h k left right c = (reduced_among A anti s r u v h k left right c, reduced_among A anti r s v u k h right left c)

pub class_below-same : (A B : Algebra) → HaveSame A B → (c d : ℕ) → IsClassBelow A c d ↔ IsClassBelow B c d
class_below-same A B same c d = (λ h. below-more A B (λ k. (same.classes k).0) h, λ h. below-more B A (λ k. (same.classes k).1) h)

pub sort_below-same : (A B : Algebra) → HaveSame A B → (s r : List ℕ) → IsSortBelow A s r ↔ IsSortBelow B s r
sort_below-same A B same s r = (sort_below-more A B (λ k. (same.classes k).0) s r, sort_below-more B A (λ k. (same.classes k).1) s r)

pub of_sort-same : (A B : Algebra) → HaveSame A B → (t : Typ) (s : List ℕ) → IsOfSort A t s ↔ IsOfSort B t s
of_sort-same A B same t s = (of_sort-more A B (λ k. (same.classes k).0) (λ a. (same.arities a).0) t s, of_sort-more B A (λ k. (same.classes k).1) (λ a. (same.arities a).1) t s)

same_back : (A B : Algebra) → HaveSame A B → HaveSame B A
same_back A B same = record { classes = λ k. ((same.classes k).1, (same.classes k).0); arities = λ a. ((same.arities a).1, (same.arities a).0) }

coregular-more : (A B : Algebra) → HaveSame A B → IsCoregular A → IsCoregular B
coregular-more A B same r a b m n con = record {
  forth = λ h. domains-more A B more a b (w.forth (below-more B A less h));
  back = λ h. domains-more A B more b a (w.back (below-more B A less h));
  joined = λ d h k. (let j = w.joined d (below-more B A less h) (below-more B A less k) in
      (j.0, record { declared = (same.arities j.0).0 j.1.declared; con = j.1.con; class = below-more A B more j.1.class; first = domains-more A B more a j.0 j.1.first; second = domains-more A B more b j.0 j.1.second }));
}
  where
    more : HasMore A B
    more k = (same.classes k).0

    less : HasMore B A
    less k = (same.classes k).1

    w : AreCompatible A a b
    w = r a b ((same.arities a).1 m) ((same.arities b).1 n) con

pub coregular-same : (A B : Algebra) → HaveSame A B → IsCoregular A ↔ IsCoregular B
coregular-same A B same = (coregular-more A B same, coregular-more B A (same_back A B same))
