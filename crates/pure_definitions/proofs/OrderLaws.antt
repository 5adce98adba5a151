-- The order of classes, of sorts and of domains, and types under it; the order of a finite algebra, decided.
use Rattle.std.proofs.Common.{◌≡◌, ℕ, List, [], ◌∷◌, ◌++◌, inl, inr, Bool, true, false, nat_eq, cond}
use Rattle.std.proofs.lemmas.Bool.{eq-eqb}
use Rattle.std.specs.List.{list_all}
use Rattle.std.specs.Cmp.{first_so, second_so}
use Rattle.pure_text.specs.Lists.{IsIn, Each, EachTwo}
use Rattle.pure_definitions.specs.Types.Typ.{Typ, TFree, TVar, Con, Typs, none, also}
use Rattle.pure_definitions.specs.Types.Order.{Class, Arity, Algebra, IsClassBelow, itself, along, HasClassBelow, IsSortBelow, AreDomainsBelow, IsOfClass, IsOfSort, AreOfSorts}
use Rattle.pure_definitions.specs.Terms.Subst.{typ_instance, typs_instance, IsSortRespecting}
use Rattle.pure_text.proofs.ListLaws.{each_of, any_of, any_some, any_imply, each_at, each_imply, in-append_left, in-append_right, is_in, in-is_in, is_in-in}

pub below-trans : {A : Algebra} {c d e : ℕ} → IsClassBelow A c d → IsClassBelow A d e → IsClassBelow A c e
below-trans itself k = k
below-trans (along i h) k = along i (below-trans h k)

-- More classes put more classes below others.
pub below-more : (A B : Algebra) → ((k : Class) → IsIn k A.classes → IsIn k B.classes) → {c d : ℕ} → IsClassBelow A c d → IsClassBelow B c d
below-more A B more itself = itself
below-more A B more (along i h) = along (i.0, more i.0 i.1, i.2, i.3) (below-more A B more h)

pub below_same : (A : Algebra) (c d : ℕ) → c ≡ d → IsClassBelow A c d
below_same A c d e = rw e itself

pub sort_below-itself : (A : Algebra) (s : List ℕ) → IsSortBelow A s s
sort_below-itself A s = each_of (HasClassBelow A s) s (λ c m. any_of (λ b. IsClassBelow A b c) c s m itself)

pub sort_below-trans : (A : Algebra) (s r t : List ℕ) → IsSortBelow A s r → IsSortBelow A r t → IsSortBelow A s t
sort_below-trans A s r t h k = each_of (HasClassBelow A s) t (λ d m.
    let c = any_some (λ b. IsClassBelow A b d) r (each_at (HasClassBelow A r) t k d m) in
    let b = any_some (λ x. IsClassBelow A x c.0) s (each_at (HasClassBelow A s) r h c.0 c.1) in
    any_of (λ x. IsClassBelow A x d) b.0 s b.1 (below-trans b.2 c.2))

pub two_same : (A : Algebra) (ss : List (List ℕ)) → EachTwo (IsSortBelow A) ss ss
two_same A [] = tt
two_same A (s ∷ ss) = (sort_below-itself A s, two_same A ss)

pub two-trans : (A : Algebra) (ss rs ts : List (List ℕ)) → EachTwo (IsSortBelow A) ss rs → EachTwo (IsSortBelow A) rs ts → EachTwo (IsSortBelow A) ss ts
two-trans A [] [] ts h k = k
two-trans A [] (r ∷ rs) ts h k = absurd h
two-trans A (s ∷ ss) [] ts h k = absurd h
two-trans A (s ∷ ss) (r ∷ rs) [] h k = absurd k
two-trans A (s ∷ ss) (r ∷ rs) (t ∷ ts) h k = (sort_below-trans A s r t h.0 k.0, two-trans A ss rs ts h.1 k.1)

pub domains_same : (A : Algebra) (a : Arity) → AreDomainsBelow A a a
domains_same A a = two_same A a.domains

pub domains-trans : (A : Algebra) (a b c : Arity) → AreDomainsBelow A a b → AreDomainsBelow A b c → AreDomainsBelow A a c
domains-trans A a b c h k = two-trans A a.domains b.domains c.domains h k

pub two_imply : (A B : Algebra) (ss rs : List (List ℕ)) (ok : List ℕ → Type 0) → Each ok ss → ((s r : List ℕ) → ok s → IsSortBelow A s r → IsSortBelow B s r) → EachTwo (IsSortBelow A) ss rs → EachTwo (IsSortBelow B) ss rs
two_imply A B [] [] ok each f h = tt
two_imply A B [] (r ∷ rs) ok each f h = absurd h
two_imply A B (s ∷ ss) [] ok each f h = absurd h
two_imply A B (s ∷ ss) (r ∷ rs) ok each f h = (f s r each.0 h.0, two_imply A B ss rs ok each.1 f h.1)

-- The classes of one algebra are among those of another.
abbrev pub HasMore : Algebra → Algebra → Type 0
HasMore A B = (k : Class) → IsIn k A.classes → IsIn k B.classes

pub domains-more : (A B : Algebra) → HasMore A B → (a b : Arity) → AreDomainsBelow A a b → AreDomainsBelow B a b
domains-more A B more a b h = two_imply A B a.domains b.domains (λ s. Unit {0}) (each_of (λ s. Unit {0}) a.domains (λ s m. tt)) (λ s r t k. each_of (HasClassBelow B s) r (λ d m. any_imply (λ x. IsClassBelow A x d) (λ x. IsClassBelow B x d) s (λ x w. below-more A B more w) (each_at (HasClassBelow A s) r k d m))) h

-- A type of a class is of each class above.
pub of_class_up : (A : Algebra) (t : Typ) (c d : ℕ) → IsOfClass A t c → IsClassBelow A c d → IsOfClass A t d
of_class_up A (TFree x s) c d h below = any_imply (λ b. IsClassBelow A b c) (λ b. IsClassBelow A b d) s (λ b k. below-trans k below) h
of_class_up A (TVar x i s) c d h below = any_imply (λ b. IsClassBelow A b c) (λ b. IsClassBelow A b d) s (λ b k. below-trans k below) h
of_class_up A (Con k ts) c d h below = (h.0, h.1, h.2, below-trans h.3 below, h.4)

-- A type of a sort is of each sort above.
pub of_sort_up : (A : Algebra) (t : Typ) (s r : List ℕ) → IsOfSort A t s → IsSortBelow A s r → IsOfSort A t r
of_sort_up A t s r h below = each_of (IsOfClass A t) r (λ d m.
    let c = any_some (λ b. IsClassBelow A b d) s (each_at (HasClassBelow A s) r below d m) in
    of_class_up A t c.0 d (each_at (IsOfClass A t) s h c.0 c.1) c.2)

pub of_sorts_up : (A : Algebra) (ts : Typs) (ss rs : List (List ℕ)) → AreOfSorts A ts ss → EachTwo (IsSortBelow A) ss rs → AreOfSorts A ts rs
of_sorts_up A none [] [] h k = tt
of_sorts_up A none [] (r ∷ rs) h k = k
of_sorts_up A none (s ∷ ss) rs h k = absurd h
of_sorts_up A (also t ts) [] rs h k = absurd h
of_sorts_up A (also t ts) (s ∷ ss) [] h k = k
of_sorts_up A (also t ts) (s ∷ ss) (r ∷ rs) h k = (of_sort_up A t s r h.0 k.0, of_sorts_up A ts ss rs h.1 k.1)

-- A type of a sort is of each class that has one of the sort below it.
pub of_class_up_from : (A : Algebra) (t : Typ) (s : List ℕ) (c : ℕ) → IsOfSort A t s → HasClassBelow A s c → IsOfClass A t c
of_class_up_from A t s c h k = let b = any_some (λ b. IsClassBelow A b c) s k in of_class_up A t b.0 c (each_at (IsOfClass A t) s h b.0 b.1) b.2

-- A map that respects sorts makes of a type of a sort another of that sort.
module _ (A : Algebra) (typs : Typ → Typ) (r : IsSortRespecting A typs) where
  mutual
    pub of_class-instance : (t : Typ) (c : ℕ) → IsOfClass A t c → IsOfClass A (typ_instance typs t) c
    of_class-instance (TFree x s) c h = of_class_up_from A (typs (TFree x s)) s c (r.fixed x s) h
    of_class-instance (TVar x i s) c h = of_class_up_from A (typs (TVar x i s)) s c (r.schematic x i s) h
    of_class-instance (Con k ts) c h = (h.0, h.1, h.2, h.3, of_sorts-instance ts h.0.domains h.4)

    pub of_sorts-instance : (ts : Typs) (ss : List (List ℕ)) → AreOfSorts A ts ss → AreOfSorts A (typs_instance typs ts) ss
    of_sorts-instance none [] h = tt
    of_sorts-instance none (s ∷ ss) h = h
    of_sorts-instance (also t ts) [] h = h
    of_sorts-instance (also t ts) (s ∷ ss) h = (each_imply (IsOfClass A t) (IsOfClass A (typ_instance typs t)) s (of_class-instance t) h.0, of_sorts-instance ts ss h.1)

  pub of_sort-instance : (t : Typ) (s : List ℕ) → IsOfSort A t s → IsOfSort A (typ_instance typs t) s
  of_sort-instance t s h = each_imply (IsOfClass A t) (IsOfClass A (typ_instance typs t)) s (of_class-instance t) h

-- With more declarations more is below and of a sort.
pub sort_below-more : (A B : Algebra) → HasMore A B → (s r : List ℕ) → IsSortBelow A s r → IsSortBelow B s r
sort_below-more A B more s r h = each_imply (HasClassBelow A s) (HasClassBelow B s) r (λ d. any_imply (λ b. IsClassBelow A b d) (λ b. IsClassBelow B b d) s (λ b k. below-more A B more k)) h

module _ (A B : Algebra) (more : HasMore A B) (arities : (a : Arity) → IsIn a A.arities → IsIn a B.arities) where
  mutual
    pub of_class-more : (t : Typ) (c : ℕ) → IsOfClass A t c → IsOfClass B t c
    of_class-more (TFree x s) c h = any_imply (λ b. IsClassBelow A b c) (λ b. IsClassBelow B b c) s (λ b k. below-more A B more k) h
    of_class-more (TVar x i s) c h = any_imply (λ b. IsClassBelow A b c) (λ b. IsClassBelow B b c) s (λ b k. below-more A B more k) h
    of_class-more (Con k ts) c h = (h.0, arities h.0 h.1, h.2, below-more A B more h.3, of_sorts-more ts h.0.domains h.4)

    pub of_sorts-more : (ts : Typs) (ss : List (List ℕ)) → AreOfSorts A ts ss → AreOfSorts B ts ss
    of_sorts-more none [] h = tt
    of_sorts-more none (s ∷ ss) h = h
    of_sorts-more (also t ts) [] h = h
    of_sorts-more (also t ts) (s ∷ ss) h = (each_imply (IsOfClass A t) (IsOfClass B t) s (of_class-more t) h.0, of_sorts-more ts ss h.1)

  pub of_sort-more : (t : Typ) (s : List ℕ) → IsOfSort A t s → IsOfSort B t s
  of_sort-more t s h = each_imply (IsOfClass A t) (IsOfClass B t) s (of_class-more t) h

-- the classes that are declared to be above a class
abbrev pub directly_above : List Class → ℕ → List ℕ
directly_above [] c = []
directly_above (k ∷ ks) c = cond (nat_eq k.name c) (k.above ++ directly_above ks c) (directly_above ks c)

inclusion-above : (ks : List Class) (c d : ℕ) (k : Class) → IsIn k ks → k.name ≡ c → IsIn d k.above → IsIn d (directly_above ks c)
inclusion-above [] c d k m e h = absurd m
inclusion-above (l ∷ ks) c d k m e h =
    elim m [
      | inl same ↦ (let named : l.name ≡ c = cc in let test = eq-eqb l.name c named in let above : k.above ≡ l.above = cc in rw test (in-append_left d l.above (directly_above ks c) (rw above at h)))
      | inr n ↦ later (nat_eq l.name c) (inclusion-above ks c d k n e h)
    ]
  where
    later : (b : Bool) → IsIn d (directly_above ks c) → IsIn d (cond b (l.above ++ directly_above ks c) (directly_above ks c))
    later true n = in-append_right d l.above (directly_above ks c) n
    later false n = n

all-at : (p : ℕ → Bool) (n : ℕ) (ms : List ℕ) → list_all p ms ≡ true → IsIn n ms → p n ≡ true
all-at p n [] h m = absurd m
all-at p n (x ∷ xs) h m = elim m [ inl e ↦ rw e (first_so (p x) (list_all p xs) h) | inr k ↦ all-at p n xs (second_so (p x) (list_all p xs) h) k ]

-- whether the classes above those of the list are in it too
abbrev pub is_upward : List Class → List ℕ → Bool
is_upward ks up = list_all (λ c. list_all (λ d. is_in d up) (directly_above ks c)) up

pub upward-below : (A : Algebra) (up : List ℕ) → is_upward A.classes up ≡ true → {c d : ℕ} → IsClassBelow A c d → IsIn c up → IsIn d up
upward-below A up closed itself m = m
upward-below A up closed (along {c = c} {b = b} k h) m =
    let above = inclusion-above A.classes c b k.0 k.1 k.2 k.3 in
    let each = all-at (λ x. list_all (λ y. is_in y up) (directly_above A.classes x)) c up closed m in
    upward-below A up closed h (is_in-in b up (all-at (λ y. is_in y up) b (directly_above A.classes c) each above))

-- What isn't in an upward list is above none of its classes.
pub not-below : (A : Algebra) (up : List ℕ) (c d : ℕ) → is_upward A.classes up ≡ true → is_in c up ≡ true → is_in d up ≡ false → ¬ IsClassBelow A c d
not-below A up c d closed has lacks h =
    let there = in-is_in d up (upward-below A up closed h (is_in-in c up has)) in cc
