-- Sets as ascending lists: merged, without an element, and made of any list.
use Rattle.std.proofs.Common.{◌≡◌, ◌↔◌, ◌⊎◌, ℕ, ◌≤◌, ◌<◌, Bool, true, false, List, [], ◌∷◌, ◌++◌, length, get_or, ◌+◌, take, drop, ◌-◌, refl, ap, sym, ◌∙◌, inl, inr, subst, zero, suc, arith, append_assoc, length-drop}
use Rattle.std.proofs.lemmas.List.{take_all}
use Rattle.std.specs.Prelude.{if◌then◌else◌, nat_eq}
use Rattle.std.specs.declared.cmp.Ordering.{Ordering}
use Rattle.std.specs.declared.cmp.Ordering.TheVariants.{Less, Equal, Greater}
use Rattle.std.specs.Ordering.{nat_cmp, ordering_reverse, ordering_then, is_eq, eq_by_cmp}
use Rattle.std.specs.Set.{sorted_merge}
use Rattle.std.specs.Cmp.{IsTotalOrder, ranks, nat_cmp_total, then_total, on_total, eq_by_cmp_equiv, Equal-is}
use Rattle.std.specs.List.Sorted.{IsStrictlySortedBy, IsSorted, IsPermutation}
use Rattle.std.specs.List.{AllByRecursion, Contains, dedup}
use Rattle.std.proofs.lemmas.List.Kept.{Contains-dedup, Contains-from_dedup, IsStrictlySortedBy-dedup}
use Rattle.std.proofs.lemmas.List.Sorted.{Contains-permutation, IsPermutation-sym}
use Rattle.pure_text.specs.Lists.{IsIn}
use Rattle.pure_text.proofs.LoopLaws.{longer_by}
use Rattle.pure_text.proofs.ListLaws.{in_split, in-append_left, in-append_right, read_in}
use Rattle.pure_definitions.specs.Names.{Label}
use Rattle.pure_definitions.specs.Terms.Term.{Term, term_eq}
use Rattle.pure_definitions.specs.Models.Equality.{term_eq-same, term_eq-equiv}
use Rattle.pure_definitions.specs.Models.Comparison.{term_cmp, term_cmp-total, term_cmp-ties}
use Rattle.pure_logic.specs.Tree.{without}
use Rattle.pure_theorem.specs.Sets.{label_cmp, IsTermSet, IsLabelSet, IsSetOf}

-- An element of a list has what all have, and all have what each element has.
all_of : {K : Type 0} (P : K → Type 0) (xs : List K) → ((x : K) → IsIn x xs → P x) → AllByRecursion P xs
all_of P [] h = tt
all_of P (x ∷ xs) h = (h x (inl refl), all_of P xs (λ y m. h y (inr m)))

all-at : {K : Type 0} (P : K → Type 0) (x : K) (xs : List K) → AllByRecursion P xs → IsIn x xs → P x
all-at P x [] a m = absurd m
all-at P x (y ∷ ys) a m = elim m [ inl e ↦ subst P (sym e) a.0 | inr n ↦ all-at P x ys a.1 n ]

-- The lists are merged as far as places i and j.
pub record Merges {K : Type 0} (R : K → K → Ordering) (left right : List K) (i j : ℕ) (out : List K) : Type 0 where
  pub left_within : i ≤ length left
  pub right_within : j ≤ length right
  pub rest : out ++ sorted_merge R true (drop i left) (drop j right) ≡ sorted_merge R true left right

module _ {K : Type 0} (R : K → K → Ordering) where
  -- the union of two ascending lists
  abbrev merge : List K → List K → List K
  merge = sorted_merge R true

  merge-less : (x : K) (xs : List K) (y : K) (ys : List K) → R x y ≡ Less → merge (x ∷ xs) (y ∷ ys) ≡ x ∷ merge xs (y ∷ ys)
  merge-less x xs y ys e = rw e refl

  merge-equal : (x : K) (xs : List K) (y : K) (ys : List K) → R x y ≡ Equal → merge (x ∷ xs) (y ∷ ys) ≡ x ∷ merge xs ys
  merge-equal x xs y ys e = rw e refl

  merge-greater : (x : K) (xs : List K) (y : K) (ys : List K) → R x y ≡ Greater → merge (x ∷ xs) (y ∷ ys) ≡ y ∷ merge (x ∷ xs) ys
  merge-greater x xs y ys e = rw e refl

  -- One of the two lists is at its end.
  ended : (xs : List K) (i : ℕ) → length xs ≤ i → drop i xs ≡ []
  ended [] zero h = refl
  ended [] (suc i) h = refl
  ended (x ∷ xs) zero h = absurd (omega arith)
  ended (x ∷ xs) (suc i) h = ended xs i (omega arith)

  -- what is left of a list from a place on
  tail : (xs : List K) (i : ℕ) → take (length xs - i) (drop i xs) ≡ drop i xs
  tail xs i = take_all (length xs - i) (drop i xs) (rw length-drop (omega arith))

  right_none : (xs : List K) → xs ++ [] ≡ merge xs []
  right_none [] = refl
  right_none (x ∷ xs) = ap (λ ys. x ∷ ys) (right_none xs ∙ alone xs)
    where
      alone : (xs : List K) → merge xs [] ≡ xs
      alone [] = refl
      alone (x ∷ xs) = refl

  pub merges-all : (left right : List K) (i j : ℕ) (out : List K) → Merges R left right i j out → (length left ≤ i) ⊎ (length right ≤ j)
      → (out ++ take (length left - i) (drop i left)) ++ take (length right - j) (drop j right) ≡ merge left right
  merges-all left right i j out m end =
      (λ n. (out ++ tail left i n) ++ tail right j n) ∙ (append_assoc out (drop i left) (drop j right) ∙ (ap (λ zs. out ++ zs) (last end) ∙ m.rest))
    where
      last : (length left ≤ i) ⊎ (length right ≤ j) → drop i left ++ drop j right ≡ merge (drop i left) (drop j right)
      last (inl h) = rw (ended left i h) refl
      last (inr h) = rw (ended right j h) (right_none (drop i left))

  module _ (o : IsTotalOrder R) (tie : (x y : K) → R x y ≡ Equal → x ≡ y) where
    -- What stands in two lists merged stands in one of them, and the other way round.
    step : (c x : K) (xs : List K) (y : K) (ys : List K) (r : Ordering) → R x y ≡ r → (IsIn c (merge xs (y ∷ ys)) ↔ (IsIn c xs ⊎ IsIn c (y ∷ ys))) → (IsIn c (merge xs ys) ↔ (IsIn c xs ⊎ IsIn c ys))
        → (IsIn c (merge (x ∷ xs) ys) ↔ (IsIn c (x ∷ xs) ⊎ IsIn c ys)) → IsIn c (merge (x ∷ xs) (y ∷ ys)) ↔ (IsIn c (x ∷ xs) ⊎ IsIn c (y ∷ ys))
    step c x xs y ys Less e left both right = (
      λ m. elim (subst (IsIn c) (merge-less x xs y ys e) m) [ inl f ↦ inl (inl f) | inr n ↦ elim (left.0 n) [ inl a ↦ inl (inr a) | inr b ↦ inr b ] ],
      λ m. subst (IsIn c) (sym (merge-less x xs y ys e)) (elim m [ inl a ↦ elim a [ inl f ↦ inl f | inr n ↦ inr (left.1 (inl n)) ] | inr b ↦ inr (left.1 (inr b)) ]),
    )
    step c x xs y ys Equal e left both right = (
      λ m. elim (subst (IsIn c) (merge-equal x xs y ys e) m) [ inl f ↦ inl (inl f) | inr n ↦ elim (both.0 n) [ inl a ↦ inl (inr a) | inr b ↦ inr (inr b) ] ],
      λ m. subst (IsIn c) (sym (merge-equal x xs y ys e))
          (elim m [ inl a ↦ elim a [ inl f ↦ inl f | inr n ↦ inr (both.1 (inl n)) ] | inr b ↦ elim b [ inl f ↦ inl (f ∙ sym (tie x y e)) | inr n ↦ inr (both.1 (inr n)) ] ]),
    )
    step c x xs y ys Greater e left both right = (
      λ m. elim (subst (IsIn c) (merge-greater x xs y ys e) m) [ inl f ↦ inr (inl f) | inr n ↦ elim (right.0 n) [ inl a ↦ inl a | inr b ↦ inr (inr b) ] ],
      λ m. subst (IsIn c) (sym (merge-greater x xs y ys e)) (elim m [ inl a ↦ inr (right.1 (inl a)) | inr b ↦ elim b [ inl f ↦ inl f | inr n ↦ inr (right.1 (inr n)) ] ]),
    )

    in-merged : (c : K) (xs ys : List K) → IsIn c (merge xs ys) ↔ (IsIn c xs ⊎ IsIn c ys)
    in-merged c [] ys = (λ m. inr m, λ m. elim m [ inl n ↦ absurd n | inr n ↦ n ])
    in-merged c (x ∷ xs) ys = at ys (λ zs. in-merged c xs zs)
      where
        at : (ys : List K) → ((zs : List K) → IsIn c (merge xs zs) ↔ (IsIn c xs ⊎ IsIn c zs)) → IsIn c (merge (x ∷ xs) ys) ↔ (IsIn c (x ∷ xs) ⊎ IsIn c ys)
        at [] later = (λ m. inl m, λ m. elim m [ inl n ↦ n | inr n ↦ absurd n ])
        at (y ∷ ys) later = step c x xs y ys (R x y) refl (later (y ∷ ys)) (later ys) (at ys later)

    -- Two ascending lists, merged, ascend.
    all-merged : (P : K → Type 0) (xs ys : List K) → AllByRecursion P xs → AllByRecursion P ys → AllByRecursion P (merge xs ys)
    all-merged P xs ys a b = all_of P (merge xs ys) (λ z m. elim ((in-merged z xs ys).0 m) [ inl n ↦ all-at P z xs a n | inr n ↦ all-at P z ys b n ])

    -- each element of the list is above x
    abbrev Above : K → List K → Type 0
    Above x = AllByRecursion (λ z. R x z ≡ Less)

    above-less : (x y : K) (ys : List K) → R x y ≡ Less → Above y ys → Above x ys
    above-less x y ys e a = all_of (λ z. R x z ≡ Less) ys (λ z m. o.trans x y z e (all-at (λ z. R y z ≡ Less) z ys a m))

    step-ascends : (x : K) (xs : List K) (y : K) (ys : List K) (r : Ordering) → R x y ≡ r → Above x xs → Above y ys → IsStrictlySortedBy R (merge xs (y ∷ ys)) → IsStrictlySortedBy R (merge xs ys)
        → IsStrictlySortedBy R (merge (x ∷ xs) ys) → IsStrictlySortedBy R (merge (x ∷ xs) (y ∷ ys))
    unfolding IsStrictlySortedBy
    step-ascends x xs y ys Less e a b left both right =
        subst (IsStrictlySortedBy R) (sym (merge-less x xs y ys e)) (all-merged (λ z. R x z ≡ Less) xs (y ∷ ys) a (e, above-less x y ys e b), left)
    step-ascends x xs y ys Equal e a b left both right =
        subst (IsStrictlySortedBy R) (sym (merge-equal x xs y ys e)) (all-merged (λ z. R x z ≡ Less) xs ys a (subst (λ n. Above n ys) (sym (tie x y e)) b), both)
    step-ascends x xs y ys Greater e a b left both right =
        let less : R y x ≡ Less = o.antisymm y x ∙ ap ordering_reverse e in
        subst (IsStrictlySortedBy R) (sym (merge-greater x xs y ys e)) (all-merged (λ z. R y z ≡ Less) (x ∷ xs) ys (less, above-less y x xs less a) b, right)

    merged-sorted : (xs ys : List K) → IsStrictlySortedBy R xs → IsStrictlySortedBy R ys → IsStrictlySortedBy R (merge xs ys)
    unfolding IsStrictlySortedBy
    merged-sorted [] ys s t = t
    merged-sorted (x ∷ xs) ys s t = at ys t (λ zs. merged-sorted xs zs s.1)
      where
        at : (ys : List K) → IsStrictlySortedBy R ys → ((zs : List K) → IsStrictlySortedBy R zs → IsStrictlySortedBy R (merge xs zs)) → IsStrictlySortedBy R (merge (x ∷ xs) ys)
        at [] t later = s
        at (y ∷ ys) t later = step-ascends x xs y ys (R x y) refl s.0 t.0 (later (y ∷ ys) t) (later ys t.1) (at ys t.1 later)

    -- So the merge is the set of the elements of both.
    union-of : (left right all : List K) → all ≡ merge left right → IsStrictlySortedBy R left → IsStrictlySortedBy R right → IsSetOf R (left ++ right) all
    union-of left right all is h k = record {
      ascends = subst (IsStrictlySortedBy R) (sym is) (merged-sorted left right h k);
      members = λ x. (
        λ m. elim ((in-merged x left right).0 (subst (IsIn x) is m)) [ inl n ↦ in-append_left x left right n | inr n ↦ in-append_right x left right n ],
        λ m. subst (IsIn x) (sym is) ((in-merged x left right).1 (in_split x left right m)),
      );
    }

-- The order of terms, and that of labels.
term-tie : (t u : Term) → term_cmp t u ≡ Equal → t ≡ u
term-tie t u e = term_eq-same t u (term_cmp-ties t u ∙ ap is_eq e)

pub label_cmp-total : IsTotalOrder label_cmp
label_cmp-total =
    then_total (on_total (λ (l : Label). l.theory) nat_cmp_total) (then_total (on_total (λ (l : Label). l.command) nat_cmp_total) (on_total (λ (l : Label). l.part) nat_cmp_total))

number-tie : (m n : ℕ) → nat_cmp m n ≡ Equal → m ≡ n
number-tie m n h = rw h at (ranks m n)

first-equal : (r s : Ordering) → ordering_then r s ≡ Equal → r ≡ Equal
first-equal Less s h = h
first-equal Equal s h = refl
first-equal Greater s h = h

second-equal : (r s : Ordering) → ordering_then r s ≡ Equal → s ≡ Equal
second-equal Less s h = absurd (cc)
second-equal Equal s h = h
second-equal Greater s h = absurd (cc)

label-tie : (l m : Label) → label_cmp l m ≡ Equal → l ≡ m
label-tie l m h =
    let later = second-equal (nat_cmp l.theory m.theory) (ordering_then (nat_cmp l.command m.command) (nat_cmp l.part m.part)) h in
    let theory = number-tie l.theory m.theory (first-equal (nat_cmp l.theory m.theory) (ordering_then (nat_cmp l.command m.command) (nat_cmp l.part m.part)) h) in
    let command = number-tie l.command m.command (first-equal (nat_cmp l.command m.command) (nat_cmp l.part m.part) later) in
    let part = number-tie l.part m.part (second-equal (nat_cmp l.command m.command) (nat_cmp l.part m.part) later) in
    λ i. record { theory = theory i; command = command i; part = part i }

pub union_of_terms : (left right all : List Term) → all ≡ sorted_merge term_cmp true left right → IsTermSet left → IsTermSet right → IsSetOf term_cmp (left ++ right) all
union_of_terms = union-of term_cmp term_cmp-total term-tie

pub union_of_labels : (left right all : List Label) → all ≡ sorted_merge label_cmp true left right → IsLabelSet left → IsLabelSet right → IsSetOf label_cmp (left ++ right) all
union_of_labels = union-of label_cmp label_cmp-total label-tie

-- Nothing is a set, and so is one element.
pub no_terms : IsTermSet []
unfolding IsStrictlySortedBy
no_terms = tt

pub one_term : (A : Term) → IsTermSet (A ∷ [])
unfolding IsStrictlySortedBy
one_term A = (tt, tt)

pub no_labels : IsLabelSet []
unfolding IsStrictlySortedBy
no_labels = tt

pub one_label : (l : Label) → IsLabelSet (l ∷ [])
unfolding IsStrictlySortedBy
one_label l = (tt, tt)

-- A set without a term is a set.
all-without : (P : Term → Type 0) (A : Term) (Bs : List Term) → AllByRecursion P Bs → AllByRecursion P (without A Bs)
all-without P A [] h = tt
all-without P A (B ∷ Bs) h = pick (term_eq A B) (all-without P A Bs h.1)
  where
    pick : (b : Bool) → AllByRecursion P (without A Bs) → AllByRecursion P (if b then without A Bs else B ∷ without A Bs)
    pick true later = later
    pick false later = (h.0, later)

pub set-without : (A : Term) (Bs : List Term) → IsTermSet Bs → IsTermSet (without A Bs)
unfolding IsStrictlySortedBy
set-without A [] h = h
set-without A (B ∷ Bs) h = pick (term_eq A B) (set-without A Bs h.1)
  where
    pick : (b : Bool) → IsTermSet (without A Bs) → IsTermSet (if b then without A Bs else B ∷ without A Bs)
    pick true later = later
    pick false later = (all-without (λ C. term_cmp B C ≡ Less) A Bs h.0, later)

pub without-append : (A : Term) (Bs Cs : List Term) → without A (Bs ++ Cs) ≡ without A Bs ++ without A Cs
without-append A [] Cs = refl
without-append A (B ∷ Bs) Cs = pick (term_eq A B) (without-append A Bs Cs)
  where
    pick : (b : Bool) → without A (Bs ++ Cs) ≡ without A Bs ++ without A Cs → (if b then without A (Bs ++ Cs) else B ∷ without A (Bs ++ Cs)) ≡ (if b then without A Bs else B ∷ without A Bs) ++ without A Cs
    pick true later = later
    pick false later = ap (λ Ds. B ∷ Ds) later

-- one hypothesis more, which is the term, or another
pub without-same : (A B : Term) (kept : List Term) → A ≡ B → kept ≡ kept ++ without A (B ∷ [])
without-same A B kept e = rw (tested A B e) (none kept)
  where
    tested : (A B : Term) → A ≡ B → term_eq A B ≡ true
    tested A B e = subst (λ C. term_eq A C ≡ true) e (term_eq-equiv.refl A)

    none : (xs : List Term) → xs ≡ xs ++ []
    none [] = refl
    none (x ∷ xs) = ap (λ ys. x ∷ ys) (none xs)

pub without-other : (A B : Term) (kept more : List Term) → ¬ (A ≡ B) → more ≡ kept ++ B ∷ [] → more ≡ kept ++ without A (B ∷ [])
without-other A B kept more other e = rw (tested (term_eq A B) refl) e
  where
    tested : (b : Bool) → term_eq A B ≡ b → term_eq A B ≡ false
    tested true e = absurd (other (term_eq-same A B e))
    tested false e = e

-- one turn of a loop over the hypotheses
pub without-turn : (A : Term) (xs kept more : List Term) (i : ℕ) (r : Term) → i < length xs → r ≡ get_or xs i r → kept ≡ without A (take i xs) → more ≡ kept ++ without A (r ∷ []) → more ≡ without A (take (i + 1) xs)
without-turn A xs kept more i r within read before now =
    now ∙ (ap (λ zs. zs ++ without A (r ∷ [])) before ∙ (sym (without-append A (take i xs) (r ∷ [])) ∙ ap (without A) (sym (longer_by xs i r within read))))

-- An element in std's words.
contains-in : {K : Type 0} (x : K) (xs : List K) → Contains xs x → IsIn x xs
contains-in x xs c = read_in xs c.0 x c.1 (sym c.2)

in-contains : {K : Type 0} (x : K) (xs : List K) → IsIn x xs → Contains xs x
in-contains x [] m = absurd m
in-contains x (y ∷ ys) (inl e) = (0, omega arith, sym e)
in-contains x (y ∷ ys) (inr m) = let c = in-contains x ys m in (suc c.0, omega arith, c.2)

-- A list that was sorted and then rid of repeats is the set of its elements.
pub set_of_sorted : (terms sorted all : List Term) → IsPermutation terms sorted → IsSorted term_cmp sorted → all ≡ dedup term_eq sorted → IsSetOf term_cmp terms all
set_of_sorted terms sorted all moved ascends is = record {
  ascends = subst IsTermSet (sym is) (IsStrictlySortedBy-dedup term_cmp-total term_cmp-ties sorted ascends);
  members = λ x. (
    λ m. contains-in x terms (Contains-permutation sorted terms x (IsPermutation-sym terms sorted moved) (Contains-from_dedup term_eq sorted x (in-contains x (dedup term_eq sorted) (subst (IsIn x) is m)))),
    λ m. subst (IsIn x) (sym is) (contains-in x (dedup term_eq sorted) (Contains-dedup term_eq-equiv term_eq-same sorted x (Contains-permutation terms sorted x moved (in-contains x terms m)))),
  );
}
