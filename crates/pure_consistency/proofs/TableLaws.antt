-- All tables with given arguments and values: which they are, that there are some, and that none is listed twice.
use Rattle.std.proofs.Common.{◌≡◌, false, List, [], ◌∷◌, ◌++◌, map, inl, inr, refl, ap, sym, subst, ◌∙◌}
use Rattle.std.specs.List.{flat_map}
use Rattle.pure_text.specs.Lists.{IsIn, AreDistinct}
use Rattle.pure_text.proofs.ListLaws.{in-append_left, in-append_right, in_split, in-map}
use Rattle.pure_consistency.specs.Values.{Value, Point, Rows, end, row, value_eq, value_at, table, tables}
use Rattle.pure_consistency.proofs.ValueLaws.{value_eq-itself, value_tells, taken, passed}

-- lists of lists joined, and mapped lists
in-joined : {A B : Type 0} (f : A → List B) (x : A) (xs : List A) (y : B) → IsIn x xs → IsIn y (f x) → IsIn y (flat_map f xs)
in-joined f x [] y m n = absurd m
in-joined f x (z ∷ zs) y (inl e) n = in-append_left y (f z) (flat_map f zs) (rw e at n)
in-joined f x (z ∷ zs) y (inr m) n = in-append_right y (f z) (flat_map f zs) (in-joined f x zs y m n)

joined-in : {A B : Type 0} (f : A → List B) (xs : List A) (y : B) → IsIn y (flat_map f xs) → (x : A) × IsIn x xs × IsIn y (f x)
joined-in f [] y m = absurd m
joined-in f (z ∷ zs) y m = elim (in_split y (f z) (flat_map f zs) m) [
  | inl n ↦ (z, inl refl, n)
  | inr n ↦ (let rest = joined-in f zs y n in (rest.0, inr rest.1, rest.2))
]

pub mapped-in : {A B : Type 0} (f : A → B) (xs : List A) (y : B) → IsIn y (map f xs) → (x : A) × IsIn x xs × (y ≡ f x)
mapped-in f [] y m = absurd m
mapped-in f (x ∷ xs) y (inl e) = (x, inl refl, e)
mapped-in f (x ∷ xs) y (inr m) = let rest = mapped-in f xs y m in (rest.0, inr rest.1, rest.2)

distinct-append : {A : Type 0} (xs ys : List A) → AreDistinct xs → AreDistinct ys → ((x : A) → IsIn x xs → ¬ IsIn x ys) → AreDistinct (xs ++ ys)
distinct-append [] ys d e apart = e
distinct-append (x ∷ xs) ys d e apart = (
  λ m. elim (in_split x xs ys m) [ inl n ↦ d.0 n | inr n ↦ apart x (inl refl) n ],
  distinct-append xs ys d.1 e (λ y m. apart y (inr m)),
)

pub distinct-mapped : {A B : Type 0} (f : A → B) (xs : List A) → ((x y : A) → f x ≡ f y → x ≡ y) → AreDistinct xs → AreDistinct (map f xs)
distinct-mapped f [] one d = tt
distinct-mapped f (x ∷ xs) one d = (
  λ m. (let same = mapped-in f xs (f x) m in d.0 (subst (λ y. IsIn y xs) (sym (one x same.0 same.2)) same.1)),
  distinct-mapped f xs one d.1,
)

-- what a row is made of
abbrev row_value : Rows → Value
row_value end = Point 0
row_value (row x v rs) = v

abbrev row_rest : Rows → Rows
row_rest end = end
row_rest (row x v rs) = rs

-- A table of those: its first row, and the rest.
row-in : (x : Value) (xs vs : List Value) (rs : Rows) → IsIn rs (tables (x ∷ xs) vs) → (v : Value) × (ss : Rows) × IsIn v vs × IsIn ss (tables xs vs) × (rs ≡ row x v ss)
row-in x xs vs rs m =
    let value = joined-in (λ v. map (row x v) (tables xs vs)) vs rs m in
    let rest = mapped-in (row x value.0) (tables xs vs) rs value.2 in
    (value.0, rest.0, value.1, rest.1, rest.2)

pub table-in : (xs vs : List Value) (f : Value → Value) → ((x : Value) → IsIn x xs → IsIn (f x) vs) → IsIn (table xs f) (tables xs vs)
table-in [] vs f h = inl refl
table-in (x ∷ xs) vs f h =
    in-joined (λ v. map (row x v) (tables xs vs)) (f x) vs (row x (f x) (table xs f)) (h x (inl refl))
    (in-map (row x (f x)) (table xs f) (tables xs vs) (table-in xs vs f (λ y m. h y (inr m))))

-- Such a table has at each argument one of the values.
pub value-in : (xs vs : List Value) (rs : Rows) → IsIn rs (tables xs vs) → (x : Value) → IsIn x xs → IsIn (value_at rs x) vs
value-in [] vs rs m x n = absurd n
value-in (y ∷ ys) vs rs m x n = let parts = row-in y ys vs rs m in
    rw parts.4 (elim (value_tells y x) [
      | inl same ↦ rw (taken (value_eq y x) parts.0 (value_at parts.1 x) same.0) parts.2
      | inr other ↦ rw (passed (value_eq y x) parts.0 (value_at parts.1 x) other.0) (value-in ys vs parts.1 parts.3 x (elim n [ inl e ↦ absurd (other.1 (sym e)) | inr k ↦ k ]))
    ])

-- Two such tables that have the same at each argument are one, where no argument is listed twice.
pub tables-agree : (xs vs : List Value) (rs ss : Rows) → AreDistinct xs → IsIn rs (tables xs vs) → IsIn ss (tables xs vs) → ((x : Value) → IsIn x xs → value_at rs x ≡ value_at ss x) → rs ≡ ss
tables-agree [] vs rs ss d m n h = elim m [ inl e ↦ elim n [ inl k ↦ e ∙ sym k | inr absent ↦ absurd absent ] | inr absent ↦ absurd absent ]
tables-agree (y ∷ ys) vs rs ss d m n h =
    let p = row-in y ys vs rs m in
    let q = row-in y ys vs ss n in
    let here : (v : Value) (us : Rows) → value_at (row y v us) y ≡ v = λ v us. taken (value_eq y y) v (value_at us y) (value_eq-itself y) in
    let value : p.0 ≡ q.0 = sym (ap (λ us. value_at us y) p.4 ∙ here p.0 p.1) ∙ (h y (inl refl) ∙ (ap (λ us. value_at us y) q.4 ∙ here q.0 q.1)) in
    let rest : p.1 ≡ q.1 = tables-agree ys vs p.1 q.1 d.1 p.3 q.3 (λ x k.
    let other : value_eq y x ≡ false = elim (value_tells y x) [ inl same ↦ absurd (d.0 (subst (λ z. IsIn z ys) (sym same.1) k)) | inr o ↦ o.0 ] in
    let behind : (v : Value) (us : Rows) → value_at (row y v us) x ≡ value_at us x = λ v us. passed (value_eq y x) v (value_at us x) other in
    sym (ap (λ us. value_at us x) p.4 ∙ behind p.0 p.1) ∙ (h x (inr k) ∙ (ap (λ us. value_at us x) q.4 ∙ behind q.0 q.1))) in
    p.4 ∙ ((λ l. row y (value l) (rest l)) ∙ sym q.4)

-- No table is listed twice, where no value is.
pub tables-distinct : (xs vs : List Value) → AreDistinct vs → AreDistinct (tables xs vs)
tables-distinct [] vs d = (λ m. m, tt)
tables-distinct (x ∷ xs) vs d = with_values (tables-distinct xs vs d) vs d
  where
    with_values : AreDistinct (tables xs vs) → (ws : List Value) → AreDistinct ws → AreDistinct (flat_map (λ v. map (row x v) (tables xs vs)) ws)
    with_values rest [] e = tt
    with_values rest (w ∷ ws) e = distinct-append (map (row x w) (tables xs vs)) (flat_map (λ v. map (row x v) (tables xs vs)) ws)
        (distinct-mapped (row x w) (tables xs vs) (λ rs ss same. ap row_rest same) rest)
        (with_values rest ws e.1)
        (λ rs m n.
        let here = mapped-in (row x w) (tables xs vs) rs m in
        let there = joined-in (λ v. map (row x v) (tables xs vs)) ws rs n in
        let other = mapped-in (row x there.0) (tables xs vs) rs there.2 in
        let same : w ≡ there.0 = ap row_value (sym here.2 ∙ other.2) in
        e.0 (subst (λ v. IsIn v ws) (sym same) there.1))
