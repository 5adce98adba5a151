-- The test of values is equality; and what a table has at its arguments.
use Rattle.std.proofs.Common.{◌≡◌, ◌≢◌, ◌⊎◌, Bool, true, false, ◌&&◌, cond, List, [], ◌∷◌, inl, inr, refl, ap, sym, ◌∙◌}
use Rattle.std.proofs.lemmas.Bool.{eqb-true, eq-eqb}
use Rattle.std.specs.Cmp.{first_so, second_so}
use Rattle.std.specs.Cmp.Derive.{both_true}
use Rattle.pure_text.specs.Lists.{IsIn}
use Rattle.pure_consistency.specs.Values.{Value, Point, Truth, Function, Rows, end, row, value_eq, rows_eq, value_at, table, is_true_everywhere}

mutual
  pub value_eq-same : (v w : Value) → value_eq v w ≡ true → v ≡ w
  value_eq-same (Point m) (Point n) h = ap Point (eqb-true m n h)
  value_eq-same (Truth true) (Truth true) h = refl
  value_eq-same (Truth false) (Truth false) h = refl
  value_eq-same (Function rs) (Function ss) h = ap Function (rows_eq-same rs ss h)
  value_eq-same _ _ h = absurd (cc)

  rows_eq-same : (rs ss : Rows) → rows_eq rs ss ≡ true → rs ≡ ss
  rows_eq-same end end h = refl
  rows_eq-same (row x v rs) (row y w ss) h =
      let argument = value_eq-same x y (first_so (value_eq x y) (value_eq v w && rows_eq rs ss) h) in
      let rest = second_so (value_eq x y) (value_eq v w && rows_eq rs ss) h in
      let value = value_eq-same v w (first_so (value_eq v w) (rows_eq rs ss) rest) in
      let others = rows_eq-same rs ss (second_so (value_eq v w) (rows_eq rs ss) rest) in
      λ l. row (argument l) (value l) (others l)
  rows_eq-same _ _ h = absurd (cc)

mutual
  pub value_eq-itself : (v : Value) → value_eq v v ≡ true
  value_eq-itself (Point n) = eq-eqb n n refl
  value_eq-itself (Truth true) = refl
  value_eq-itself (Truth false) = refl
  value_eq-itself (Function rs) = rows_eq-itself rs

  rows_eq-itself : (rs : Rows) → rows_eq rs rs ≡ true
  rows_eq-itself end = refl
  rows_eq-itself (row x v rs) = both_true (value_eq-itself x) (both_true (value_eq-itself v) (rows_eq-itself rs))

-- what a condition chooses, by the side that holds
pub taken : {A : Type 0} (b : Bool) (x y : A) → b ≡ true → cond b x y ≡ x
taken true x y h = refl
taken false x y h = absurd (cc)

pub passed : {A : Type 0} (b : Bool) (x y : A) → b ≡ false → cond b x y ≡ y
passed true x y h = absurd (cc)
passed false x y h = refl

-- Two values are the same, or the test says that they aren't.
pub value_tells : (v w : Value) → ((value_eq v w ≡ true) × (v ≡ w)) ⊎ ((value_eq v w ≡ false) × (v ≢ w))
value_tells v w = by_test (value_eq v w) refl
  where
    by_test : (b : Bool) → value_eq v w ≡ b → ((value_eq v w ≡ true) × (v ≡ w)) ⊎ ((value_eq v w ≡ false) × (v ≢ w))
    by_test true h = inl (h, value_eq-same v w h)
    by_test false h = inr (h, λ e. let k = value_eq-itself w in let m : value_eq w w ≡ false = rw e at h in cc)

-- A table of a function has the function's value at each argument.
pub at-table : (xs : List Value) (f : Value → Value) (x : Value) → IsIn x xs → value_at (table xs f) x ≡ f x
at-table [] f x m = absurd m
at-table (y ∷ ys) f x m = elim (value_tells y x) [
  | inl same ↦ (taken (value_eq y x) (f y) (value_at (table ys f) x) same.0 ∙ ap f same.1)
  | inr other ↦ (passed (value_eq y x) (f y) (value_at (table ys f) x) other.0 ∙ at-table ys f x (elim m [ inl e ↦ absurd (other.1 (sym e)) | inr n ↦ n ]))
]

-- Tables of functions that agree at each argument are the same.
pub table-same : (xs : List Value) (f g : Value → Value) → ((x : Value) → IsIn x xs → f x ≡ g x) → table xs f ≡ table xs g
table-same [] f g h = refl
table-same (x ∷ xs) f g h =
    let first = h x (inl refl) in
    let others = table-same xs f g (λ y m. h y (inr m)) in
    λ l. row x (first l) (others l)

-- A table is true everywhere exactly where its function is true at each argument.
pub everywhere-at : (xs : List Value) (f : Value → Value) → is_true_everywhere (table xs f) ≡ true → (x : Value) → IsIn x xs → f x ≡ Truth true
everywhere-at [] f h x m = absurd m
everywhere-at (y ∷ ys) f h x (inl e) = ap f e ∙ value_eq-same (f y) (Truth true) (first_so (value_eq (f y) (Truth true)) (is_true_everywhere (table ys f)) h)
everywhere-at (y ∷ ys) f h x (inr m) = everywhere-at ys f (second_so (value_eq (f y) (Truth true)) (is_true_everywhere (table ys f)) h) x m

pub at-everywhere : (xs : List Value) (f : Value → Value) → ((x : Value) → IsIn x xs → f x ≡ Truth true) → is_true_everywhere (table xs f) ≡ true
at-everywhere [] f h = refl
at-everywhere (x ∷ xs) f h = both_true (ap (λ v. value_eq v (Truth true)) (h x (inl refl))) (at-everywhere xs f (λ y m. h y (inr m)))
