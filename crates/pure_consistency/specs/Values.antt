-- The values of a finite model of Pure: points, truth values, and functions as tables of their arguments with their values.
use Rattle.std.specs.Prelude.{ℕ, Bool, true, false, ◌&&◌, nat_eq, if◌then◌else◌, List, [], ◌∷◌, map}
use Rattle.std.specs.List.{flat_map}

-- a point, of a type of which nothing is known; a truth value; or a function
mutual
  pub data Value : Type 0 where
    Point : (number : ℕ) → Value
    Truth : Bool → Value
    Function : Rows → Value

  -- a table: an argument with its value in each row
  pub data Rows : Type 0 where
    end : Rows
    row : (argument value : Value) → Rows → Rows

-- whether two values are the same
abbrev mutual
  pub value_eq : Value → Value → Bool
  value_eq (Point m) (Point n) = nat_eq m n
  value_eq (Truth true) (Truth true) = true
  value_eq (Truth false) (Truth false) = true
  value_eq (Function rs) (Function ss) = rows_eq rs ss
  value_eq _ _ = false

  pub rows_eq : Rows → Rows → Bool
  rows_eq end end = true
  rows_eq (row x v rs) (row y w ss) = value_eq x y && (value_eq v w && rows_eq rs ss)
  rows_eq _ _ = false

-- what a function has at an argument: the value in the first row with it
abbrev pub value_at : Rows → Value → Value
value_at end x = Point 0
value_at (row y v rs) x = if value_eq y x then v else value_at rs x

abbrev pub applied : (function argument : Value) → Value
applied (Function rs) x = value_at rs x
applied _ x = Point 0

-- the table of a function at these arguments
abbrev pub table : (arguments : List Value) → (Value → Value) → Rows
table [] f = end
table (x ∷ xs) f = row x (f x) (table xs f)

-- all tables with these arguments whose values are in that list
abbrev pub tables : (arguments values : List Value) → List Rows
tables [] vs = end ∷ []
tables (x ∷ xs) vs = flat_map (λ v. map (row x v) (tables xs vs)) vs

-- whether each value of the table is true
abbrev pub is_true_everywhere : Rows → Bool
is_true_everywhere end = true
is_true_everywhere (row x v rs) = value_eq v (Truth true) && is_true_everywhere rs

-- the two truth values
abbrev pub truths : List Value
truths = Truth false ∷ Truth true ∷ []

-- the first value of the list
abbrev pub first_of : List Value → Value
first_of [] = Point 0
first_of (v ∷ vs) = v
