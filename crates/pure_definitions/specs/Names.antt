-- Names are numbers. The first six stand for what Pure itself declares. A label says where a promise was made.
use Rattle.std.specs.Prelude.{ℕ}

-- the type constructors `fun` and `prop`
abbrev pub fun_name : ℕ
fun_name = 0

abbrev pub prop_name : ℕ
prop_name = 1

-- the constants `all`, `imp`, `eq` and `protect`
abbrev pub all_name : ℕ
all_name = 2

abbrev pub imp_name : ℕ
imp_name = 3

abbrev pub eq_name : ℕ
eq_name = 4

abbrev pub protect_name : ℕ
protect_name = 5

-- how many names Pure itself declares
abbrev pub builtin_count : ℕ
builtin_count = 6

-- a promise's theory, the command in it, and the part of the command, each by its number
pub record Label : Type 0 where
  pub theory : ℕ
  pub command : ℕ
  pub part : ℕ
