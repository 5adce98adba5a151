-- A term that is held unchanged in an environment, which says what stands for its loose bound variables.
use Rattle.std.specs.Prelude.{ℕ, zero, suc, ◌+◌, max}
use Rattle.pure_definitions.specs.Terms.Term.{Term}
use Rattle.pure_definitions.specs.Terms.Bounds.{lift_term, subst_under}

-- An environment has nothing; or one binder more, whose variable stands for a term that is held in an environment of its own; or one binder more that stays; or is another, raised.
pub data Env : Type 0 where
  Empty : Env
  Bind : (term : Term) → (inner rest : Env) → Env
  Under : (rest : Env) → Env
  Raise : (by : ℕ) → (rest : Env) → Env

-- the term that is meant, under n binders of its own
abbrev pub meant_under : ℕ → Env → Term → Term
meant_under n Empty t = t
meant_under n (Bind c inner rest) t = subst_under n (meant_under 0 inner c) (meant_under (n + 1) rest t)
meant_under n (Under rest) t = meant_under (n + 1) rest t
meant_under n (Raise by rest) t = lift_term by n (meant_under n rest t)

-- the term that is meant
abbrev pub meant : Env → Term → Term
meant e t = meant_under 0 e t

-- how many environments stand in one another
abbrev pub env_height : Env → ℕ
env_height Empty = 0
env_height (Bind c inner rest) = 1 + max (env_height inner) (env_height rest)
env_height (Under rest) = 1 + env_height rest
env_height (Raise by rest) = 1 + env_height rest

-- The binders of so many bound variables, the innermost ones, stay.
abbrev pub Stay : ℕ → Env → Type 0
Stay zero e = Unit {0}
Stay (suc k) Empty = Unit {0}
Stay (suc k) (Bind c inner rest) = ⊥
Stay (suc k) (Under rest) = Stay k rest
Stay (suc k) (Raise by rest) = ⊥
