-- How large and how deep a term is that is held in an environment, from what is known of what stands for its variables.
use Rattle.std.specs.Prelude.{ℕ, ◌-◌, nat_lt, if◌then◌else◌, List, [], ◌∷◌, slice_index_or}
use Rattle.pure_definitions.specs.Terms.Term.{Term, term_size, term_depth}
use Rattle.pure_norm.specs.declared.measure.Measure.{Measure}
use Rattle.pure_norm.specs.Env.{Env, Empty, Bind, Under, Raise, meant}

-- a term's size and depth
abbrev pub measure_of : Term → Measure
measure_of t = record { size = term_size t; depth = term_depth t }

-- those of a single node
abbrev pub one : Measure
one = record { size = 1; depth = 1 }

-- the measures of what stands for the bound variables, the innermost first
abbrev pub measures : Env → List Measure
measures Empty = []
measures (Bind c inner rest) = measure_of (meant inner c) ∷ measures rest
measures (Under rest) = one ∷ measures rest
measures (Raise by rest) = measures rest

-- the measure of what stands for a bound variable; one that stands for nothing else is a node
abbrev pub measure_at : List Measure → ℕ → Measure
measure_at ms p = slice_index_or ms p one

-- the measure of what is meant by a bound variable under n binders of its term's own
abbrev pub bound_measure : ℕ → List Measure → ℕ → Measure
bound_measure n ms p = if nat_lt p n then one else measure_at ms (p - n)
