-- Occurrences that no substitution takes away: those on firm paths.
use Rattle.std.specs.Prelude.{ℕ, ◌+◌, nat_lt, Bool, true, false, ◌&&◌, ◌||◌}
use Rattle.pure_definitions.specs.Terms.Term.{Term, Const, Free, Var, Bound, Abs, App, term_eq}
use Rattle.pure_unify_definitions.specs.Fronts.{front}

-- whether a path through the arguments of this head is firm: it is a constant, a fixed variable, or bound by one of the `inner` abstractions around it that aren't the leading ones of the side
abbrev pub is_firm_head : (inner : ℕ) → Term → Bool
is_firm_head inner (Const c T) = true
is_firm_head inner (Free x T) = true
is_firm_head inner (Bound p) = nat_lt p inner
is_firm_head inner _ = false

abbrev mutual
  -- whether the variable stands at the end of a firm path into the term, which is an argument
  pub stands_in : (v : Term) → (inner : ℕ) → Term → Bool
  stands_in v inner (Abs T b) = stands_in v (inner + 1) b
  stands_in v inner (App f a) = term_eq v (front f) || (is_firm_head inner (front f) && (stands_in_arguments v inner f || stands_in v inner a))
  stands_in v inner t = term_eq v t

  -- the same of one of the arguments of an application
  pub stands_in_arguments : (v : Term) → (inner : ℕ) → Term → Bool
  stands_in_arguments v inner (App f a) = stands_in_arguments v inner f || stands_in v inner a
  stands_in_arguments v inner _ = false

-- whether the variable occurs on a firm path of the side: one that goes from the top through abstractions and through arguments of at least one head, and each head on it is firm
abbrev pub occurs_firmly : (v : Term) → Term → Bool
occurs_firmly v (Abs T b) = occurs_firmly v b
occurs_firmly v t = is_firm_head 0 (front t) && stands_in_arguments v 0 t
