-- What the answer says that there is no unifier: it is final.
use Rattle.std.specs.Prelude.{ℕ, List, Result, Ok, Err}
use Rattle.pure_text.specs.Lists.{Each}
use Rattle.pure_definitions.specs.Terms.Term.{Term}
use Rattle.pure_logic.specs.Derivable.{Pair}
use Rattle.pure_solutions.specs.Solutions.{IsTermSubstitution, IsLongMap, SolvesPairs}
use Rattle.pure_unify_final.specs.Laws.{AreVariablesUpTo}
use Rattle.pure_unify.specs.declared.unifier.Unifier.{Unifier}
use Rattle.pure_unify.specs.declared.fault.UnifyFault.{UnifyFault}
use Rattle.pure_unify.specs.declared.fault.UnifyFault.TheVariants.{NoUnifier}

-- The index of each schematic variable in the pairs is at most `maxidx`.
pub record HaveIndexesUpTo (maxidx : ℕ) (ps : List Pair) : Type 0 where
  pub variables : Each (AreVariablesUpTo maxidx) ps

-- No long map solves the pairs, and no other map of schematic variables that keeps types and fixed variables.
pub record AreUnsolvable (ps : List Pair) : Type 0 where
  pub by_long : (terms : Term → Term) → IsLongMap terms → ¬ SolvesPairs terms ps
  pub by_any : (terms : Term → Term) → IsTermSubstitution terms → ¬ SolvesPairs terms ps

-- Where this is the answer that there is no unifier, nothing solves the pairs.
abbrev pub IsNoFinal : List Pair → Result Unifier UnifyFault → Type 0
IsNoFinal ps (Ok u) = Unit {0}
IsNoFinal ps (Err NoUnifier) = AreUnsolvable ps
IsNoFinal ps (Err fault) = Unit {0}
