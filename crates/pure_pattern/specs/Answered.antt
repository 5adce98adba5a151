-- What the call that unifies patterns answers, and what that says of solutions.
use Rattle.std.specs.Prelude.{ℕ, List, Result, Ok, Err}
use Rattle.pure_definitions.specs.Terms.Term.{Term}
use Rattle.pure_definitions.specs.Terms.Subst.{TermBind, term_image}
use Rattle.pure_logic.specs.Derivable.{Pair}
use Rattle.pure_solutions.specs.Solutions.{IsTermSubstitution, IsLongMap, SolvesPairs}
use Rattle.pure_pattern_laws.specs.Answers as answers
use Rattle.pure_pattern_laws.specs.Answers.{IsPatternAnswer}
use Rattle.pure_pattern.specs.declared.fault.PatternFault.{PatternFault}
use Rattle.pure_pattern.specs.declared.fault.PatternFault.TheVariants.{SchematicType, NotPattern, NoUnifier, Steps, Big, Memory}

-- The call's answer is the one about the pairs; or `Memory`.
abbrev pub IsAnswered : (maxidx : ℕ) → List Pair → Result (List TermBind) PatternFault → Type 0
IsAnswered maxidx ps (Ok bs) = IsPatternAnswer maxidx ps (answers.Unified bs)
IsAnswered maxidx ps (Err (SchematicType index)) = IsPatternAnswer maxidx ps (answers.SchematicType index)
IsAnswered maxidx ps (Err (NotPattern index)) = IsPatternAnswer maxidx ps (answers.NotPattern index)
IsAnswered maxidx ps (Err NoUnifier) = IsPatternAnswer maxidx ps answers.NoUnifier
IsAnswered maxidx ps (Err Steps) = IsPatternAnswer maxidx ps answers.Steps
IsAnswered maxidx ps (Err Big) = IsPatternAnswer maxidx ps answers.Big
IsAnswered maxidx ps (Err Memory) = Unit {0}

-- The map keeps types and fixed variables, and solves the pairs.
pub record IsSolution (ps : List Pair) (bs : List TermBind) : Type 0 where
  pub substitution : IsTermSubstitution (term_image bs)
  pub solves : SolvesPairs (term_image bs) ps

-- No long map solves the pairs, and no other map of schematic variables that keeps types and fixed variables.
pub record HaveNoSolution (ps : List Pair) : Type 0 where
  pub by_long : (terms : Term → Term) → IsLongMap terms → ¬ SolvesPairs terms ps
  pub by_any : (terms : Term → Term) → IsTermSubstitution terms → ¬ SolvesPairs terms ps

-- Where this is the answer that there is no unifier, nothing solves the pairs.
abbrev pub IsNoFinal : List Pair → Result (List TermBind) PatternFault → Type 0
IsNoFinal ps (Ok bs) = Unit {0}
IsNoFinal ps (Err NoUnifier) = HaveNoSolution ps
IsNoFinal ps (Err fault) = Unit {0}
