-- Laws of the search for a unifier: it loses no solution.
use Rattle.std.specs.Prelude.{ℕ, ◌+◌, ◌≤◌, List}
use Rattle.pure_text.specs.Lists.{IsIn, Each}
use Rattle.pure_definitions.specs.Types.Typ.{Typ}
use Rattle.pure_definitions.specs.Types.Order.{Algebra}
use Rattle.pure_definitions.specs.Terms.Term.{Term, Var}
use Rattle.pure_definitions.specs.Terms.Bounds.{Occurs}
use Rattle.pure_definitions.specs.Reduction.Eta.{IsLongForm}
use Rattle.pure_logic.specs.Derivable.{Pair}
use Rattle.pure_unify_definitions.specs.Node.{Node}
use Rattle.pure_unify_definitions.specs.Retyping.{Goes, Fails}
use Rattle.pure_unify_definitions.specs.Simplification.{Applies}
use Rattle.pure_unify_definitions.specs.Children.{IsChoice, children}
use Rattle.pure_unify_definitions.specs.Search.{NoUnifier, IsUnifyAnswer}
use Rattle.pure_solutions.specs.Solutions.{IsTermSubstitution, SolvesPairs}

-- Both sides are in long form.
abbrev pub AreLongSides : Pair → Type 0
AreLongSides p = IsLongForm p.left p.left × IsLongForm p.right p.right

-- The indexes of the schematic variables in a term, and in both sides of a pair, are at most this number.
abbrev pub HasVariablesUpTo : ℕ → Term → Type 0
HasVariablesUpTo n t = (x i : ℕ) (T : Typ) → Occurs (Var x i T) t → i ≤ n

abbrev pub AreVariablesUpTo : ℕ → Pair → Type 0
AreVariablesUpTo n p = HasVariablesUpTo n p.left × HasVariablesUpTo n p.right

-- What solves the pairs of a node, whose sides are in long form, solves those of what a step makes of it.
abbrev pub StepsKeepSolutions : Type 0
StepsKeepSolutions = (A : Algebra) (maxidx : ℕ) (n m : Node) → Applies A maxidx n (Goes m) → Each AreLongSides n.pairs
    → (terms : Term → Term) → IsTermSubstitution terms → SolvesPairs terms n.pairs → SolvesPairs terms m.pairs

-- A node that fails in a step has no solution.
abbrev pub FailuresHaveNoSolution : Type 0
FailuresHaveNoSolution = (A : Algebra) (maxidx : ℕ) (n : Node) → Applies A maxidx n Fails → Each AreLongSides n.pairs
    → (terms : Term → Term) → IsTermSubstitution terms → ¬ SolvesPairs terms n.pairs

-- Where a node with sides in long form has a solution, some child has one.
abbrev pub ChildrenKeepSolutions : Type 0
ChildrenKeepSolutions = (maxidx : ℕ) (m : Node) (flexible rigid : Term) → IsChoice m.pairs flexible rigid → Each AreLongSides m.pairs
    → Each (AreVariablesUpTo (maxidx + m.path.choices)) m.pairs → (terms : Term → Term) → IsTermSubstitution terms → SolvesPairs terms m.pairs
    → (c : Node) × IsIn c (children maxidx m flexible rigid) × (others : Term → Term) × IsTermSubstitution others × SolvesPairs others c.pairs

-- Where the search answers that there is no unifier, no map solves the given pairs; so no long map does.
abbrev pub NoUnifierIsFinal : Type 0
NoUnifierIsFinal = (A : Algebra) (maxidx : ℕ) (ps : List Pair) → Each (AreVariablesUpTo maxidx) ps → IsUnifyAnswer A maxidx ps NoUnifier
    → (terms : Term → Term) → IsTermSubstitution terms → ¬ SolvesPairs terms ps
