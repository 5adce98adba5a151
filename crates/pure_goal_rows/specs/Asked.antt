-- Theorems of which tests make goals.
use Rattle.std.specs.Prelude.{◌≡◌, List, []}
use Rattle.pure_text.specs.Lists.{Each}
use Rattle.pure_definitions.specs.Names.{protect_name}
use Rattle.pure_definitions.specs.Types.Typ.{Typ, prop}
use Rattle.pure_definitions.specs.Terms.Term.{Term, Const}
use Rattle.pure_definitions.specs.Terms.Typing.{HasType}
use Rattle.pure_definitions.specs.Reduction.Eta.{IsLongForm}
use Rattle.pure_logic.specs.Connectives.{protect_typ, protect, imp, eq, chain}
use Rattle.pure_logic.specs.Derivable.{Pair}
use Rattle.pure_theorem.specs.Shapes.{IsTyped}

-- the mark of a goal
abbrev pub mark : Term
mark = Const protect_name protect_typ

-- The term is a marked statement.
abbrev pub IsMarkedTerm : Term → Type 0
IsMarkedTerm t = (C : Term) × (t ≡ protect C)

-- It is a goal's proposition, with subgoals in long form.
pub record IsGoalProposition (t : Term) : Type 0 where
  pub subgoals : List Term
  pub statement : Term
  pub stands : t ≡ chain subgoals (protect statement)
  pub long : Each (λ A. IsLongForm A A) subgoals

-- The sides of the pair have one type.
abbrev pub HaveOneTyp : Pair → Type 0
HaveOneTyp p = (T : Typ) × HasType [] p.left T × HasType [] p.right T

-- The second term is an equation of propositions, whose left side is the first and whose right side has a type.
pub record Equates (subgoal e : Term) : Type 0 where
  pub right : Term
  pub is : e ≡ eq prop subgoal right
  pub typed : IsTyped right

-- It is so for the first subgoal of a goal's proposition.
pub record EquatesFirst (goal e : Term) : Type 0 where
  pub subgoal : Term
  pub rest : Term
  pub first : goal ≡ imp subgoal rest
  pub equates : Equates subgoal e
