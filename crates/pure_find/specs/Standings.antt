-- How a fact stands to a statement: whether the statement is an instance of it, as unification of patterns tells.
use Rattle.std.specs.Prelude.{◌≡◌, ◌⊎◌, [], ◌∷◌}
use Rattle.pure_definitions.specs.Terms.Term.{Term, IsWithin}
use Rattle.pure_definitions.specs.Reduction.Eta.{IsLongForm}
use Rattle.pure_unify_definitions.specs.Fronts.{pair}
use Rattle.pure_pattern_laws.specs.Answers.{Answer, Unified, NoUnifier, IsPatternAnswer}
use Rattle.pure_find.specs.declared.standing.Standing.{Standing}
use Rattle.pure_find.specs.declared.standing.Standing.TheVariants.{Match, Maybe, NoMatch}

-- u is the term's long form, and it is within the limits.
abbrev pub IsLongWithin : Term → Term → Type 0
IsLongWithin t u = IsLongForm t u × IsWithin u

-- The term has no long form within the limits.
abbrev pub LacksLongForm : Term → Type 0
LacksLongForm t = (u : Term) → ¬ IsLongWithin t u

-- what an answer about the pair of the two says of the fact: it matches where there is a most general unifier, it doesn't where there is none, and it may be so where the pair is refused or a limit is met
abbrev pub standing_by : Answer → Standing
standing_by (Unified bs) = Match
standing_by NoUnifier = NoMatch
standing_by _ = Maybe

-- How a fact that states P stands to the statement C. Their long forms are asked for a unifier by one pair, where both are there within the limits. Facts of theories have variables of index 0 alone, and C has none: its own variables are fixed.
pub data IsStanding (P C : Term) : Standing → Type 0 where
  asked : {p c : Term} {answer : Answer} {standing : Standing} → IsLongWithin P p → IsLongWithin C c → IsPatternAnswer 0 (pair p c ∷ []) answer → standing ≡ standing_by answer → IsStanding P C standing
  lacking : LacksLongForm P ⊎ LacksLongForm C → IsStanding P C Maybe
