-- What unification of patterns answers: which pairs it refuses, and what comes of the others.
use Rattle.std.specs.Prelude.{◌≡◌, ℕ, List, []}
use Rattle.pure_text.specs.Lists.{Each}
use Rattle.pure_definitions.specs.Types.Typ.{Typ}
use Rattle.pure_definitions.specs.Terms.Subst.{TermBind}
use Rattle.pure_definitions.specs.Terms.Typing.{HasType}
use Rattle.pure_definitions.specs.Reduction.Eta.{IsLongForm}
use Rattle.pure_logic.specs.Derivable.{Pair}
use Rattle.pure_theorem.specs.First.{IsFirstWith}
use Rattle.pure_unify_final.specs.Laws.{AreVariablesUpTo}
use Rattle.pure_pattern_laws.specs.Patterns.{IsPatternPair, HasSchematicTyp}
use Rattle.pure_pattern_laws.specs.Steps.{Outcome, Solved, Runs, start, given_binds}
use Rattle.pure_pattern_laws.specs.Steps as steps

-- The sides are in long form, and have one type.
pub record AreLongOfOneTyp (p : Pair) : Type 0 where
  pub left : IsLongForm p.left p.left
  pub right : IsLongForm p.right p.right
  pub typ : Typ
  pub left_typ : HasType [] p.left typ
  pub right_typ : HasType [] p.right typ

-- The condition: each pair is such, and the indexes of the schematic variables are at most `maxidx`.
pub record AreReady (maxidx : ℕ) (ps : List Pair) : Type 0 where
  pub sides : Each AreLongOfOneTyp ps
  pub indexes : Each (AreVariablesUpTo maxidx) ps

-- an answer: a refused pair, the images of the variables of the pairs, no unifier, too many steps, or something beyond the limits
pub data Answer : Type 0 where
  SchematicType : (index : ℕ) → Answer
  NotPattern : (index : ℕ) → Answer
  Unified : List TermBind → Answer
  NoUnifier : Answer
  Steps : Answer
  Big : Answer

-- what comes of steps, as an answer about the pairs
abbrev pub answer_of : List Pair → Outcome → Answer
answer_of ps (Solved bs) = Unified (given_binds ps bs)
answer_of ps steps.NoUnifier = NoUnifier
answer_of ps steps.Steps = Steps
answer_of ps steps.Big = Big

-- The answer about the pairs. The first pair with a schematic type variable is refused; where there is none, the first that isn't a pair of patterns.
pub data IsPatternAnswer (maxidx : ℕ) (ps : List Pair) : Answer → Type 0 where
  schematic_type : {index : ℕ} → IsFirstWith HasSchematicTyp ps index → IsPatternAnswer maxidx ps (SchematicType index)
  no_pattern : {index : ℕ} → Each (λ p. ¬ HasSchematicTyp p) ps → IsFirstWith (λ p. ¬ IsPatternPair p) ps index → IsPatternAnswer maxidx ps (NotPattern index)
  decided : {outcome : Outcome} {answer : Answer} → Each (λ p. ¬ HasSchematicTyp p) ps → Each IsPatternPair ps → Runs maxidx 0 (start ps) outcome → answer ≡ answer_of ps outcome → IsPatternAnswer maxidx ps answer
