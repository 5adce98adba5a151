-- Laws of unification of patterns.
use Rattle.std.specs.Prelude.{◌≡◌, ℕ, List, []}
use Rattle.pure_text.specs.Lists.{IsIn, Each}
use Rattle.pure_definitions.specs.Types.Typ.{Typ}
use Rattle.pure_definitions.specs.Terms.Term.{Term, Var}
use Rattle.pure_definitions.specs.Terms.Typing.{HasType}
use Rattle.pure_definitions.specs.Reduction.Eta.{IsLongForm}
use Rattle.pure_definitions.specs.Terms.Subst.{TermBind, term_image, inst_term, IsTermMap}
use Rattle.pure_logic.specs.Derivable.{Pair}
use Rattle.pure_reduction.specs.LongForms.{HasLongForm, HaveOneLongForm}
use Rattle.pure_unify_definitions.specs.Fronts.{pair_variables}
use Rattle.pure_solutions.specs.Solutions.{IsTermSubstitution, IsLongMap, SolvesPairs}
use Rattle.pure_pattern_laws.specs.Patterns.{IsPattern, IsPatternPair}
use Rattle.pure_pattern_laws.specs.Treatment.{Sets, IsTreated}
use Rattle.pure_pattern_laws.specs.Steps.{State, Follows}
use Rattle.pure_pattern_laws.specs.Putting.{put_in}
use Rattle.pure_pattern_laws.specs.Answers.{AreLongOfOneTyp, AreReady, Answer, Unified, NoUnifier, IsPatternAnswer}

-- Where a long map is put by renaming into a pattern in long form, that gives the long form of the pattern under the map.
abbrev pub PutInIsLongForm : Type 0
PutInIsLongForm = (terms : Term → Term) → IsLongMap terms → (t : Term) → IsLongForm t t → IsPattern t → HasLongForm (inst_term terms t) (put_in terms t)

-- Where the images are patterns, it gives a pattern.
abbrev pub PutInIsPattern : Type 0
PutInIsPattern = (terms : Term → Term) → IsLongMap terms → ((x i : ℕ) (T : Typ) → IsPattern (terms (Var x i T))) → (t : Term) → IsLongForm t t → IsPattern t → IsPattern (put_in terms t)

-- The entries' images are patterns in long form, of the types of their variables.
pub record IsPatternBind (b : TermBind) : Type 0 where
  pub typed : HasType [] b.image b.typ
  pub long : IsLongForm b.image b.image
  pub pattern : IsPattern b.image

-- The sides of the pairs are patterns in long form, of one type each; and the images are such.
pub record IsPatternState (s : State) : Type 0 where
  pub long : Each AreLongOfOneTyp s.pairs
  pub patterns : Each IsPatternPair s.pairs
  pub binds : Each IsPatternBind s.binds

-- The variables that a treatment sets have such images, and pairs that take a pair's place are of such sides; so each step leads from such a state to such a state.
abbrev pub SettingsArePatterns : Type 0
SettingsArePatterns = (index : ℕ) (p : Pair) → AreLongOfOneTyp p → IsPatternPair p → (bs : List TermBind) → IsTreated index p.left p.right (Sets bs) → Each IsPatternBind bs

abbrev pub StepsKeepPatterns : Type 0
StepsKeepPatterns = (index : ℕ) (s m : State) → IsPatternState s → Follows index s m → IsPatternState m

-- Pairs have one answer at most, and one at least.
abbrev pub OneAnswer : Type 0
OneAnswer = (maxidx : ℕ) (ps : List Pair) → AreReady maxidx ps → (a b : Answer) → IsPatternAnswer maxidx ps a → IsPatternAnswer maxidx ps b → a ≡ b

abbrev pub SomeAnswer : Type 0
SomeAnswer = (maxidx : ℕ) (ps : List Pair) → AreReady maxidx ps → (a : Answer) × IsPatternAnswer maxidx ps a

-- A unifier has one entry at most for a variable, so that it is a finite map.
abbrev pub UnifierIsMap : Type 0
UnifierIsMap = (maxidx : ℕ) (ps : List Pair) → AreReady maxidx ps → (bs : List TermBind) → IsPatternAnswer maxidx ps (Unified bs) → IsTermMap bs

-- A unifier solves the pairs.
abbrev pub UnifierSolves : Type 0
UnifierSolves = (maxidx : ℕ) (ps : List Pair) → AreReady maxidx ps → (bs : List TermBind) → IsPatternAnswer maxidx ps (Unified bs) → IsTermSubstitution (term_image bs) × SolvesPairs (term_image bs) ps

-- It is most general: for each long map that solves the pairs there is a long map such that, on the variables of the pairs, the first has the same long forms as the unifier followed by the second.
abbrev pub IsMostGeneral : List Pair → List TermBind → Type 0
IsMostGeneral ps bs = (terms : Term → Term) → IsLongMap terms → SolvesPairs terms ps
    → (others : Term → Term) × IsLongMap others × ((v : Term) → IsIn v (pair_variables ps) → HaveOneLongForm (terms v) (inst_term others (term_image bs v)))

abbrev pub UnifierIsMostGeneral : Type 0
UnifierIsMostGeneral = (maxidx : ℕ) (ps : List Pair) → AreReady maxidx ps → (bs : List TermBind) → IsPatternAnswer maxidx ps (Unified bs) → IsMostGeneral ps bs

-- Where there is no unifier, no map solves the pairs; so no long map does.
abbrev pub NoUnifierIsFinal : Type 0
NoUnifierIsFinal = (maxidx : ℕ) (ps : List Pair) → AreReady maxidx ps → IsPatternAnswer maxidx ps NoUnifier → (terms : Term → Term) → IsTermSubstitution terms → ¬ SolvesPairs terms ps
