-- What commands and the end of a theory keep.
use Rattle.std.specs.Prelude.{◌≡◌, ℕ, List, [], ◌∷◌, Some}
use Rattle.pure_definitions.specs.Names.{Label}
use Rattle.pure_grammar.specs.Theories.TheoryText.{Command}
use Rattle.pure_logic.specs.Content.{TheoryId, Content, IsContent}
use Rattle.pure_logic.specs.Beginning.{IsBeginning}
use Rattle.pure_lookup.specs.Laws.{IsInSession}
use Rattle.pure_method.specs.Declare.Notes.{Note}
use Rattle.pure_method.specs.Declare.Fold.{Declares, AreDeclared}
use Rattle.pure_session_laws.specs.Owned.{IsLast, IsOwned}
use Rattle.pure_session_laws.specs.Ended.{AreEnded, IsGivenParents}

-- A command whose label has the index of the content's own theory keeps the declarations owned.
abbrev pub CommandKeepsOwned : Type 0
CommandKeepsOwned = (texts : List (List ℕ)) (ended : List Content) (source : List ℕ) (label : Label) (Q : Content) (command : Command) (notes : List Note) (next : Content)
    → (theory : TheoryId) → Q.own ≡ Some theory → label.theory ≡ theory.index → IsOwned texts ended Q → Declares texts source label Q command notes next → IsOwned texts ended next

-- It keeps the content as look-ups ask of one.
abbrev pub CommandKeepsSession : Type 0
CommandKeepsSession = (texts : List (List ℕ)) (source : List ℕ) (label : Label) (Q : Content) (command : Command) (notes : List Note) (next : Content)
    → (theory : TheoryId) → Q.own ≡ Some theory → label.theory ≡ theory.index → IsInSession texts Q → Declares texts source label Q command notes next → IsInSession texts next

-- At first no theory has ended.
abbrev pub NothingHasEnded : Type 0
NothingHasEnded = (texts : List (List ℕ)) → AreEnded texts []

-- When a theory ends, that began with its parents and went through commands, its last content is one more of those that have ended, and is the theory's.
abbrev pub TheoryEnds : Type 0
TheoryEnds = (texts : List (List ℕ)) (ended : List Content) → AreEnded texts ended
    → (theory : TheoryId) (parents : List Content) → IsGivenParents texts ended theory parents
    → (first last : Content) → IsBeginning theory parents first
    → (source : List ℕ) (place : ℕ) (commands : List Command) (notes : List Note) → AreDeclared texts source theory.index place first commands notes last
    → IsContent last → AreEnded texts (last ∷ ended) × IsLast (last ∷ ended) theory last
