-- Laws of the contents of a session.
use Rattle.std.specs.Prelude.{◌≡◌, ℕ, List}
use Rattle.pure_definitions.specs.Names.{Label}
use Rattle.pure_typ.specs.NameTexts.{AreSessionTexts}
use Rattle.pure_logic.specs.Content.{TheoryId, Content}
use Rattle.pure_logic.specs.Beginning.{IsBeginning}
use Rattle.pure_lookup.specs.Laws.{IsInSession}
use Rattle.pure_method.specs.Theory.Begin.{MayBegin}
use Rattle.pure_method.specs.Theory.Refusals.{IsLabelAbove}
use Rattle.pure_session_laws.specs.Owned.{IsOwned}
use Rattle.pure_session_laws.specs.Ended.{AreEnded, IsGivenParents}

-- A theory may begin with parents that have ended, or Pure.
abbrev pub ParentsMayBegin : Type 0
ParentsMayBegin = (texts : List (List ℕ)) (ended : List Content) → AreSessionTexts texts → AreEnded texts ended
    → (theory : TheoryId) (parents : List Content) → IsGivenParents texts ended theory parents → MayBegin theory parents

-- The declarations of the content with which it begins are owned.
abbrev pub BeginningIsOwned : Type 0
BeginningIsOwned = (texts : List (List ℕ)) (ended : List Content) → AreEnded texts ended
    → (theory : TheoryId) (parents : List Content) → IsGivenParents texts ended theory parents → (Q : Content) → IsBeginning theory parents Q → IsOwned texts ended Q

-- That content is as look-ups ask of one.
abbrev pub BeginningIsInSession : Type 0
BeginningIsInSession = (texts : List (List ℕ)) (ended : List Content) → AreSessionTexts texts → AreEnded texts ended
    → (theory : TheoryId) (parents : List Content) → IsGivenParents texts ended theory parents → (Q : Content) → IsBeginning theory parents Q → IsInSession texts Q

-- A label with the theory's index comes after all labels of that content.
abbrev pub LabelsAreBelow : Type 0
LabelsAreBelow = (texts : List (List ℕ)) (ended : List Content) → AreEnded texts ended
    → (theory : TheoryId) (parents : List Content) → IsGivenParents texts ended theory parents → (Q : Content) → IsBeginning theory parents Q
    → (label : Label) → label.theory ≡ theory.index → IsLabelAbove Q.declarations label
