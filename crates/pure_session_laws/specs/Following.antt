-- Theories of a session that begin and end one after another, in load order.
use Rattle.std.specs.Prelude.{◌≡◌, ◌<◌, ℕ, ◌+◌, List, [], ◌∷◌, slice_get, Some}
use Rattle.pure_text.specs.Lists.{EachTwo}
use Rattle.pure_typ.specs.NameTexts.{HasText}
use Rattle.pure_logic.specs.Content.{TheoryId, Content, IsContent}
use Rattle.pure_logic.specs.PureContent.{pure_content}
use Rattle.pure_logic.specs.Beginning.{IsBeginning}
use Rattle.pure_graph.specs.Order.{Loaded}
use Rattle.pure_method.specs.Declare.Notes.{Note}
use Rattle.pure_method.specs.Declare.Fold.{AreDeclared}
use Rattle.pure_session_laws.specs.Owned.{IsLast}
use Rattle.pure_session_laws.specs.Ended.{AreEnded, IsGivenParents}
use Rattle.pure_session_laws.specs.Loaded.{IsLoadedSession}

-- The theory stands at this place in load order: its name's text is the loaded theory's name, and its index is one more than the place, since Pure has the index 0.
pub record IsTheoryAt (texts : List (List ℕ)) (theories : List Loaded) (place : ℕ) (t : TheoryId) (l : Loaded) : Type 0 where
  pub at : slice_get theories place ≡ Some l
  pub name : HasText texts t.name l.name
  pub index : t.index ≡ place + 1

-- Just the theories before this place have ended, with these last contents.
pub record HaveEnded (texts : List (List ℕ)) (theories : List Loaded) (place : ℕ) (ended : List Content) : Type 0 where
  pub ended_so : AreEnded texts ended
  pub before : (t : TheoryId) (P : Content) → IsLast ended t P → (k : ℕ) × (l : Loaded) × (k < place) × IsTheoryAt texts theories k t l
  pub each : (k : ℕ) → k < place → (t : TheoryId) × (l : Loaded) × (P : Content) × IsTheoryAt texts theories k t l × IsLast ended t P

-- The content is the last one of the theory with this index.
abbrev pub IsContentAt : (ended : List Content) → (index : ℕ) → Content → Type 0
IsContentAt ended index P = (t : TheoryId) × (t.index ≡ index) × IsLast ended t P

-- The contents are the last ones of the theories with these indexes, or Pure's alone where there is none.
abbrev pub AreContentsOf : (ended : List Content) → (indexes : List ℕ) → List Content → Type 0
AreContentsOf ended [] parents = parents ≡ pure_content ∷ []
AreContentsOf ended (p ∷ ps) parents = EachTwo (IsContentAt ended) (p ∷ ps) parents

-- At first none has ended.
abbrev pub NoneHasEnded : Type 0
NoneHasEnded = (texts : List (List ℕ)) (theories : List Loaded) → HaveEnded texts theories 0 []

-- When the theories before it have ended, the parents of a theory have last contents.
abbrev pub ParentsHaveEnded : Type 0
ParentsHaveEnded = (texts : List (List ℕ)) (theories : List Loaded) → IsLoadedSession texts theories → (place : ℕ) (ended : List Content) → HaveEnded texts theories place ended
    → (t : TheoryId) (l : Loaded) → IsTheoryAt texts theories place t l → (parents : List Content) × AreContentsOf ended l.parents parents

-- With these it is given what one that begins is.
abbrev pub NextIsGiven : Type 0
NextIsGiven = (texts : List (List ℕ)) (theories : List Loaded) → IsLoadedSession texts theories → (place : ℕ) (ended : List Content) → HaveEnded texts theories place ended
    → (t : TheoryId) (l : Loaded) → IsTheoryAt texts theories place t l → (parents : List Content) → AreContentsOf ended l.parents parents → IsGivenParents texts ended t parents

-- When it has gone through its commands, one more has ended.
abbrev pub NextHasEnded : Type 0
NextHasEnded = (texts : List (List ℕ)) (theories : List Loaded) → IsLoadedSession texts theories → (place : ℕ) (ended : List Content) → HaveEnded texts theories place ended
    → (t : TheoryId) (l : Loaded) → IsTheoryAt texts theories place t l → (parents : List Content) → AreContentsOf ended l.parents parents
    → (first last : Content) → IsBeginning t parents first → (notes : List Note) → AreDeclared texts l.source t.index 0 first l.text.commands notes last
    → IsContent last → HaveEnded texts theories (place + 1) (last ∷ ended)
