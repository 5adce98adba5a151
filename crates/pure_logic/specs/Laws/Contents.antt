-- Laws of contents: merges, and the content with which a theory begins.
use Rattle.std.specs.Prelude.{◌≡◌, ◌↔◌, ◌⊎◌, List, Some}
use Rattle.pure_text.specs.Lists.{IsIn, Each, AnyOf, AreDistinct}
use Rattle.pure_definitions.specs.Declarations.Decl.{Decl}
use Rattle.pure_logic.specs.Content.{TheoryId, Content, AreNamedAlike, AreLabelledAlike, IsContent, IsBelow}
use Rattle.pure_logic.specs.PureContent.{pure_content}
use Rattle.pure_logic.specs.Beginning.{IsMerge, theories_of, ancestors_of, IsBeginning, AreToldApart, IsNewOver, HasTheoriesApart}

-- A merge has exactly the declarations of the parents, each once, and there is one merge at most.
abbrev pub MergeHasDeclarations : Type 0
MergeHasDeclarations = (parents : List Content) (merged : List Decl) → IsMerge parents merged → (decl : Decl) → IsIn decl merged ↔ AnyOf (λ Q. IsIn decl Q.declarations) parents

abbrev pub MergeHasNoRepeats : Type 0
MergeHasNoRepeats = (parents : List Content) (merged : List Decl) → IsMerge parents merged → AreDistinct merged

abbrev pub OneMerge : Type 0
OneMerge = (parents : List Content) (merged other : List Decl) → IsMerge parents merged → IsMerge parents other → merged ≡ other

-- The parents' declarations of one kind with one name are the same, and so are their promises with one label.
pub record AreAgreed (parents : List Content) : Type 0 where
  pub named_once : (x y : Decl) → AnyOf (λ Q. IsIn x Q.declarations) parents → AnyOf (λ Q. IsIn y Q.declarations) parents → AreNamedAlike x y → x ≡ y
  pub labelled_once : (x y : Decl) → AnyOf (λ Q. IsIn x Q.declarations) parents → AnyOf (λ Q. IsIn y Q.declarations) parents → AreLabelledAlike x y → x ≡ y

-- A theory whose parents are contents and agree begins with a content, and each parent is below it.
abbrev pub BeginningIsContent : Type 0
BeginningIsContent = (id : TheoryId) (parents : List Content) (Q : Content) → Each IsContent parents → AreAgreed parents → IsBeginning id parents Q → IsContent Q

abbrev pub ParentsAreBelow : Type 0
ParentsAreBelow = (id : TheoryId) (parents : List Content) (Q : Content) → IsBeginning id parents Q → Each (λ P. IsBelow P Q) parents

-- There is one content at most with which a theory begins.
abbrev pub OneBeginning : Type 0
OneBeginning = (id : TheoryId) (parents : List Content) (Q R : Content) → IsBeginning id parents Q → IsBeginning id parents R → Q ≡ R

-- The ancestors of a theory with these parents are exactly the parents' theories and the parents' ancestors, and each stands there once.
abbrev pub AncestorsAreTheParents : Type 0
AncestorsAreTheParents = (parents : List Content) (t : TheoryId) → IsIn t (ancestors_of parents) ↔ AnyOf (λ P. (P.own ≡ Some t) ⊎ IsIn t P.ancestors) parents

abbrev pub AncestorsHaveNoRepeats : Type 0
AncestorsHaveNoRepeats = (parents : List Content) → AreDistinct (ancestors_of parents)

-- Where the ancestors are told apart and the theory is new over them, the content with which it begins has its theories apart; and in such a content the own theory is told apart from the ancestors too.
abbrev pub BeginningHasTheoriesApart : Type 0
BeginningHasTheoriesApart = (id : TheoryId) (parents : List Content) (Q : Content) → AreToldApart (ancestors_of parents) → IsNewOver id (ancestors_of parents) → IsBeginning id parents Q → HasTheoriesApart Q

abbrev pub TheoriesAreToldApart : Type 0
TheoriesAreToldApart = (Q : Content) → HasTheoriesApart Q → AreToldApart (theories_of Q)

-- Pure's content, with which all theories begin, has its theories apart: it has none.
abbrev pub PureHasTheoriesApart : Type 0
PureHasTheoriesApart = HasTheoriesApart pure_content
