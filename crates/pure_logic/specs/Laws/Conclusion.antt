-- Laws of what trees conclude: propositions of the content.
use Rattle.pure_text.specs.Lists.{Each}
use Rattle.pure_definitions.specs.Terms.Term.{Term}
use Rattle.pure_logic.specs.Content.{Content, IsContent, IsBelow, IsProposition}
use Rattle.pure_logic.specs.PureContent.{pure_content}
use Rattle.pure_logic.specs.Tree.{Tree, hyps_of}
use Rattle.pure_logic.specs.Concludes.{Concludes}
use Rattle.pure_logic.specs.Derivable.{Theorem, IsDerivable, IsDerivableAlone}

-- What a tree concludes over a content that has Pure's below it is a proposition of the content, certified and of type prop; and so are the hypotheses that the tree leaves open.
abbrev pub ConclusionIsProposition : Type 0
ConclusionIsProposition = (Q : Content) → IsContent Q → IsBelow pure_content Q → (d : Tree) (A : Term) → Concludes Q d A → IsProposition Q A × Each (IsProposition Q) (hyps_of d)

-- The proposition of a derivable theorem is a proposition of the content, also where it holds under pairs.
abbrev pub DerivableIsProposition : Type 0
DerivableIsProposition = (Q : Content) → IsContent Q → IsBelow pure_content Q → (th : Theorem) → IsDerivable Q th → IsProposition Q th.prop

-- What is derivable from the axioms alone is a proposition of the content.
abbrev pub DerivableAloneIsProposition : Type 0
DerivableAloneIsProposition = (Q : Content) → IsContent Q → IsBelow pure_content Q → (A : Term) → IsDerivableAlone Q A → IsProposition Q A
