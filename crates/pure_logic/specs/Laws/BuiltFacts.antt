-- Laws of the built facts.
use Rattle.pure_text.specs.Lists.{Each}
use Rattle.pure_logic.specs.Content.{Content, IsBelow, IsStatement}
use Rattle.pure_logic.specs.PureContent.{pure_content}
use Rattle.pure_logic.specs.Derivable.{IsDerivableAlone}
use Rattle.pure_logic.specs.BuiltFacts.{built_facts}

-- Each built fact is derivable alone over Pure's content, and so over each content that has Pure's below it.
abbrev pub BuiltFactsAreDerivable : Type 0
BuiltFactsAreDerivable = Each (IsDerivableAlone pure_content) built_facts

abbrev pub BuiltFactsAreDerivableAbove : Type 0
BuiltFactsAreDerivableAbove = (Q : Content) → IsBelow pure_content Q → Each (IsDerivableAlone Q) built_facts

-- Each could be an axiom: it is a proposition of Pure's content without fixed variables and fixed type variables.
abbrev pub BuiltFactsAreStatements : Type 0
BuiltFactsAreStatements = Each (IsStatement pure_content) built_facts
