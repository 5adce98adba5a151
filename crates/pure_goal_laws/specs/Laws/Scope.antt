-- What the laws are laws of: the contents above Pure's.
use Rattle.pure_logic.specs.Content.{Content, IsContent, IsBelow}
use Rattle.pure_logic.specs.PureContent.{pure_content}

-- What holds of each content that has Pure's below it.
abbrev pub Above : (Content → Type 0) → Type 0
Above law = (Q : Content) → IsContent Q → IsBelow pure_content Q → law Q
