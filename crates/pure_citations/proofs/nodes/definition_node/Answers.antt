use Rattle.std.proofs.Common.{◌∙◌, sym, ap}
use Rattle.pure_citations.specs.Nodes.{node, definition_node}
use Rattle.pure_citations.specs.declared.nodes.Kind.TheVariants as kind
use Rattle.pure_citations.proofs.NodeLaws.{definition-behind, definition-unbehind, if-same}
use Rattle.pure_citations.proofs.nodes.definition_node.Goals as goal

pub returns-in_ok-full-in-Some : goal.returns-in_ok-full-in-Some
returns-in_ok-full-in-Some c = if-same _ _ _ (ap (node kind.Definition) (c.as_slice.ensures.value ∙ c.in_ok-full-in-Some.ensures) ∙ sym (ap definition_node (definition-behind _ _ c.in-Some.ensures))) c.make_node.ensures

pub returns-in-None : goal.returns-in-None
returns-in-None c = sym (ap definition_node (definition-unbehind _ c.in-None.ensures))
