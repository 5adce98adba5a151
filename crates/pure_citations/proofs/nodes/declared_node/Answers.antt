use Rattle.std.proofs.Common.{sym, ap}
use Rattle.pure_statements.specs.Rows.{definition_word}
use Rattle.pure_citations.specs.Nodes.{behind, axiom_node, definition_node}
use Rattle.pure_citations.proofs.NodeLaws.{axiom-behind, axiom-unbehind, if-same}
use Rattle.pure_citations.proofs.nodes.declared_node.Goals as goal

pub returns-in-Some : goal.returns-in-Some
returns-in-Some c = if-same _ _ _ (sym (ap (axiom_node (definition_node (behind definition_word c.args.head.now))) (axiom-behind _ _ c.in-Some.ensures))) c.make_node.ensures

pub returns-in-None : goal.returns-in-None
returns-in-None c = if-same _ _ _ (sym (ap (axiom_node (definition_node (behind definition_word c.args.head.now))) (axiom-unbehind _ c.in-None.ensures))) c.definition_node.ensures
