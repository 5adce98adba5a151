use Rattle.std.proofs.Common.{◌++◌, ◌∙◌, ap, sym}
use Rattle.std.proofs.lemmas.List.{append-nil}
use Rattle.pure_citations.proofs.NodeLaws.{line-found, line-none}
use Rattle.pure_citations.proofs.drawn.put_if_in.Goals as goal

pub returns-in_ok-put_node_line-in-Some : goal.returns-in_ok-put_node_line-in-Some
returns-in_ok-put_node_line-in-Some c = c.in_ok-put_node_line-in-Some.ensures ∙ ap (λ t. c.args.text.now.items ++ t) (sym (line-found c.args.beginning.now _ c.args.node.now (rw c.bytes.ensures at c.in-Some.ensures)))

pub returns-in-None : goal.returns-in-None
returns-in-None c = sym (append-nil c.args.text.now.items) ∙ ap (λ t. c.args.text.now.items ++ t) (sym (line-none c.args.beginning.now c.args.node.now (rw c.bytes.ensures at c.in-None.ensures)))
