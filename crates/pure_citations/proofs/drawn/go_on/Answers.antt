use Rattle.pure_citations.specs.Drawn.{edge_line, HasName}
use Rattle.pure_citations.proofs.DrawnLaws.{put-clear, put-at}
use Rattle.pure_citations.proofs.ListedLaws.{if-weaker}
use Rattle.pure_citations.proofs.drawn.go_on.Goals as goal

pub returns-then-is_clear-clause-text : goal.returns-then-is_clear-clause-text
returns-then-is_clear-clause-text c =
    if-weaker c.behind_word.result _ _ (λ next is. put-clear (edge_line c.args.from.now) (HasName c.args.names.now c.args.named.now) c.args.nodes.now c.args.held.now c.requires.held c.args.place next is (c.is_clear.ensures c.if-is_clear.true) c.args.text.now.items)
    c.behind_word.ensures

pub returns-clause-text : goal.returns-clause-text
returns-clause-text c =
    put-at (edge_line c.args.from.now) (HasName c.args.names.now c.args.named.now) c.args.nodes.now c.args.held.now c.requires.held c.args.place c.index-nodes-place.result c.requires.within c.index-nodes-place.is _ _ c.in_ok-put_if_held.ensures
