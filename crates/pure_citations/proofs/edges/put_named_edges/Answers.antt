use Rattle.pure_citations.proofs.DrawnLaws.{held-lent}
use Rattle.pure_citations.proofs.edges.put_named_edges.Goals as goal

pub put_edges_to-requires : goal.put_edges_to-requires
put_edges_to-requires c =
    held-lent c.args.names.now c.are_session_texts.ensures c.args.graph.now.nodes.items c.args.graph.now.codes.items c.args.named.now c.put_places.new.held.items c.requires.codes (rw (c.as_slice.ensures.value, c.new-held.ensures.items) at c.in_ok-put_places.ensures)
    c.names.result.now c.as_slice-2.result.now c.as_slice-3.result.now c.names.ensures c.as_slice-2.ensures.value c.as_slice-3.ensures.value

pub returns : goal.returns
returns c = (rw (c.text_of.ensures, c.names.ensures, c.as_slice-2.ensures.value) at c.in_ok-put_edges_to.ensures)
