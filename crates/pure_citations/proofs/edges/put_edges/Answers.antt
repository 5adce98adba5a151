use Rattle.pure_citations.specs.Cited.{forks}
use Rattle.pure_citations.proofs.EdgeCode.{own-there, none-put}
use Rattle.pure_citations.proofs.edges.put_edges.Goals as goal

pub put_shown-requires-clause-shown : goal.put_shown-requires-clause-shown
put_shown-requires-clause-shown c = own-there c.args.entries.now c.args.place c.index-entries-place.result c.requires.entry c.index-entries-place.is c.in-Some.rests.now c.in-Some.ensures

pub returns-in-None : goal.returns-in-None
returns-in-None c =
    none-put c.args.names.now (forks c.args.duties.now) c.args.entries.now c.requires.entries c.requires.beside c.requires.rests c.args.place c.index-entries-place.result c.requires.entry c.index-entries-place.is c.in-None.ensures c.args.graph.now.nodes.items
    c.args.text.now.items
