use Rattle.std.proofs.lemmas.List.{get_or_default}
use Rattle.pure_citations.proofs.EdgeCode.{name-put}
use Rattle.pure_citations.proofs.edges.put_name_of.Goals as goal

pub returns : goal.returns
returns c =
    name-put c.args.entries.now c.requires.ascend c.place_of-place.result c.index-entries-place.result c.args.label c.place_of-place.ensures.within c.index-entries-place.is c.place_of-place.ensures.at c.args.named.now.items _
    (rw (← c.index-entries-place.is) at c.in_ok-put_name.ensures)
